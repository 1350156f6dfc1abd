-- `frame::Tick::per_byte` meets its contract: each arm is one of the two speeds.
-- Assumes nothing.
use mathlib.Core.Path.{sym, ap, ◌∙◌}
use Rattle.frame.specs.Tick.{per_byte}
use Rattle.frame.proofs.TickLaws.{per_byte_at_100, per_byte_at_10}
use Rattle.frame.proofs.Tick.per_byte.Goals as goal

pub returns-in-Mbit100 : goal.returns-in-Mbit100
returns-in-Mbit100 c = sym (ap per_byte c.in-Mbit100.is ∙ per_byte_at_100)

pub returns-in-Mbit10 : goal.returns-in-Mbit10
returns-in-Mbit10 c = sym (ap per_byte c.in-Mbit10.is ∙ per_byte_at_10)

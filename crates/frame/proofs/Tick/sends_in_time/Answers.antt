-- `frame::Tick::sends_in_time` meets its contract: what the limit leaves above the base is 5,750.
-- Assumes nothing.
use mathlib.Core.Path.{sym}
use Rattle.frame.proofs.TickLaws.{sends_in_time_is}
use Rattle.frame.proofs.Tick.sends_in_time.Goals as goal

pub returns : goal.returns
returns c = sym (sends_in_time_is c.args.sum)

-- `station::flows::sweep` meets its contract: after i turns the tally is that of the first i flows.
-- Assumes nothing.
use mathlib.Core.Path.{◌≡◌}
use Rattle.std.specs.Prelude.{take, Some}
use Rattle.station.specs.Searching.{tally_of}
use Rattle.station.proofs.flows.sweep.Given as goal

abbrev pub invariant-loop-i : goal.invariant-loop-i
invariant-loop-i g l = Some l.tally ≡ tally_of (take l.i (g.F.Flows.flows l.flows)) l.d

-- `figures::links::in_time` meets its contract: after e turns none of the first e end systems sends late.
-- Assumes nothing.
use Prim.Native.Nat.{ℕ, ◌<◌}
use mathlib.Core.Bool.{false}
use mathlib.Core.Path.{◌≡◌}
use Rattle.rows.specs.Refusals.{sends_late}
use Rattle.sheet.specs.Sheet.{network_on}
use Rattle.figures.proofs.links.in_time.Given as goal

abbrev pub invariant-loop-e : goal.invariant-loop-e
invariant-loop-e l = (k : ℕ) → k < l.e → sends_late (network_on l.net.sheet.now) k ≡ false

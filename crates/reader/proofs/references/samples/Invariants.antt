-- `reader::references::samples` meets its contract: after s turns each of the first s streams is good.
-- Assumes nothing.
use Prim.Native.Nat.{ℕ, ◌<◌}
use mathlib.Core.Bool.{true}
use mathlib.Core.Path.{◌≡◌}
use Rattle.network.specs.References.{one_sample}
use Rattle.sheet.specs.Sheet.{network_on}
use Rattle.reader.proofs.references.samples.Given as goal

abbrev pub invariant-loop-s : goal.invariant-loop-s
invariant-loop-s l = (k : ℕ) → k < l.s → one_sample (network_on l.net) k ≡ true

-- `reader::references::first_bad` meets its contract: after i turns none of the first i rows has a fault.
-- Assumes nothing.
use Prim.Native.Nat.{ℕ, ◌<◌}
use Rattle.std.specs.Prelude.{None}
use Rattle.reader.proofs.references.first_bad.Given as goal

abbrev pub invariant-loop-i : goal.invariant-loop-i
invariant-loop-i g l = (k : ℕ) → k < l.i → goal.F-post g l.fault k None

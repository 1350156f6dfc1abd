-- `bits::gather` meets its contract: each turn takes eight bits more.
-- Assumes nothing.
use mathlib.Core.Path.{◌≡◌}
use Prim.Native.Nat.{◌+◌, ◌*◌, ◌≤◌}
use Rattle.bits.specs.Bits.{field_at}
use Rattle.bits.proofs.gather.Given as goal

abbrev pub invariant-loop-i : goal.invariant-loop-i
invariant-loop-i l = (l.from + l.i ≤ l.to) × (l.v ≡ field_at l.s (8 * l.from) (8 * l.i))

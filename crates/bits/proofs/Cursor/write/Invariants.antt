-- `bits::Cursor::write` meets its contract: after i turns the first i bits of the field stand in the list.
-- Assumes nothing.
use mathlib.Core.Path.{◌≡◌}
use Prim.Native.Nat.{◌-◌, ◌/◌, ◌^◌}
use Rattle.bits.specs.Bits.{put_at}
use Rattle.bits.proofs.Cursor.write.Given as goal

abbrev pub invariant-loop-i : goal.invariant-loop-i
invariant-loop-i l = l.s ≡ put_at l.initial.s l.self.at l.i (l.v / 2 ^ (l.w - l.i))

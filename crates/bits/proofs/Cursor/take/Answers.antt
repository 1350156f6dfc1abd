-- `bits::Cursor::take` meets its contract: the field is the middle of the bytes that it touches.
-- Assumes nothing.
use mathlib.Core.Path.{◌≡◌, refl, ap}
use Prim.Native.Nat.{ℕ, ◌+◌, ◌-◌, ◌*◌, ◌/◌, ◌^◌}
use native.Mathlib.Omega.{arith}
use Rattle.bits.proofs.CutLaws.{field_of_bytes}
use Rattle.bits.proofs.Cursor.take.Goals as goal

pub returns : goal.returns
returns c =
    let a = c.args in
    let at = a.self.at in
    let w = a.w in
    let to = (at + w + 7) / 8 in
    let behind : c.weight.result ≡ 2 ^ (8 * to - (at + w)) = rw c.weight.ensures (ap (λ (n : ℕ). 2 ^ n) (omega arith)) in (
      rw (c.gather-v.ensures, behind, c.weight-2.ensures)
          (field_of_bytes a.s.now at w (at / 8) to (omega arith) (omega arith)),
      refl,
    )

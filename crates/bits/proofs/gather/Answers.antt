-- `bits::gather` meets its contract: a byte more is eight bits more, and five bytes fit.
-- Assumes nothing.
use mathlib.Core.Path.{refl, sym}
use mathlib.Core.List.{List}
use Prim.Native.Nat.{ℕ, ◌+◌, ◌*◌, ◌^◌, ◌≤◌, ◌<◌}
use native.Mathlib.Omega.{arith}
use lib.Pow.{pow_mono}
use Rattle.bits.specs.Bits.{field_at}
use Rattle.bits.proofs.FieldLaws.{field_lt}
use Rattle.bits.proofs.CutLaws.{byte_more}
use Rattle.bits.proofs.gather.Goals as goal

-- what fewer than five bytes were leaves room for one more
small : (s : List ℕ) (from i : ℕ) → i < 5 → field_at s (8 * from) (8 * i) < 2 ^ 32
small s from i few =
    let e : 8 * i ≤ 32 = omega arith in
    omega (arith, field_lt s (8 * from) (8 * i), pow_mono e)

pub loop-i-init : goal.loop-i-init
unfolding field_at
loop-i-init c = (omega arith, refl)

pub overflow_mul-v : goal.overflow_mul-v
overflow_mul-v c = omega (arith, small c.args.s.now c.args.from c.loop-i.i (omega arith))

pub overflow_add-v-in-loop-i : goal.overflow_add-v-in-loop-i
overflow_add-v-in-loop-i c =
    let a = c.args in
    omega (arith, small a.s.now a.from c.loop-i.i (omega arith), c.type_inv.s (a.from + c.loop-i.i))

pub loop-i-preserved : goal.loop-i-preserved
loop-i-preserved c =
    let a = c.args in
    let l = c.loop-i in
    (omega arith, rw l.invariant.1 (sym (byte_more a.s.now a.from l.i (c.type_inv.s (a.from + l.i)).fits)))

-- `bits::with_digit` meets its contract: the sum is the byte with another digit, which fits a byte.
-- Assumes nothing.
use Prim.Native.Nat.{◌+◌, ◌*◌, ◌/◌, ◌%◌, ◌<◌}
use native.Mathlib.Omega.{arith}
use Rattle.bits.specs.Bits.{with_digit}
use Rattle.bits.proofs.Digits.{digit_lt}
use Rattle.bits.proofs.with_digit.Goals as goal

pub overflow_cast-result : goal.overflow_cast-result
unfolding with_digit
overflow_cast-result c =
    let a = c.args in
    let m = c.weight-m.result in
    let whole : (a.x / m / 2 * 2 + a.b) * m + a.x % m < 256 = rw c.weight-m.ensures (digit_lt 8 a.x a.p a.b (omega arith) (omega arith) (omega arith)) in
    omega (arith, whole)

pub returns : goal.returns
unfolding with_digit
returns c = rw c.weight-m.ensures

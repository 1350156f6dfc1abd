-- A field as a part of whole bytes: the number of the bytes that it touches, divided and reduced. It holds of any place and width.
-- Assumes nothing.
use mathlib.Core.Path.{◌≡◌}
use mathlib.Core.List.{List}
use Prim.Native.Nat.{ℕ, zero, suc, ◌+◌, ◌-◌, ◌*◌, ◌/◌, ◌%◌, ◌^◌, ◌≤◌, ◌<◌}
use native.Mathlib.Nat.{add-zero, add-suc, add_assoc, pow-suc}
use native.Mathlib.Omega.{arith}
use lib.ListN.{get_or}
use lib.Pow.{high, low}
use Rattle.bits.specs.Bits.{field_at}
use Rattle.bits.proofs.FieldLaws.{field_lt}
use Rattle.bits.proofs.ByteLaws.{byte_field}

-- u bits and w more
field_add : (s : List ℕ) (a u w : ℕ) → field_at s a (u + w) ≡ field_at s a u * 2 ^ w + field_at s (a + u) w
unfolding field_at
field_add s a u zero = rw (add-zero u) (omega arith)
field_add s a u (suc w) = rw (add-suc u w, ← add_assoc a u w, pow-suc 2 w) (omega (arith, field_add s a u w))

-- the middle of three parts
middle : (s : List ℕ) (a o w e : ℕ) → field_at s a (o + w + e) / 2 ^ e % 2 ^ w ≡ field_at s (a + o) w
middle s a o w e =
    rw (field_add s a (o + w) e, high (field_at s a (o + w)) e (field_lt s (a + (o + w)) e), field_add s a o w)
    (low (field_at s a o) w (field_lt s (a + o) w))

-- the number of the first k bytes from byte f on, and one byte more
pub byte_more : (s : List ℕ) (f k : ℕ) → get_or s (f + k) 0 < 256
    → field_at s (8 * f) (8 * (k + 1)) ≡ field_at s (8 * f) (8 * k) * 256 + get_or s (f + k) 0
byte_more s f k l =
    let e : 8 * (k + 1) ≡ 8 * k + 8 = omega arith in
    let g : 8 * f + 8 * k ≡ 8 * (f + k) = omega arith in
    rw (e, field_add s (8 * f) (8 * k) 8, g, byte_field s (f + k) l)

-- the field of w bits from bit a on, out of the bytes from f to before t, among which it stands
pub field_of_bytes : (s : List ℕ) (a w f t : ℕ) → 8 * f ≤ a → a + w ≤ 8 * t
    → field_at s (8 * f) (8 * (t - f)) / 2 ^ (8 * t - (a + w)) % 2 ^ w ≡ field_at s a w
field_of_bytes s a w f t h l =
    let parts : 8 * (t - f) ≡ a - 8 * f + w + (8 * t - (a + w)) = omega arith in
    let begins : 8 * f + (a - 8 * f) ≡ a = omega arith in
    rw (parts, middle s (8 * f) (a - 8 * f) w (8 * t - (a + w)), begins)

-- Lists of bytes: the eight bits from a byte's first on are the byte, so two lists of bytes with the same bits are one, and so go their parts.
-- Assumes nothing.
use mathlib.Core.Path.{◌≡◌, sym, ◌∙◌}
use mathlib.Core.List.{List}
use Prim.Native.Nat.{ℕ, zero, suc, ◌+◌, ◌-◌, ◌*◌, ◌/◌, ◌%◌, ◌^◌, ◌≤◌, ◌<◌}
use native.Mathlib.Nat.{div-eq_of_lt, div-one}
use native.Mathlib.Omega.{arith}
use lib.ListN.{length, get_or, take, drop, replicate}
use lib.Pow.{shr-shr}
use lib.Seq.{ext_get_or, get_or-take, get_or-drop}
use Rattle.bits.specs.Bits.{Bytes, digit, bit_at, field_at}
use Rattle.bits.proofs.FieldLaws.{field_by_bits}

bit_of_byte : (s : List ℕ) (k j : ℕ) → j < 8 → bit_at s (8 * k + j) ≡ digit (get_or s k 0) (7 - j)
unfolding bit_at
bit_of_byte s k j h =
    let e : (8 * k + j) / 8 ≡ k = omega arith in
    let f : (8 * k + j) % 8 ≡ j = omega arith in
    rw (e, f)

upper_bits : (s : List ℕ) (k j : ℕ) → get_or s k 0 < 256 → j ≤ 8 → field_at s (8 * k) j ≡ get_or s k 0 / 2 ^ (8 - j)
unfolding field_at digit
upper_bits s k zero h l = sym (div-eq_of_lt h)
upper_bits s k (suc j) h l =
    let e : 8 - suc j ≡ 7 - j = omega arith in
    let f : 7 - j + 1 ≡ 8 - j = omega arith in
    rw (upper_bits s k j h (omega arith), bit_of_byte s k j (omega arith), e, ← f, ← shr-shr (get_or s k 0) (7 - j) 1) (omega arith)

pub byte_field : (s : List ℕ) (k : ℕ) → get_or s k 0 < 256 → field_at s (8 * k) 8 ≡ get_or s k 0
byte_field s k h = upper_bits s k 8 h (omega arith) ∙ div-one (get_or s k 0)

pub bytes_zero : (n : ℕ) → Bytes (replicate n 0)
unfolding Bytes
bytes_zero zero k = omega arith
bytes_zero (suc n) zero = omega arith
bytes_zero (suc n) (suc k) = bytes_zero n k

-- two lists of bytes of one length with the same bits are one
pub same_bits : (s t : List ℕ) → Bytes s → Bytes t → length s ≡ length t → ((i : ℕ) → i < 8 * length s → bit_at s i ≡ bit_at t i) → s ≡ t
unfolding Bytes
same_bits s t bs bt n h =
    ext_get_or 0 s t n
    (λ k l. sym (byte_field s k (bs k)) ∙ field_by_bits s t (8 * k) 8 (λ i p q. h i (omega arith)) ∙ byte_field t k (bt k))

-- bit i of the n bytes from byte k on
pub bit_part : (s : List ℕ) (k n i : ℕ) → i < 8 * n → bit_at (take n (drop k s)) i ≡ bit_at s (8 * k + i)
unfolding bit_at
bit_part s k n i h =
    let e : (8 * k + i) / 8 ≡ k + i / 8 = omega arith in
    let f : (8 * k + i) % 8 ≡ i % 8 = omega arith in
    rw (e, f, get_or-take n (drop k s) (i / 8) 0 (omega arith), get_or-drop k s (i / 8) 0)

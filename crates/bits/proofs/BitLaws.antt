-- One bit of a list of bytes is a digit of its byte: what is written is read, no other bit changes, and bytes stay bytes.
-- Assumes nothing.
use mathlib.Core.Path.{◌≡◌}
use mathlib.Core.Logic.{◌≢◌}
use mathlib.Core.List.{List}
use Prim.Native.Nat.{ℕ, ◌-◌, ◌*◌, ◌/◌, ◌%◌, ◌<◌}
use native.Mathlib.Decide.{dec_lt, ℕ_discrete}
use native.Mathlib.Omega.{arith}
use lib.ListN.{length, get_or, length-set}
use lib.Seq.{get_or-set_same, get_or-set_other}
use Rattle.bits.specs.Bits.{Bytes, digit, with_digit, bit_at, put_bit}
use Rattle.bits.proofs.Digits.{digit_same, digit_below, digit_above, digit_lt}

pub bit_lt : (s : List ℕ) (i : ℕ) → bit_at s i < 2
unfolding bit_at digit
bit_lt s i = omega arith

pub length_bit : (s : List ℕ) (i b : ℕ) → length (put_bit s i b) ≡ length s
unfolding put_bit
length_bit s i b = length-set s (i / 8) _

module _ (s : List ℕ) (i b : ℕ) (h : i < 8 * length s) (hb : b < 2) where
  here : i / 8 < length s
  here = omega arith

  pub bit_same : bit_at (put_bit s i b) i ≡ b
  unfolding bit_at put_bit
  bit_same = rw (get_or-set_same s (i / 8) _ 0 here) (digit_same (get_or s (i / 8) 0) (7 - i % 8) b hb)

  pub bit_other : (j : ℕ) → j ≢ i → bit_at (put_bit s i b) j ≡ bit_at s j
  unfolding bit_at put_bit
  bit_other j ne = go (ℕ_discrete (j / 8) (i / 8))
    where
      x : ℕ
      x = get_or s (i / 8) 0

      near : (q : ℕ) → q ≢ 7 - i % 8 → digit (with_digit x (7 - i % 8) b) q ≡ digit x q
      near q n = side (dec_lt q (7 - i % 8))
        where
          side : Dec (q < 7 - i % 8) → digit (with_digit x (7 - i % 8) b) q ≡ digit x q
          side (yes l) = digit_below x (7 - i % 8) b q l
          side (no m) = digit_above x (7 - i % 8) b q hb (omega arith)

      go : Dec (j / 8 ≡ i / 8) → bit_at (put_bit s i b) j ≡ bit_at s j
      go (no n) = rw (get_or-set_other s (i / 8) (j / 8) _ 0 n)
      go (yes e) = rw (e, get_or-set_same s (i / 8) _ 0 here) (near (7 - j % 8) (omega arith))

  pub bytes_bit : Bytes s → Bytes (put_bit s i b)
  unfolding Bytes put_bit
  bytes_bit bs k = go (ℕ_discrete k (i / 8))
    where
      go : Dec (k ≡ i / 8) → get_or (put_bit s i b) k 0 < 256
      go (yes e) = rw (e, get_or-set_same s (i / 8) _ 0 here) (digit_lt 8 (get_or s (i / 8) 0) (7 - i % 8) b hb (omega arith) (bs (i / 8)))
      go (no n) = rw (get_or-set_other s (i / 8) k _ 0 n) (bs k)

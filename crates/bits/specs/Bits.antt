-- 01, The packed table: "Fields follow one another, most significant bit
-- first". The bits of a list of bytes, and the fields that they make up.
-- Assumes nothing.
use Rattle.std.specs.Prelude.{ℕ, zero, suc, ◌+◌, ◌-◌, ◌*◌, ◌/◌, ◌%◌, ◌^◌, ◌<◌, List, get_or, set}

-- each element is a byte
unfoldable pub Bytes : List ℕ → Type 0
Bytes s = (k : ℕ) → get_or s k 0 < 256

-- the digit of x that weighs 2 ^ p
unfoldable pub digit : ℕ → ℕ → ℕ
digit x p = x / 2 ^ p % 2

-- x with b for that digit
unfoldable pub with_digit : ℕ → ℕ → ℕ → ℕ
with_digit x p b = (x / 2 ^ p / 2 * 2 + b) * 2 ^ p + x % 2 ^ p

-- "most significant bit first": bit i of the list, counted from the most significant bit of its first byte
unfoldable pub bit_at : List ℕ → ℕ → ℕ
bit_at s i = digit (get_or s (i / 8) 0) (7 - i % 8)

-- the list with b for its bit i
unfoldable pub put_bit : List ℕ → ℕ → ℕ → List ℕ
put_bit s i b = set s (i / 8) (with_digit (get_or s (i / 8) 0) (7 - i % 8) b)

-- the number that the w bits from bit a on make up, most significant bit first
unfoldable pub field_at : List ℕ → ℕ → ℕ → ℕ
field_at s a zero = 0
field_at s a (suc w) = field_at s a w * 2 + bit_at s (a + w)

-- the list with the w lower bits of v for its w bits from bit a on, most significant bit first
unfoldable pub put_at : List ℕ → ℕ → ℕ → ℕ → List ℕ
put_at s a zero v = s
put_at s a (suc w) v = put_bit (put_at s a w (v / 2)) (a + w) (v % 2)

-- 01, The packed table: "Each read of a field hands on the place where the next begins." What the cursor gives and writes, for all input.
-- Assumes nothing.
use Rattle.std.specs.Prelude.{ℕ, ◌+◌, ◌*◌, ◌^◌, ◌≤◌, List, Bool, ◌&&◌, leb, length}
use Rattle.base.specs.Pick.{pick}
use Rattle.bits.specs.declared.Cursor.{Cursor}
use Rattle.bits.specs.declared.Field.{Field}
use Rattle.bits.specs.Bits.{field_at, put_at}

-- the w bits from bit a on are a field of the list, which is short enough that its bits can be counted
pub record Room (s : List ℕ) (a w : ℕ) : Type 0 where
  pub narrow : w ≤ 32
  pub inside : a + w ≤ 8 * length s
  pub short : length s ≤ 2 ^ 32

-- the same as a test of the list's length n
unfoldable pub room : ℕ → ℕ → ℕ → Bool
room n a w = leb w 32 && (leb n (2 ^ 32) && leb (a + w) (8 * n))

-- "the place where the next begins": behind the field, and the same place where the list has no such field
unfoldable pub next_place : List ℕ → ℕ → ℕ → Cursor
next_place s a w = record { at = pick (room (length s) a w) (a + w) a }

-- the field of w bits from bit a on, 0 where the list has no such field, and the place where the next begins
unfoldable pub field_of : List ℕ → ℕ → ℕ → Field
field_of s a w = record { value = pick (room (length s) a w) (field_at s a w) 0; next = next_place s a w }

-- the list with v for its field of w bits from bit a on; as it was where the list has no such field
unfoldable pub put_of : List ℕ → ℕ → ℕ → ℕ → List ℕ
put_of s a w v = pick (room (length s) a w) (put_at s a w v) s

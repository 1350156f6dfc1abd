-- 01, The packed table: "Fields follow one another, most significant bit
-- first, with no gaps inside a record." Records, sections and tables.
-- Assumes nothing.
use Rattle.std.specs.Prelude.{ℕ, ◌+◌, ◌*◌, List, [], ◌∷◌}
use Rattle.base.specs.Tabulate.{total}
use Rattle.bits.specs.Bits.{field_at, put_at}

-- "Fields follow one another [..] with no gaps inside a record": the numbers of a record, by its widths, from bit a on
unfoldable pub read_all : List ℕ → ℕ → List ℕ → List ℕ
read_all s a [] = []
read_all s a (w ∷ ws) = field_at s a w ∷ read_all s (a + w) ws

-- the list with these numbers for the record of these widths from bit a on
unfoldable pub put_all : List ℕ → ℕ → List ℕ → List ℕ → List ℕ
put_all s a [] vs = s
put_all s a (w ∷ ws) [] = s
put_all s a (w ∷ ws) (v ∷ vs) = put_all (put_at s a w v) (a + w) ws vs

-- the list with these rows, each of these widths, one after the other from bit a on
unfoldable pub put_rows : List ℕ → ℕ → List ℕ → List (List ℕ) → List ℕ
put_rows s a ws [] = s
put_rows s a ws (row ∷ rows) = put_rows (put_all s a ws row) (a + total ws) ws rows

-- a section: the widths of its rows, and how many they are
pub record Section : Type 0 where
  pub widths : List ℕ
  pub count : ℕ

-- how many bits a section has
unfoldable pub section_bits : Section → ℕ
section_bits x = x.count * total x.widths

-- the list with these rows for those of each section, one section after the other from bit a on
unfoldable pub put_table : List ℕ → ℕ → List Section → List (List (List ℕ)) → List ℕ
put_table s a [] parts = s
put_table s a (x ∷ xs) [] = s
put_table s a (x ∷ xs) (rows ∷ parts) = put_table (put_rows s a x.widths rows) (a + section_bits x) xs parts

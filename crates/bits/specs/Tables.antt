-- Whole sections and tables read back, and which numbers fit their fields: what the laws of reading after writing are stated by.
-- No demand is stated by these. Assumes nothing.
use Rattle.std.specs.Prelude.{ℕ, zero, suc, ◌+◌, ◌^◌, ◌<◌, ◌≡◌, List, [], ◌∷◌, length}
use Rattle.base.specs.Tabulate.{total}
use Rattle.bits.specs.Rows.{Section, read_all, section_bits}

-- a number for each width, and none too wide
unfoldable pub Fit : List ℕ → List ℕ → Type 0
Fit [] [] = Unit
Fit [] (v ∷ vs) = ⊥
Fit (w ∷ ws) [] = ⊥
Fit (w ∷ ws) (v ∷ vs) = (v < 2 ^ w) × Fit ws vs

-- n records of the same widths, one after the other from bit a on: the rows
unfoldable pub read_rows : List ℕ → ℕ → List ℕ → ℕ → List (List ℕ)
read_rows s a ws zero = []
read_rows s a ws (suc n) = read_all s a ws ∷ read_rows s (a + total ws) ws n

-- each row fits the widths
unfoldable pub FitRows : List ℕ → List (List ℕ) → Type 0
FitRows ws [] = Unit
FitRows ws (row ∷ rows) = Fit ws row × FitRows ws rows

-- how many bits the sections have
unfoldable pub table_bits : List Section → ℕ
table_bits [] = 0
table_bits (x ∷ xs) = section_bits x + table_bits xs

-- the rows of each section, one section after the other from bit a on
unfoldable pub read_table : List ℕ → ℕ → List Section → List (List (List ℕ))
read_table s a [] = []
read_table s a (x ∷ xs) = read_rows s a x.widths x.count ∷ read_table s (a + section_bits x) xs

-- for each section as many rows as it counts, and each fits
unfoldable pub FitTable : List Section → List (List (List ℕ)) → Type 0
FitTable [] [] = Unit
FitTable [] (rows ∷ parts) = ⊥
FitTable (x ∷ xs) [] = ⊥
FitTable (x ∷ xs) (rows ∷ parts) = (length rows ≡ x.count) × FitRows x.widths rows × FitTable xs parts

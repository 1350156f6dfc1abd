-- A table written one section at a time, and a section one row at a time: what each step writes, and where the next begins.
-- Assumes nothing.
use mathlib.Core.Path.{◌≡◌, refl, sym, ap₂}
use mathlib.Core.List.{List, [], ◌∷◌}
use Prim.Native.Nat.{ℕ, ◌+◌, ◌*◌}
use Rattle.base.specs.Tabulate.{total}
use Rattle.bits.specs.Rows.{put_all, put_rows, Section, section_bits, put_table}

pub rows_none : (s : List ℕ) (a : ℕ) (ws : List ℕ) → put_rows s a ws [] ≡ s
unfolding put_rows
rows_none s a ws = refl

pub rows_one : (s : List ℕ) (a : ℕ) (ws row : List ℕ) → put_rows s a ws (row ∷ []) ≡ put_all s a ws row
unfolding put_rows
rows_one s a ws row = refl

-- the first section is written, and the others from where it ends
pub table_step : (s t : List ℕ) (a b : ℕ) (x : Section) (xs : List Section) (rows : List (List ℕ)) (parts : List (List (List ℕ)))
    → t ≡ put_rows s a x.widths rows → b ≡ a + x.count * total x.widths
    → put_table s a (x ∷ xs) (rows ∷ parts) ≡ put_table t b xs parts
unfolding put_table section_bits
table_step s t a b x xs rows parts e f = ap₂ (λ (u : List ℕ) (c : ℕ). put_table u c xs parts) (sym e) (sym f)

pub table_done : (s : List ℕ) (a : ℕ) (parts : List (List (List ℕ))) → put_table s a [] parts ≡ s
unfolding put_table
table_done s a parts = refl

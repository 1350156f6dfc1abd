-- Rows of the same widths one after the other: row i stands i rows on, and what holds of one record holds of them, row by row.
-- Assumes nothing.
use mathlib.Core.Path.{◌≡◌, refl, ap, ap₂, ◌∙◌}
use mathlib.Core.List.{List, [], ◌∷◌, ◌++◌}
use Prim.Native.Nat.{ℕ, zero, suc, ◌+◌, ◌*◌, ◌≤◌, ◌<◌}
use native.Mathlib.Nat.{not-suc-le-zero, le_of_suc-le-suc}
use native.Mathlib.Omega.{arith}
use lib.ListN.{length, get_or}
use Rattle.bits.specs.Bits.{bit_at}
use Rattle.base.specs.Tabulate.{total}
use Rattle.bits.specs.Rows.{read_all, put_all, put_rows}
use Rattle.bits.specs.Tables.{Fit, read_rows, FitRows}
use Rattle.bits.proofs.RecordLaws.{read_by_bits, length_put_all, outside, read_back}

-- ---- the rows one by one
-- where the first row stands, and where row i of those that begin one row on
first : (a b : ℕ) → a ≡ a + 0 * b
first a b = omega arith

on : (a b i : ℕ) → a + b + i * b ≡ a + suc i * b
on a b i = omega arith

pub length_rows : (s : List ℕ) (a : ℕ) (ws : List ℕ) (n : ℕ) → length (read_rows s a ws n) ≡ n
unfolding read_rows
length_rows s a ws zero = refl
length_rows s a ws (suc n) = ap suc (length_rows s (a + total ws) ws n)

pub row_at : (s : List ℕ) (a : ℕ) (ws : List ℕ) (n i : ℕ) → i < n → get_or (read_rows s a ws n) i [] ≡ read_all s (a + i * total ws) ws
unfolding read_rows
row_at s a ws zero i h = absurd (not-suc-le-zero h)
row_at s a ws (suc n) zero h = ap (λ (b : ℕ). read_all s b ws) (first a (total ws))
row_at s a ws (suc n) (suc i) h =
    row_at s (a + total ws) ws n i (le_of_suc-le-suc h) ∙ ap (λ (b : ℕ). read_all s b ws) (on a (total ws) i)

-- n rows and one more
pub rows_more : (s : List ℕ) (a : ℕ) (ws : List ℕ) (n : ℕ) → read_rows s a ws (suc n) ≡ read_rows s a ws n ++ (read_all s (a + n * total ws) ws ∷ [])
unfolding read_rows
rows_more s a ws zero = ap (λ (b : ℕ). read_all s b ws ∷ []) (first a (total ws))
rows_more s a ws (suc n) =
    ap (λ (r : List (List ℕ)). read_all s a ws ∷ r)
    (rows_more s (a + total ws) ws n ∙ ap (λ (b : ℕ). read_rows s (a + total ws) ws n ++ (read_all s b ws ∷ [])) (on a (total ws) n))

pub put_rows_more : (s : List ℕ) (a : ℕ) (ws : List ℕ) (rows : List (List ℕ)) (row : List ℕ)
    → put_rows s a ws (rows ++ (row ∷ [])) ≡ put_all (put_rows s a ws rows) (a + length rows * total ws) ws row
unfolding put_rows
put_rows_more s a ws [] row = ap (λ (b : ℕ). put_all s b ws row) (first a (total ws))
put_rows_more s a ws (r ∷ rows) row =
    let t = put_all s a ws r in
    put_rows_more t (a + total ws) ws rows row
    ∙ ap (λ (b : ℕ). put_all (put_rows t (a + total ws) ws rows) b ws row) (on a (total ws) (length rows))

-- rows fit where each does
pub fit_rows_of : (ws : List ℕ) (rows : List (List ℕ)) → ((i : ℕ) → i < length rows → Fit ws (get_or rows i [])) → FitRows ws rows
unfolding FitRows
fit_rows_of ws [] f = tt
fit_rows_of ws (r ∷ rows) f = (f 0 (omega arith), fit_rows_of ws rows (λ i h. f (suc i) (omega arith)))

-- rows go by their bits alone
pub rows_by_bits : (s t : List ℕ) (a : ℕ) (ws : List ℕ) (n : ℕ) → ((i : ℕ) → a ≤ i → i < a + n * total ws → bit_at s i ≡ bit_at t i)
    → read_rows s a ws n ≡ read_rows t a ws n
unfolding read_rows
rows_by_bits s t a ws zero h = refl
rows_by_bits s t a ws (suc n) h =
    ap₂ ◌∷◌
    (read_by_bits s t a ws (λ i l m. h i l (omega arith)))
    (rows_by_bits s t (a + total ws) ws n (λ i l m. h i (omega arith) (omega arith)))

-- ---- what a write leaves
pub length_put_rows : (s : List ℕ) (a : ℕ) (ws : List ℕ) (rows : List (List ℕ)) → length (put_rows s a ws rows) ≡ length s
unfolding put_rows
length_put_rows s a ws [] = refl
length_put_rows s a ws (r ∷ rows) = length_put_rows (put_all s a ws r) (a + total ws) ws rows ∙ length_put_all s a ws r

-- a bit outside the rows is as it was
pub rows_outside : (s : List ℕ) (a : ℕ) (ws : List ℕ) (rows : List (List ℕ)) (i : ℕ) → a + length rows * total ws ≤ 8 * length s
    → (a ≤ i → i < a + length rows * total ws → ⊥) → bit_at (put_rows s a ws rows) i ≡ bit_at s i
unfolding put_rows
rows_outside s a ws [] i h out = refl
rows_outside s a ws (r ∷ rows) i h out =
    let n = length_put_all s a ws r in
    rows_outside (put_all s a ws r) (a + total ws) ws rows i (omega arith) (λ p q. out (omega arith) (omega arith))
    ∙ outside s a ws r i (omega arith) (λ p q. out p (omega arith))

-- ---- what is written is read
pub rows_back : (s : List ℕ) (a : ℕ) (ws : List ℕ) (rows : List (List ℕ)) → a + length rows * total ws ≤ 8 * length s → FitRows ws rows
    → read_rows (put_rows s a ws rows) a ws (length rows) ≡ rows
unfolding read_rows put_rows FitRows
rows_back s a ws [] h f = refl
rows_back s a ws (r ∷ rows) h f =
    let n = length_put_all s a ws r in
    let t = put_all s a ws r in
    let rest = rows_outside t (a + total ws) ws rows in
    ap₂ ◌∷◌
    (read_by_bits (put_rows t (a + total ws) ws rows) t a ws (λ i l m. rest i (omega arith) (λ p q. omega arith))
    ∙ read_back s a ws r (omega arith) f.0)
    (rows_back t (a + total ws) ws rows (omega arith) f.1)

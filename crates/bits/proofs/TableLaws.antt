-- Sections one after the other: what is written is read; and laid flat they are one record, so what fills a list is carried to another.
-- Assumes nothing.
use mathlib.Core.Path.{◌≡◌, refl, sym, ap, ap₂, ◌∙◌}
use mathlib.Core.List.{List, [], ◌∷◌, ◌++◌}
use Prim.Native.Nat.{ℕ, zero, suc, ◌+◌, ◌*◌, ◌≤◌, ◌<◌}
use native.Mathlib.Nat.{add-zero, add_assoc}
use native.Mathlib.Omega.{arith}
use lib.ListN.{length}
use Rattle.bits.specs.Bits.{Bytes, bit_at}
use Rattle.base.specs.Tabulate.{total}
use Rattle.bits.specs.Rows.{read_all, put_all, put_rows, Section, section_bits, put_table}
use Rattle.bits.specs.Tables.{read_rows, FitRows, table_bits, read_table, FitTable}
use Rattle.bits.proofs.RecordLaws.{length_read, total_append, read_append, put_append}
use Rattle.bits.proofs.RowLaws.{rows_by_bits, length_put_rows, rows_outside, rows_back}
use Rattle.bits.proofs.CarryLaws.{carried}

-- ---- what is written is read
-- as many rows as a section counts take its bits
taken : (x : Section) (rows : List (List ℕ)) → length rows ≡ x.count → length rows * total x.widths ≡ section_bits x
unfolding section_bits
taken x rows e = rw e

-- a bit outside the sections is as it was
pub table_outside : (s : List ℕ) (a : ℕ) (xs : List Section) (parts : List (List (List ℕ))) (i : ℕ) → a + table_bits xs ≤ 8 * length s
    → FitTable xs parts → (a ≤ i → i < a + table_bits xs → ⊥) → bit_at (put_table s a xs parts) i ≡ bit_at s i
unfolding put_table table_bits FitTable
table_outside s a [] parts i h f out = refl
table_outside s a (x ∷ xs) [] i h f out = refl
table_outside s a (x ∷ xs) (rows ∷ parts) i h f out =
    let t = put_rows s a x.widths rows in
    let n = length_put_rows s a x.widths rows in
    let e = taken x rows f.0 in
    table_outside t (a + section_bits x) xs parts i (omega arith) f.2 (λ p q. out (omega arith) (omega arith))
    ∙ rows_outside s a x.widths rows i (omega arith) (λ p q. out p (omega arith))

pub table_back : (s : List ℕ) (a : ℕ) (xs : List Section) (parts : List (List (List ℕ))) → a + table_bits xs ≤ 8 * length s → FitTable xs parts
    → read_table (put_table s a xs parts) a xs ≡ parts
unfolding read_table put_table table_bits FitTable
table_back s a [] [] h f = refl
table_back s a [] (rows ∷ parts) h f = absurd f
table_back s a (x ∷ xs) [] h f = absurd f
table_back s a (x ∷ xs) (rows ∷ parts) h f =
    let ws = x.widths in
    let t = put_rows s a ws rows in
    let n = length_put_rows s a ws rows in
    let e = taken x rows f.0 in
    let later = table_outside t (a + section_bits x) xs parts in
    ap₂ ◌∷◌
    (ap (read_rows (put_table t (a + section_bits x) xs parts) a ws) (sym f.0)
    ∙ rows_by_bits (put_table t (a + section_bits x) xs parts) t a ws (length rows) (λ i l m. later i (omega arith) f.2 (λ p q. omega arith))
    ∙ rows_back s a ws rows (omega arith) f.1)
    (table_back t (a + section_bits x) xs parts (omega arith) f.2)

-- ---- what a write leaves
pub length_put_table : (s : List ℕ) (a : ℕ) (xs : List Section) (parts : List (List (List ℕ))) → length (put_table s a xs parts) ≡ length s
unfolding put_table
length_put_table s a [] parts = refl
length_put_table s a (x ∷ xs) [] = refl
length_put_table s a (x ∷ xs) (rows ∷ parts) =
    length_put_table (put_rows s a x.widths rows) (a + section_bits x) xs parts ∙ length_put_rows s a x.widths rows

-- ---- first some sections and then one more
pub bits_more : (xs : List Section) (x : Section) → table_bits (xs ++ (x ∷ [])) ≡ table_bits xs + section_bits x
unfolding table_bits
bits_more [] x = omega arith
bits_more (y ∷ xs) x = omega (arith, bits_more xs x)

pub table_more : (s : List ℕ) (a : ℕ) (xs : List Section) (x : Section)
    → read_table s a (xs ++ (x ∷ [])) ≡ read_table s a xs ++ (read_rows s (a + table_bits xs) x.widths x.count ∷ [])
unfolding read_table table_bits
table_more s a [] x = ap (λ (b : ℕ). read_rows s b x.widths x.count ∷ []) (sym (add-zero a))
table_more s a (y ∷ xs) x =
    ap (λ (r : List (List (List ℕ))). read_rows s a y.widths y.count ∷ r)
    (table_more s (a + section_bits y) xs x
    ∙ ap (λ (b : ℕ). read_table s (a + section_bits y) xs ++ (read_rows s b x.widths x.count ∷ [])) (add_assoc a (section_bits y) (table_bits xs)))

pub fit_more : (xs : List Section) (parts : List (List (List ℕ))) (x : Section) (rows : List (List ℕ)) → FitTable xs parts
    → length rows ≡ x.count → FitRows x.widths rows → FitTable (xs ++ (x ∷ [])) (parts ++ (rows ∷ []))
unfolding FitTable
fit_more [] [] x rows f n r = (n, r, tt)
fit_more [] (p ∷ parts) x rows f n r = absurd f
fit_more (y ∷ xs) [] x rows f n r = absurd f
fit_more (y ∷ xs) (p ∷ parts) x rows f n r = (f.0, f.1, fit_more xs parts x rows f.2 n r)

-- ---- laid flat
-- the widths of n rows, and of all rows of the sections
repeated : List ℕ → ℕ → List ℕ
repeated ws zero = []
repeated ws (suc n) = ws ++ repeated ws n

flat : List Section → List ℕ
flat [] = []
flat (x ∷ xs) = repeated x.widths x.count ++ flat xs

total_repeated : (ws : List ℕ) (n : ℕ) → total (repeated ws n) ≡ n * total ws
unfolding repeated total
total_repeated ws zero = omega arith
total_repeated ws (suc n) = omega (arith, total_append ws (repeated ws n), total_repeated ws n)

total_flat : (xs : List Section) → total (flat xs) ≡ table_bits xs
unfolding flat total table_bits section_bits
total_flat [] = refl
total_flat (x ∷ xs) =
    total_append (repeated x.widths x.count) (flat xs) ∙ ap₂ ◌+◌ (total_repeated x.widths x.count) (total_flat xs)

-- first some fields are carried from t to z and then others
carry_append : (z t : List ℕ) (a : ℕ) (ws us : List ℕ)
    → put_all (put_all z a ws (read_all t a ws)) (a + total ws) us (read_all t (a + total ws) us) ≡ put_all z a (ws ++ us) (read_all t a (ws ++ us))
carry_append z t a ws us =
    sym (put_append z a ws us (read_all t a ws) (read_all t (a + total ws) us) (length_read t a ws)) ∙ rw (read_append t a ws us)

rows_flat : (z t : List ℕ) (a : ℕ) (ws : List ℕ) (n : ℕ) → put_rows z a ws (read_rows t a ws n) ≡ put_all z a (repeated ws n) (read_all t a (repeated ws n))
unfolding repeated put_rows read_rows put_all
rows_flat z t a ws zero = refl
rows_flat z t a ws (suc n) = rows_flat (put_all z a ws (read_all t a ws)) t (a + total ws) ws n ∙ carry_append z t a ws (repeated ws n)

table_flat : (z t : List ℕ) (a : ℕ) (xs : List Section) → put_table z a xs (read_table t a xs) ≡ put_all z a (flat xs) (read_all t a (flat xs))
unfolding flat put_table read_table put_all section_bits
table_flat z t a [] = refl
table_flat z t a (x ∷ xs) =
    let us = repeated x.widths x.count in
    let e = total_repeated x.widths x.count in
    table_flat (put_rows z a x.widths (read_rows t a x.widths x.count)) t (a + section_bits x) xs
    ∙ rw (rows_flat z t a x.widths x.count, ← e) (carry_append z t a us (flat xs))

-- ---- what was read from a list that the sections fill, written to another of its length, gives the list
pub table_carried : (t z : List ℕ) (xs : List Section) → Bytes z → Bytes t → length z ≡ length t → table_bits xs ≡ 8 * length t
    → put_table z 0 xs (read_table t 0 xs) ≡ t
table_carried t z xs bz bt n e = table_flat z t 0 xs ∙ carried t z (flat xs) bz bt n (total_flat xs ∙ e)

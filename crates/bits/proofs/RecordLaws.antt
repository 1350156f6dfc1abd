-- Fields one after the other: each begins where the one before ends, so a write of the later ones leaves the earlier, and what is written is read.
-- Assumes nothing.
use mathlib.Core.Path.{◌≡◌, refl, sym, ap, ap₂, ◌∙◌}
use mathlib.Core.List.{List, [], ◌∷◌, ◌++◌}
use Prim.Native.Nat.{ℕ, zero, suc, ◌+◌, ◌*◌, ◌≤◌, ◌<◌, zero-le}
use native.Mathlib.Nat.{not-suc-le-zero, le_of_suc-le-suc, le_refl, add-zero, zero-add, add_assoc}
use native.Mathlib.Numerals.{add-one}
use native.Mathlib.Omega.{arith}
use lib.ListN.{length, get_or, take, drop}
use lib.Seq.{take-nil}
use Rattle.bits.specs.Bits.{Bytes, bit_at, field_at, put_at}
use Rattle.base.specs.Tabulate.{total}
use Rattle.bits.specs.Rows.{read_all, put_all}
use Rattle.bits.specs.Tables.{Fit}
use Rattle.bits.proofs.FieldLaws.{field_lt, field_moved, field_by_bits, length_put, bytes_put, bit_outside, field_same}
use Rattle.bits.proofs.ByteLaws.{bit_part}

-- ---- how many bits
-- one width more
pub total_more : (ws : List ℕ) (i : ℕ) → i < length ws → total (take (i + 1) ws) ≡ total (take i ws) + get_or ws i 0
unfolding total
total_more ws i h = rw (add-one i) (go ws i h)
  where
    go : (ws : List ℕ) (i : ℕ) → i < length ws → total (take (suc i) ws) ≡ total (take i ws) + get_or ws i 0
    go [] i h = absurd (not-suc-le-zero h)
    go (w ∷ ws) zero h = omega arith
    go (w ∷ ws) (suc i) h = let e = go ws i (le_of_suc-le-suc h) in omega arith

pub total_le : (ws : List ℕ) (i : ℕ) → total (take i ws) ≤ total ws
unfolding total
total_le [] i = rw (take-nil i) (le_refl 0)
total_le (w ∷ ws) zero = zero-le
total_le (w ∷ ws) (suc i) = let e = total_le ws i in omega arith

pub total_append : (ws us : List ℕ) → total (ws ++ us) ≡ total ws + total us
unfolding total
total_append [] us = sym (zero-add (total us))
total_append (w ∷ ws) us = rw (total_append ws us) (sym (add_assoc w (total ws) (total us)))

-- ---- the numbers one by one
pub length_read : (s : List ℕ) (a : ℕ) (ws : List ℕ) → length (read_all s a ws) ≡ length ws
unfolding read_all
length_read s a [] = refl
length_read s a (w ∷ ws) = ap suc (length_read s (a + w) ws)

pub read_at : (s : List ℕ) (a : ℕ) (ws : List ℕ) (i : ℕ) → i < length ws → get_or (read_all s a ws) i 0 ≡ field_at s (a + total (take i ws)) (get_or ws i 0)
unfolding read_all total
read_at s a [] i h = absurd (not-suc-le-zero h)
read_at s a (w ∷ ws) zero h = rw (add-zero a)
read_at s a (w ∷ ws) (suc i) h = rw (← add_assoc a w (total (take i ws))) (read_at s (a + w) ws i (le_of_suc-le-suc h))

-- what is read fits
pub fit_read : (s : List ℕ) (a : ℕ) (ws : List ℕ) → Fit ws (read_all s a ws)
unfolding read_all Fit
fit_read s a [] = tt
fit_read s a (w ∷ ws) = (field_lt s a w, fit_read s (a + w) ws)

pub fit_length : (ws vs : List ℕ) → Fit ws vs → length vs ≡ length ws
unfolding Fit
fit_length [] [] f = refl
fit_length [] (v ∷ vs) f = absurd f
fit_length (w ∷ ws) [] f = absurd f
fit_length (w ∷ ws) (v ∷ vs) f = ap suc (fit_length ws vs f.1)

-- ---- first some fields and then others
pub read_append : (s : List ℕ) (a : ℕ) (ws us : List ℕ) → read_all s a (ws ++ us) ≡ read_all s a ws ++ read_all s (a + total ws) us
unfolding read_all total
read_append s a [] us = rw (add-zero a)
read_append s a (w ∷ ws) us = rw (← add_assoc a w (total ws)) (ap (λ (r : List ℕ). field_at s a w ∷ r) (read_append s (a + w) ws us))

pub put_append : (s : List ℕ) (a : ℕ) (ws us vs xs : List ℕ) → length vs ≡ length ws
    → put_all s a (ws ++ us) (vs ++ xs) ≡ put_all (put_all s a ws vs) (a + total ws) us xs
unfolding put_all total
put_append s a [] us [] xs e = rw (add-zero a)
put_append s a [] us (v ∷ vs) xs e = absurd (omega arith)
put_append s a (w ∷ ws) us [] xs e = absurd (omega arith)
put_append s a (w ∷ ws) us (v ∷ vs) xs e = rw (← add_assoc a w (total ws)) (put_append (put_at s a w v) (a + w) ws us vs xs (omega arith))

-- ---- what a read goes by
-- fields go by their bits alone, wherever they stand
pub read_moved : (s t : List ℕ) (a b : ℕ) (ws : List ℕ) → ((i : ℕ) → i < total ws → bit_at s (a + i) ≡ bit_at t (b + i)) → read_all s a ws ≡ read_all t b ws
unfolding read_all total
read_moved s t a b [] h = refl
read_moved s t a b (w ∷ ws) h =
    ap₂ ◌∷◌
    (field_moved s t a b w (λ i l. h i (omega arith)))
    (read_moved s t (a + w) (b + w) ws (λ i l. rw (add_assoc a w i, add_assoc b w i) (h (w + i) (omega arith))))

pub read_by_bits : (s t : List ℕ) (a : ℕ) (ws : List ℕ) → ((i : ℕ) → a ≤ i → i < a + total ws → bit_at s i ≡ bit_at t i) → read_all s a ws ≡ read_all t a ws
read_by_bits s t a ws h = read_moved s t a a ws (λ i l. h (a + i) (omega arith) (omega arith))

-- fields that lie in the n bytes from byte k on
pub read_part : (s : List ℕ) (k n a : ℕ) (ws : List ℕ) → a + total ws ≤ 8 * n → read_all (take n (drop k s)) a ws ≡ read_all s (8 * k + a) ws
read_part s k n a ws h =
    read_moved (take n (drop k s)) s a (8 * k + a) ws (λ i l. rw (add_assoc (8 * k) a i) (bit_part s k n (a + i) (omega arith)))

-- ---- what a write leaves
pub length_put_all : (s : List ℕ) (a : ℕ) (ws vs : List ℕ) → length (put_all s a ws vs) ≡ length s
unfolding put_all
length_put_all s a [] vs = refl
length_put_all s a (w ∷ ws) [] = refl
length_put_all s a (w ∷ ws) (v ∷ vs) = length_put_all (put_at s a w v) (a + w) ws vs ∙ length_put s a w v

pub bytes_put_all : (s : List ℕ) (a : ℕ) (ws vs : List ℕ) → a + total ws ≤ 8 * length s → Bytes s → Bytes (put_all s a ws vs)
unfolding put_all total
bytes_put_all s a [] vs h b = b
bytes_put_all s a (w ∷ ws) [] h b = b
bytes_put_all s a (w ∷ ws) (v ∷ vs) h b =
    let n = length_put s a w v in bytes_put_all (put_at s a w v) (a + w) ws vs (omega arith) (bytes_put s a w v (omega arith) b)

-- a bit outside the fields is as it was
pub outside : (s : List ℕ) (a : ℕ) (ws vs : List ℕ) (i : ℕ) → a + total ws ≤ 8 * length s → (a ≤ i → i < a + total ws → ⊥)
    → bit_at (put_all s a ws vs) i ≡ bit_at s i
unfolding put_all total
outside s a [] vs i h out = refl
outside s a (w ∷ ws) [] i h out = refl
outside s a (w ∷ ws) (v ∷ vs) i h out =
    let n = length_put s a w v in
    outside (put_at s a w v) (a + w) ws vs i (omega arith) (λ p q. out (omega arith) (omega arith))
    ∙ bit_outside s a w v i (omega arith) (λ p q. out p (omega arith))

pub before : (s : List ℕ) (a : ℕ) (ws vs : List ℕ) (i : ℕ) → a + total ws ≤ 8 * length s → i < a → bit_at (put_all s a ws vs) i ≡ bit_at s i
before s a ws vs i h l = outside s a ws vs i h (λ p q. omega arith)

pub after : (s : List ℕ) (a : ℕ) (ws vs : List ℕ) (i : ℕ) → a + total ws ≤ 8 * length s → a + total ws ≤ i → bit_at (put_all s a ws vs) i ≡ bit_at s i
after s a ws vs i h l = outside s a ws vs i h (λ p q. omega arith)

-- ---- reads and writes
-- what is written is read
pub read_back : (s : List ℕ) (a : ℕ) (ws vs : List ℕ) → a + total ws ≤ 8 * length s → Fit ws vs → read_all (put_all s a ws vs) a ws ≡ vs
unfolding read_all put_all total Fit
read_back s a [] [] h f = refl
read_back s a [] (v ∷ vs) h f = absurd f
read_back s a (w ∷ ws) [] h f = absurd f
read_back s a (w ∷ ws) (v ∷ vs) h f =
    let n = length_put s a w v in
    let t = put_at s a w v in
    ap₂ ◌∷◌
    (field_by_bits (put_all t (a + w) ws vs) t a w (λ i p q. before t (a + w) ws vs i (omega arith) q) ∙ field_same s a w v (omega arith) f.0)
    (read_back t (a + w) ws vs (omega arith) f.1)

-- A record field by field: what its first fields take, what a write of them leaves and one more adds, and what fits. Each goes by recursion on the widths.
-- Assumes nothing.
use mathlib.Core.Path.{◌≡◌, refl, sym, ap, ◌∙◌}
use mathlib.Core.List.{List, [], ◌∷◌, sum}
use Prim.Native.Nat.{ℕ, zero, suc, ◌+◌, ◌^◌, ◌≤◌, ◌<◌}
use native.Mathlib.Nat.{not-suc-le-zero, le_of_suc-le-suc}
use native.Mathlib.Numerals.{add-one}
use native.Mathlib.Omega.{arith}
use lib.ListN.{length, get_or, take}
use lib.Seq.{take-suc, length-take-le}
use Rattle.bits.specs.Bits.{put_at}
use Rattle.base.specs.Tabulate.{total}
use Rattle.bits.specs.Rows.{put_all}
use Rattle.bits.specs.Tables.{Fit}
use Rattle.bits.proofs.RecordLaws.{put_append}

pub total_is : (ws : List ℕ) → total ws ≡ sum ◌+◌ 0 ws
unfolding total sum
total_is [] = refl
total_is (w ∷ ws) = ap (λ (n : ℕ). w + n) (total_is ws)

pub total_start : (ws : List ℕ) → total (take 0 ws) ≡ 0
unfolding total
total_start ws = refl

-- ---- a record written field by field
pub put_start : (s : List ℕ) (a : ℕ) (ws vs : List ℕ) → put_all s a (take 0 ws) (take 0 vs) ≡ s
unfolding put_all
put_start s a ws vs = refl

-- one field more is written where the first ones end
pub put_more : (s : List ℕ) (a : ℕ) (ws vs : List ℕ) (i : ℕ) → i < length ws → i < length vs
    → put_all s a (take (i + 1) ws) (take (i + 1) vs) ≡ put_at (put_all s a (take i ws) (take i vs)) (a + total (take i ws)) (get_or ws i 0) (get_or vs i 0)
unfolding put_all
put_more s a ws vs i h k =
    let long = length-take-le i vs (omega arith) ∙ sym (length-take-le i ws (omega arith)) in
    rw (add-one i, take-suc ws i 0 h, take-suc vs i 0 k) (put_append s a (take i ws) (get_or ws i 0 ∷ []) (take i vs) (get_or vs i 0 ∷ []) long)

-- numbers past the last field are not written
pub put_first : (s : List ℕ) (a : ℕ) (ws vs : List ℕ) → length ws ≤ length vs → put_all s a ws (take (length ws) vs) ≡ put_all s a ws vs
unfolding put_all
put_first s a [] vs h = refl
put_first s a (w ∷ ws) [] h = absurd (not-suc-le-zero h)
put_first s a (w ∷ ws) (v ∷ vs) h = put_first (put_at s a w v) (a + w) ws vs (le_of_suc-le-suc h)

-- ---- what fits, one by one
pub fit_at : (ws vs : List ℕ) (i : ℕ) → Fit ws vs → i < length ws → get_or vs i 0 < 2 ^ get_or ws i 0
unfolding Fit
fit_at [] vs i f h = absurd (not-suc-le-zero h)
fit_at (w ∷ ws) [] i f h = absurd f
fit_at (w ∷ ws) (v ∷ vs) zero f h = f.0
fit_at (w ∷ ws) (v ∷ vs) (suc i) f h = fit_at ws vs i f.1 (le_of_suc-le-suc h)

pub fit_of : (ws vs : List ℕ) → length vs ≡ length ws → ((i : ℕ) → i < length ws → get_or vs i 0 < 2 ^ get_or ws i 0) → Fit ws vs
unfolding Fit
fit_of [] [] e f = tt
fit_of [] (v ∷ vs) e f = absurd (omega arith)
fit_of (w ∷ ws) [] e f = absurd (omega arith)
fit_of (w ∷ ws) (v ∷ vs) e f = (f 0 (omega arith), fit_of ws vs (omega arith) (λ i h. f (suc i) (omega arith)))

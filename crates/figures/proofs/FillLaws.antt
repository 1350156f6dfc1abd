-- Numbers noted one behind the other in a list that is zero behind them: one number more, zeros that need not be written, what stands at a place; and any list that has the numbers and the zeros is this one.
-- Assumes nothing.
use Prim.Native.Nat.{ℕ, zero, suc, ◌+◌, ◌-◌, ◌≤◌, ◌<◌}
use mathlib.Core.List.{List, [], ◌∷◌, ◌++◌, append_assoc}
use mathlib.Core.Path.{◌≡◌, refl, sym, ap, ◌∙◌}
use native.Mathlib.Decide.{dec_lt}
use native.Mathlib.Nat.{le_of_suc-le-suc}
use native.Mathlib.Numerals.{add-one}
use native.Mathlib.Omega.{arith}
use lib.ListN.{length, get_or, set, replicate}
use Rattle.base.specs.Tabulate.{tabulate}
use Rattle.base.proofs.TabulateLaws.{length_tabulate, tabulate_at, tabulate_same, tabulate_rows}
use Rattle.table.specs.Sections.{lent}
use Rattle.table.proofs.LentLaws.{lent_none, length_lent, lent_at, lent_more}
use Rattle.figures.specs.Computing.{noted}

-- ---- zeros
pub zeros_at : (k i : ℕ) → get_or (replicate {A = ℕ} k 0) i 0 ≡ 0
zeros_at zero i = refl
zeros_at (suc k) zero = refl
zeros_at (suc k) (suc i) = zeros_at k i

zeros_behind : (xs : List ℕ) (k i : ℕ) → length xs ≤ i → get_or (xs ++ replicate k 0) i 0 ≡ 0
zeros_behind [] k i h = zeros_at k i
zeros_behind (x ∷ xs) k zero h = absurd (omega arith)
zeros_behind (x ∷ xs) k (suc i) h = zeros_behind xs k i (le_of_suc-le-suc h)

module _ (f : ℕ → ℕ) (m : ℕ) where
  pub noted_none : replicate m 0 ≡ noted f m 0
  unfolding tabulate
  noted_none = sym (lent_none m)

  pub length_noted : (n : ℕ) → n ≤ m → length (noted f m n) ≡ m
  length_noted n h = length_lent m (tabulate f n) (omega (arith, length_tabulate f n))

  pub noted_more : (n x : ℕ) → n < m → x ≡ f n → set (noted f m n) n x ≡ noted f m (n + 1)
  unfolding tabulate
  noted_more n x h e = rw (add-one n) (lent_more m (tabulate f n) n x (length_tabulate f n) h ∙ ap (λ (y : ℕ). lent m (tabulate f n ++ (y ∷ []))) e)

  -- a zero behind is there already
  pub noted_zero : (n : ℕ) → n < m → f n ≡ 0 → noted f m (n + 1) ≡ noted f m n
  unfolding tabulate lent
  noted_zero n h e =
      let less : m - length (tabulate f n) ≡ suc (m - suc n) = omega (arith, length_tabulate f n) in
      let rest : m - length (tabulate f (suc n)) ≡ m - suc n = omega (arith, length_tabulate f (suc n)) in
      rw (add-one n, rest, e, less) (append_assoc (tabulate f n) (0 ∷ []) (replicate (m - suc n) 0))

  -- and so are several
  pub noted_zeros : (k n : ℕ) → n + k ≤ m → ((i : ℕ) → n ≤ i → i < n + k → f i ≡ 0) → noted f m (n + k) ≡ noted f m n
  noted_zeros zero n h zero_there = ap (noted f m) (omega arith)
  noted_zeros (suc k) n h zero_there =
      ap (noted f m) (omega arith)
      ∙ noted_zero (n + k) (omega arith) (zero_there (n + k) (omega arith) (omega arith))
      ∙ noted_zeros k n (omega arith) (λ i a b. zero_there i a (omega arith))

  -- ---- what stands in it
  pub noted_at : (n i : ℕ) → i < n → get_or (noted f m n) i 0 ≡ f i
  noted_at n i h = lent_at m (tabulate f n) i (omega (arith, length_tabulate f n)) ∙ tabulate_at f n i 0 h

  noted_behind : (n i : ℕ) → n ≤ i → get_or (noted f m n) i 0 ≡ 0
  unfolding lent
  noted_behind n i h = zeros_behind (tabulate f n) (m - length (tabulate f n)) i (omega (arith, length_tabulate f n))

  -- and any list that has the same is the same
  pub noted_by : (n : ℕ) (list : List ℕ) → n ≤ m → length list ≡ m → ((i : ℕ) → i < n → get_or list i 0 ≡ f i) → ((i : ℕ) → n ≤ i → get_or list i 0 ≡ 0)
      → list ≡ noted f m n
  noted_by n list h long at behind =
      sym (tabulate_rows list 0)
      ∙ ap (tabulate (λ i. get_or list i 0)) (long ∙ sym (length_noted n h))
      ∙ tabulate_same (λ i. get_or list i 0) (λ i. get_or (noted f m n) i 0) (length (noted f m n)) (λ i l. same i)
      ∙ tabulate_rows (noted f m n) 0
    where
      same : (i : ℕ) → get_or list i 0 ≡ get_or (noted f m n) i 0
      same i = elim (dec_lt i n) [
        | yes l ↦ at i l ∙ sym (noted_at n i l)
        | no o ↦ let far : n ≤ i = omega arith in behind i far ∙ sym (noted_behind n i far)
      ]

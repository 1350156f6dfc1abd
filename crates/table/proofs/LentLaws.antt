-- A lent list that holds some numbers and then zeros: number by number, and one number more; and a list that is cleared number by number.
-- Assumes nothing.
use mathlib.Core.Path.{◌≡◌, sym, ap, ◌∙◌}
use mathlib.Core.List.{List, [], ◌∷◌, ◌++◌, append-nil}
use Prim.Native.Nat.{ℕ, suc, ◌+◌, ◌-◌, ◌≤◌, ◌<◌}
use native.Mathlib.Numerals.{add-one}
use native.Mathlib.Omega.{arith}
use lib.ListN.{length, get_or, take, set, replicate, length-append, length-replicate, get_or-append, replicate-append-replicate}
use lib.Seq.{take_all, take-suc-set, set_at, append_snoc}
use Rattle.table.specs.Sections.{lent}

pub lent_none : (n : ℕ) → lent n [] ≡ replicate n 0
unfolding lent
lent_none n = let e : n - 0 ≡ n = omega arith in rw e

module _ (n : ℕ) (xs : List ℕ) where
  pub length_lent : length xs ≤ n → length (lent n xs) ≡ n
  unfolding lent
  length_lent h = omega (arith, length-append xs (replicate (n - length xs) 0), length-replicate {A = ℕ} (n - length xs) 0)

  pub lent_at : (i : ℕ) → i < length xs → get_or (lent n xs) i 0 ≡ get_or xs i 0
  unfolding lent
  lent_at i h = get_or-append xs (replicate (n - length xs) 0) 0 i h

  pub lent_whole : n ≤ length xs → lent n xs ≡ xs
  unfolding lent
  lent_whole h = let z : n - length xs ≡ 0 = omega arith in rw z (append-nil xs)

  pub lent_more : (k v : ℕ) → length xs ≡ k → k < n → set (lent n xs) k v ≡ lent n (xs ++ (v ∷ []))
  unfolding lent
  lent_more k v e h =
      let m = length-append xs (v ∷ []) in
      let before : n - length xs ≡ suc (n - suc k) = omega arith in
      let after : n - length (xs ++ (v ∷ [])) ≡ n - suc k = omega arith in
      rw (before, after) (set_at xs 0 (replicate (n - suc k) 0) v k e ∙ sym (append_snoc xs v (replicate (n - suc k) 0)))

-- ---- a list cleared number by number
pub cleared_more : (out : List ℕ) (i : ℕ) → i < length out → take i out ≡ replicate i 0 → take (i + 1) (set out i 0) ≡ replicate (i + 1) 0
cleared_more out i h e = rw (take-suc-set out i 0 h, e) at (ap (λ (n : ℕ). take n (set out i 0)) (add-one i)) ∙ replicate-append-replicate i 1 0

pub cleared_all : (out : List ℕ) (i : ℕ) → i ≡ length out → take i out ≡ replicate i 0 → out ≡ replicate (length out) 0
cleared_all out i e f = rw (← e) (sym (take_all i out (omega arith)) ∙ f)

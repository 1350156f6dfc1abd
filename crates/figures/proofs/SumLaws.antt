-- Sums over lists of numbers and over the numbers that pass a test: one number more, and no more than the greatest each time; and lists of flows under a map.
-- Assumes nothing.
use Prim.Native.Nat.{ℕ, zero, suc, ◌+◌, ◌*◌, ◌≤◌, ◌<◌}
use mathlib.Core.Bool.{Bool, true, false}
use mathlib.Core.List.{List, [], ◌∷◌, ◌++◌, map, map-append, Memᴰ}
use mathlib.Core.Path.{◌≡◌, refl, sym, ap, ◌∙◌}
use native.Mathlib.Decide.{dec_lt}
use native.Mathlib.Nat.{mul-le-mul_right}
use native.Mathlib.Omega.{arith}
use lib.ListN.{length, length-append}
use borrow.Author.Tests.{le-leb}
use Rattle.base.specs.Tabulate.{passing, total}
use Rattle.base.proofs.TabulateLaws.{passing_hit, passing_miss, passing_by, passing_member, length_passing}
use Rattle.bits.proofs.RecordLaws.{total_append}
use Rattle.station.specs.Station.{Flow}
use Rattle.station.specs.Offered.{in_range, all_in_range}
use Rattle.station.specs.Facts.{Periodic}
use Rattle.station.proofs.FlowLaws.{InRange, all_but_cost}

-- ---- of more numbers no fewer pass
pub passing_grows : (p : ℕ → Bool) (n m : ℕ) → n ≤ m → length (passing p n) ≤ length (passing p m)
passing_grows p n zero h = let e : n ≡ 0 = omega arith in rw e (omega arith)
passing_grows p n (suc m) h = elim (dec_lt n (suc m)) [
  | yes l ↦
      let before = passing_grows p n m (omega arith) in
      passing_by (λ (l : List ℕ). length (passing p n) ≤ length l) p m
      (λ k. omega (arith, length-append (passing p m) (m ∷ [])))
      (λ k. before)
  | no o ↦ let e : n ≡ suc m = omega arith in rw e (omega arith)
]

-- ---- sums
module _ (f : ℕ → ℕ) where
  pub total_snoc : (l : List ℕ) (n : ℕ) → total (map f (l ++ (n ∷ []))) ≡ total (map f l) + f n
  unfolding total
  total_snoc l n = rw (map-append f l (n ∷ []), total_append (map f l) (f n ∷ [])) (omega arith)

  pub total_hit : (p : ℕ → Bool) (n : ℕ) → p n ≡ true → total (map f (passing p (suc n))) ≡ total (map f (passing p n)) + f n
  total_hit p n e = ap (λ (l : List ℕ). total (map f l)) (passing_hit p n e) ∙ total_snoc (passing p n) n

  pub total_miss : (p : ℕ → Bool) (n : ℕ) → p n ≡ false → total (map f (passing p (suc n))) ≡ total (map f (passing p n))
  total_miss p n e = ap (λ (l : List ℕ). total (map f l)) (passing_miss p n e)

  pub total_most : (l : List ℕ) (b : ℕ) → ((i : ℕ) → Memᴰ i l → f i ≤ b) → total (map f l) ≤ length l * b
  unfolding total
  total_most [] b all = omega arith
  total_most (i ∷ l) b all = omega (arith, all i (Memᴰ.head refl), total_most l b (λ j m. all j (Memᴰ.tail m)))

  pub passing_most : (p : ℕ → Bool) (n b : ℕ) → ((i : ℕ) → i < n → f i ≤ b) → total (map f (passing p n)) ≤ n * b
  passing_most p n b all =
      omega (arith, total_most (passing p n) b (λ i m. all i (passing_member p n i m).0), mul-le-mul_right b (length_passing p n))

-- ---- flows
pub in_range_is : (f : Flow) → InRange f → in_range f ≡ true
in_range_is f r =
    sym (all_but_cost f r.period_low r.period_high r.jitter_high r.cost_low) ∙ le-leb f.cost 4000000000 r.cost_high

module _ {A : Type 0} (f : A → Flow) where
  pub map_in_range : (l : List A) → ((x : A) → Memᴰ x l → InRange (f x)) → all_in_range (map f l) ≡ true
  unfolding all_in_range
  map_in_range [] all = refl
  map_in_range (x ∷ l) all = rw (in_range_is (f x) (all x (Memᴰ.head refl)), map_in_range l (λ y m. all y (Memᴰ.tail m)))

  pub map_periodic : (l : List A) → ((x : A) → Memᴰ x l → 0 < (f x).period) → Periodic (map f l)
  unfolding Periodic
  map_periodic [] all = tt
  map_periodic (x ∷ l) all = (all x (Memᴰ.head refl), map_periodic l (λ y m. all y (Memᴰ.tail m)))

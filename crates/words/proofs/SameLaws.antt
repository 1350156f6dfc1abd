-- Two words that pass the test of being the same are equal; the test goes byte by byte from any place on, and it is std's.
-- Assumes nothing.
use Prim.Native.Nat.{ℕ, suc, ◌≤◌, ◌<◌}
use mathlib.Core.Path.{◌≡◌, refl, ap}
use mathlib.Core.Bool.{Bool, true, false, ◌&&◌, false≢true}
use mathlib.Core.List.{List, [], ◌∷◌}
use borrow.Author.Tests.{eqb-true, eq-eqb, ne_eqb}
use lib.Dec.{eqb}
use lib.ListN.{length, drop, get_or, drop_of_length-le}
use lib.Pointwise.{pointwise}
use lib.Seq.{drop-cons}
use Rattle.words.specs.Words.{same}

pub same_is : (v w : List ℕ) → same v w ≡ pointwise eqb v w
unfolding same
same_is [] [] = refl
same_is [] (c ∷ w) = refl
same_is (b ∷ v) [] = refl
same_is (b ∷ v) (c ∷ w) = ap (λ (t : Bool). eqb b c && t) (same_is v w)

pub same_was : (v w : List ℕ) → same v w ≡ true → v ≡ w
unfolding same
same_was [] [] e = refl
same_was [] (c ∷ w) e = absurd (false≢true e)
same_was (b ∷ v) [] e = absurd (false≢true e)
same_was (b ∷ v) (c ∷ w) e = go (eqb b c) (eqb-true b c) (same_was v w) e
  where
    go : (t : Bool) → (t ≡ true → b ≡ c) → (same v w ≡ true → v ≡ w) → t && same v w ≡ true → b ∷ v ≡ c ∷ w
    go true f g k = let p = f refl in let q = g k in cc
    go false f g k = absurd (false≢true k)

pub same_lengths : (v w : List ℕ) → (length v ≡ length w → ⊥) → same v w ≡ false
same_lengths v w h = go (same v w) (same_was v w)
  where
    go : (t : Bool) → (t ≡ true → v ≡ w) → t ≡ false
    go true f = absurd (h (ap length (f refl)))
    go false f = refl

-- ---- from place i on
module _ (v w : List ℕ) (i : ℕ) where
  pub same_next : i < length v → i < length w → get_or v i 0 ≡ get_or w i 0
      → same (drop i v) (drop i w) ≡ same (drop (suc i) v) (drop (suc i) w)
  unfolding same
  same_next h k e = rw (drop-cons v i 0 h, drop-cons w i 0 k, eq-eqb (get_or v i 0) (get_or w i 0) e)

  pub same_differs : i < length v → i < length w → (get_or v i 0 ≡ get_or w i 0 → ⊥) → same (drop i v) (drop i w) ≡ false
  unfolding same
  same_differs h k e = rw (drop-cons v i 0 h, drop-cons w i 0 k, ne_eqb (get_or v i 0) (get_or w i 0) e)

  pub same_end : length v ≤ i → length w ≤ i → same (drop i v) (drop i w) ≡ true
  unfolding same
  same_end h k = rw (drop_of_length-le v h, drop_of_length-le w k)

-- The number of a word, digit by digit: a number that has passed the greatest stays there, so the cap may be put on at every digit.
-- Assumes nothing.
use Prim.Native.Nat.{ℕ, suc, ◌+◌, ◌-◌, ◌*◌, ◌^◌, ◌≤◌, ◌<◌, min}
use mathlib.Core.Path.{◌≡◌, refl, sym, ◌∙◌}
use mathlib.Core.Bool.{true, false}
use mathlib.Core.List.{List, [], ◌∷◌}
use Rattle.std.specs.Prelude.{None, Some}
use native.Mathlib.Omega.{arith}
use lib.ListN.{length, drop, get_or, drop_of_length-le}
use lib.Seq.{drop-cons}
use Rattle.text.specs.Text.{spells, all, digit}
use Rattle.text.proofs.DecimalLaws.{spells_none, spells_next, all_none, all_next}
use Rattle.words.specs.Words.{numeral}

abbrev pub greatest : ℕ
greatest = 2 ^ 64 - 1

capped_early : (v : ℕ) (bs : List ℕ) → min (spells (min v greatest) bs) greatest ≡ min (spells v bs) greatest
capped_early v [] = rw (spells_none v, spells_none (min v greatest)) (omega arith)
capped_early v (b ∷ bs) =
    let e : min (min v greatest * 10 + (b - 48)) greatest ≡ min (v * 10 + (b - 48)) greatest = omega arith in
    rw (spells_next v b bs, spells_next (min v greatest) b bs)
    (sym (capped_early (min v greatest * 10 + (b - 48)) bs) ∙ rw e (capped_early (v * 10 + (b - 48)) bs))

pub numeral_some : (w : List ℕ) → 0 < length w → all digit w ≡ true → numeral w ≡ Some (min (spells 0 w) greatest)
unfolding numeral
numeral_some [] h e = absurd (omega arith)
numeral_some (b ∷ w) h e = rw e

pub numeral_none : (w : List ℕ) → all digit w ≡ false → numeral w ≡ None
unfolding numeral
numeral_none [] e = refl
numeral_none (b ∷ w) e = rw e

pub numeral_empty : (w : List ℕ) → length w ≡ 0 → numeral w ≡ None
unfolding numeral
numeral_empty [] h = refl
numeral_empty (b ∷ w) h = absurd (omega arith)

-- ---- from place i on
module _ (w : List ℕ) (i : ℕ) where
  pub digits_next : i < length w → digit (get_or w i 0) ≡ true → all digit (drop i w) ≡ all digit (drop (suc i) w)
  digits_next h e = rw (drop-cons w i 0 h, all_next digit (get_or w i 0) (drop (suc i) w), e)

  pub digits_broken : i < length w → digit (get_or w i 0) ≡ false → all digit (drop i w) ≡ false
  digits_broken h e = rw (drop-cons w i 0 h, all_next digit (get_or w i 0) (drop (suc i) w), e)

  pub digits_end : length w ≤ i → all digit (drop i w) ≡ true
  digits_end h = rw (drop_of_length-le w h) (all_none digit)

  pub capped_next : (v : ℕ) → i < length w
      → min (spells v (drop i w)) greatest ≡ min (spells (min (v * 10 + (get_or w i 0 - 48)) greatest) (drop (suc i) w)) greatest
  capped_next v h =
      rw (drop-cons w i 0 h, spells_next v (get_or w i 0) (drop (suc i) w)) (sym (capped_early (v * 10 + (get_or w i 0 - 48)) (drop (suc i) w)))

  pub capped_end : (v : ℕ) → length w ≤ i → v ≤ greatest → min (spells v (drop i w)) greatest ≡ v
  capped_end v h k = rw (drop_of_length-le w h, spells_none v) (omega arith)

-- Each keyword, and each word to choose from, is a word and is found at its place. So the words of a field say its number, with any words
-- behind them.
-- Assumes nothing.
use Prim.Native.Nat.{ℕ, zero, suc, ◌-◌, ◌^◌, ◌≤◌, ◌<◌, min}
use mathlib.Core.Path.{◌≡◌, refl, ap, ◌∙◌}
use mathlib.Core.Bool.{Bool, true, false, ◌&&◌}
use mathlib.Core.List.{List, [], ◌∷◌, ◌++◌}
use Rattle.std.specs.Prelude.{Option, None, Some}
use native.Mathlib.Omega.{arith}
use lib.Dec.{T, eqb, eqb→eq}
use lib.ListN.{length, get_or}
use Rattle.base.specs.Pick.{pick}
use Rattle.base.proofs.Every.{every, at, left, right, is_true}
use Rattle.layout.specs.declared.Name.{Name}
use Rattle.layout.specs.declared.Name.TheVariants as name
use Rattle.layout.specs.Names.{number_of, same as is}
use Rattle.text.specs.Text.{decimal, all}
use Rattle.words.specs.Words.{feed, hash, blank, same, numeral}
use Rattle.words.specs.Places.{ends}
use Rattle.words.specs.Printed.{in_line, in_word, is_word, are_words}
use Rattle.words.proofs.PrintedLaws.{number_back}
use Rattle.notation.specs.declared.Form.{Form}
use Rattle.notation.specs.declared.Form.TheVariants.{Decimal, Choice, Parent}
use Rattle.notation.specs.Notation.{Word, keywords, word_in, form_of, choices, none_word, after_word, parent_words, field_words}
use Rattle.notation.specs.Meant.{taken, row_from, field_from}
use Rattle.notation.specs.Back.{spoken, FieldBack}

-- ---- lists of words
is_at : ℕ → Option ℕ → Bool
is_at k None = false
is_at k (Some j) = eqb j k

is_at_lem : (k : ℕ) (o : Option ℕ) → T (is_at k o) → o ≡ Some k
unfolding is_at
is_at_lem k None t = absurd t
is_at_lem k (Some j) t = ap Some (eqb→eq j k t)

-- word k of these is a word, and found at k
found : List Word → ℕ → Bool
found vs k = is_word (get_or vs k []) && is_at k (word_in vs (get_or vs k []))

pub record Found (vs : List Word) (k : ℕ) (w : Word) : Type 0 where
  pub word : is_word w ≡ true
  pub place : word_in vs w ≡ Some k

same_word : (vs : List Word) (k : ℕ) (d e : Word) → k < length vs → get_or vs k d ≡ get_or vs k e
same_word [] k d e h = absurd (omega arith)
same_word (v ∷ vs) zero d e h = refl
same_word (v ∷ vs) (suc k) d e h = same_word vs k d e (omega arith)

found_at : (vs : List Word) → T (every (found vs) (length vs)) → (k : ℕ) (d : Word) → k < length vs → Found vs k (get_or vs k d)
unfolding found
found_at vs t k d h =
    let w = get_or vs k [] in
    let f = at (found vs) (length vs) t k h in
    rw (same_word vs k d [] h)
    (record {
      word = is_true _ (left (is_word w) (is_at k (word_in vs w)) f);
      place = is_at_lem k (word_in vs w) (right (is_word w) (is_at k (word_in vs w)) f);
    })

pub keyword_found : (k : ℕ) → k ≤ 6 → Found keywords k (get_or keywords k [])
unfolding keywords found is_at word_in same is_word all in_word in_line ends blank hash feed
keyword_found k h = found_at keywords tt k [] (omega arith)

kinds_found : T (every (found (choices name.Kind)) (length (choices name.Kind)))
unfolding choices number_of found is_at word_in same is_word all in_word in_line ends blank hash feed
kinds_found = tt

pub choices_are : (n : Name) → choices n ≡ pick (is n name.Kind) (choices name.Kind) []
unfolding choices number_of
choices_are n = refl

pub choice_found : (n : Name) (v : ℕ) (d : Word) → v < length (choices n) → Found (choices n) v (get_or (choices n) v d)
choice_found n v d h = go (is n name.Kind) (choices_are n)
  where
    go : (t : Bool) → choices n ≡ pick t (choices name.Kind) [] → Found (choices n) v (get_or (choices n) v d)
    go true e = rw e (found_at (choices name.Kind) kinds_found v d (rw e at h))
    go false e = absurd (omega (arith, rw e at h))

-- ---- a field, by its form
pub kind_form : form_of name.Kind ≡ Choice
unfolding form_of number_of
kind_form = refl

pub parent_form : form_of name.Parent ≡ Parent
unfolding form_of number_of
parent_form = refl

pub other_form : (n : Name) → (n ≡ name.Kind → ⊥) → (n ≡ name.Parent → ⊥) → form_of n ≡ Decimal
unfolding form_of number_of
other_form name.Version a b = refl
other_form name.EndSystems a b = refl
other_form name.Vls a b = refl
other_form name.Streams a b = refl
other_form name.Ports a b = refl
other_form name.Hops a b = refl
other_form name.SendLeast a b = refl
other_form name.SendGreatest a b = refl
other_form name.ReceiveLeast a b = refl
other_form name.ReceiveGreatest a b = refl
other_form name.Padding a b = refl
other_form name.Speed a b = refl
other_form name.EndSystem a b = refl
other_form name.Gap a b = refl
other_form name.SubLinks a b = refl
other_form name.Lmax a b = refl
other_form name.Vl a b = refl
other_form name.SubLink a b = refl
other_form name.Kind a b = absurd (a refl)
other_form name.Size a b = refl
other_form name.LeastSize a b = refl
other_form name.Period a b = refl
other_form name.Jitter a b = refl
other_form name.SwitchLeast a b = refl
other_form name.SwitchGreatest a b = refl
other_form name.Port a b = refl
other_form name.Parent a b = absurd (b refl)

module _ (n : Name) (v : ℕ) where
  pub decimal_words : form_of n ≡ Decimal → field_words n v ≡ decimal v ∷ []
  unfolding field_words
  decimal_words e = rw (e, field_words)

  pub choice_words : form_of n ≡ Choice → field_words n v ≡ get_or (choices n) v (decimal v) ∷ []
  unfolding field_words
  choice_words e = rw (e, field_words)

  pub parent_words_lem : form_of n ≡ Parent → field_words n v ≡ parent_words v
  unfolding field_words
  parent_words_lem e = rw (e, field_words)

module _ (n : Name) (w : Word) (ws : List Word) where
  pub decimal_from : form_of n ≡ Decimal → field_from n (w ∷ ws) ≡ taken (numeral w) ws
  unfolding field_from
  decimal_from e = rw (e, field_from)

  pub choice_from : form_of n ≡ Choice → field_from n (w ∷ ws) ≡ taken (word_in (choices n) w) ws
  unfolding field_from
  choice_from e = rw (e, field_from)

  pub parent_from_lem : form_of n ≡ Parent
      → field_from n (w ∷ ws) ≡ pick (same w none_word) (taken (Some 0) ws) (pick (same w after_word) (row_from ws) None)
  unfolding field_from
  parent_from_lem e = rw (e, field_from)

-- ---- read back
row_back : (g : ℕ) (rest : List Word) → suc g < 2 ^ 64 → row_from (decimal g ∷ rest) ≡ Some (record { value = suc g; rest = rest })
unfolding row_from taken
row_back g rest h =
    let least : min (suc g) (2 ^ 64 - 1) ≡ suc g = omega arith in
    rw ((number_back g (omega arith)).1, row_from, least)

parent_back : (v : ℕ) (rest : List Word) (n : Name) → form_of n ≡ Parent → v < 2 ^ 64
    → field_from n (parent_words v ++ rest) ≡ Some (record { value = v; rest = rest })
unfolding parent_words taken none_word after_word same
parent_back zero rest n e h = parent_from_lem n none_word rest e
parent_back (suc g) rest n e h = parent_from_lem n after_word (decimal g ∷ rest) e ∙ row_back g rest h

pub field_back : FieldBack
unfolding spoken taken
field_back n v rest h = go (form_of n) refl
  where
    go : (f : Form) → form_of n ≡ f → field_from n (field_words n v ++ rest) ≡ Some (record { value = v; rest = rest })
    go Decimal e = rw (decimal_words n v e, decimal_from n (decimal v) rest e, (number_back v (rw (e, spoken) at h)).1)
    go Choice e =
        let w = get_or (choices n) v (decimal v) in
        rw (choice_words n v e, choice_from n w rest e, (choice_found n v (decimal v) (rw (e, spoken) at h)).place)
    go Parent e = rw (parent_words_lem n v e) (parent_back v rest n e (rw (e, spoken) at h))

parent_are_words : (v : ℕ) → v < 2 ^ 64 → are_words (parent_words v) ≡ true
unfolding parent_words none_word after_word are_words is_word all in_word in_line ends blank hash feed
parent_are_words zero h = refl
parent_are_words (suc g) h = rw (number_back g (omega arith)).0

pub field_are_words : (n : Name) (v : ℕ) → v < spoken n → are_words (field_words n v) ≡ true
unfolding spoken are_words
field_are_words n v h = go (form_of n) refl
  where
    go : (f : Form) → form_of n ≡ f → are_words (field_words n v) ≡ true
    go Decimal e = rw (decimal_words n v e, (number_back v (rw (e, spoken) at h)).0)
    go Choice e = rw (choice_words n v e, (choice_found n v (decimal v) (rw (e, spoken) at h)).word)
    go Parent e = rw (parent_words_lem n v e) (parent_are_words v (rw (e, spoken) at h))

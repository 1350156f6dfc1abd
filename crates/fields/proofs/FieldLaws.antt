-- A word that is found is the first of the words from a place on, and the place behind it is behind one word; and what answers say of a field.
-- Assumes nothing.
use Prim.Native.Nat.{ℕ, zero, suc, ◌+◌, ◌-◌, ◌≤◌, ◌<◌}
use mathlib.Core.Path.{◌≡◌, sym, ap, ◌∙◌}
use mathlib.Core.List.{List, [], ◌∷◌}
use Rattle.std.specs.Prelude.{Option, None, Some}
use native.Mathlib.Omega.{arith}
use lib.ListN.{length}
use Rattle.words.specs.declared.Span.{Span}
use Rattle.words.specs.Words.{words_of}
use Rattle.words.specs.Places.{part, word_at}
use Rattle.words.proofs.WordLaws.{words_step, words_last}
use Rattle.layout.specs.declared.Name.{Name}
use Rattle.notation.specs.declared.Form.TheVariants.{Parent}
use Rattle.notation.specs.Notation.{form_of}
use Rattle.notation.specs.Meant as meant
use Rattle.notation.specs.Meant.{taken, row_from, field_from}
use Rattle.notation.specs.Steps.{parent_from}
use Rattle.notation.proofs.MeantLaws.{field_parent}
use Rattle.fields.specs.declared.Said.{Said}
use Rattle.fields.specs.Fields.{words_from, place_behind, Behind, taken_in, BehindTaken, Takes}

-- ---- places
pub behind_here : (text : List ℕ) (at end : ℕ) → Behind text at end at
unfolding place_behind
behind_here text at end =
    let e : words_from text at end - words_from text at end ≡ 0 = omega arith in
    record { fewer = omega arith; place = rw e }

place_sum : (text : List ℕ) (at end i j : ℕ) → place_behind text at end (i + j) ≡ place_behind text (place_behind text at end i) end j
unfolding place_behind
place_sum text at end zero j = let e : 0 + j ≡ j = omega arith in rw e
place_sum text at end (suc i) j =
    let e : suc i + j ≡ suc (i + j) = omega arith in rw e (place_sum text (word_at text at end).to end i j)

pub behind_more : (text : List ℕ) (at end p q : ℕ) → Behind text at end p → Behind text p end q → Behind text at end q
behind_more text at end p q b d =
    let i = words_from text at end - words_from text p end in
    let j = words_from text p end - words_from text q end in
    let e : words_from text at end - words_from text q end ≡ i + j = omega (arith, b.fewer, d.fewer) in
    record {
      fewer = omega (arith, b.fewer, d.fewer);
      place = rw (e, place_sum text at end i j, ← b.place) d.place;
    }

module _ (text : List ℕ) (at end : ℕ) (word : Span) (is : word ≡ word_at text at end) where
  pub none_left : word.to ≤ word.from → words_of (part text at end) ≡ []
  none_left h = words_last text at end (rw (← is) h)

  pub one_more : word.from < word.to → words_of (part text at end) ≡ part text word.from word.to ∷ words_of (part text word.to end)
  one_more h = rw is (words_step text at end (rw (← is) h))

  pub behind_word : word.from < word.to → Behind text at end word.to
  unfolding place_behind words_from
  behind_word h =
      let e : length (words_of (part text at end)) - length (words_of (part text word.to end)) ≡ 1 = omega (arith, ap length (one_more h)) in
      record { fewer = omega (arith, ap length (one_more h)); place = rw (e, is) }

-- ---- a field
module _ (text : List ℕ) (at end : ℕ) where
  pub takes_none : (says : Option meant.Taken) → says ≡ None → Takes text at end says None
  unfolding taken_in BehindTaken
  takes_none says e = record { said = sym e; behind = tt }

  pub takes_said : (says : Option meant.Taken) (s : Said) → says ≡ taken (Some s.number) (words_of (part text s.next end))
      → Behind text at end s.next → Takes text at end says (Some s)
  unfolding taken_in BehindTaken
  takes_said says s e b = record { said = sym e; behind = b }

  pub takes_later : (says said : Option meant.Taken) (r : Option Said) (p : ℕ) → says ≡ said → Behind text at end p → Takes text p end said r → Takes text at end says r
  unfolding BehindTaken
  takes_later says said None p e b t = record { said = t.said ∙ sym e; behind = tt }
  takes_later says said (Some s) p e b t = record { said = t.said ∙ sym e; behind = behind_more text at end p s.next b t.behind }

-- ---- by the first word
module _ (text : List ℕ) (at end : ℕ) (word : Span) (is : word ≡ word_at text at end) (h : word.from < word.to) where
  abbrev first : List ℕ
  first = part text word.from word.to

  abbrev rest : List (List ℕ)
  rest = words_of (part text word.to end)

  -- a field of one word: the number that the word stands for, or none
  pub word_takes : (says : List (List ℕ) → Option meant.Taken) (o : Option ℕ) (v : ℕ) → says (first ∷ rest) ≡ taken o rest → o ≡ Some v
      → Takes text at end (says (words_of (part text at end))) (Some (record { number = v; next = word.to }))
  word_takes says o v e d =
      takes_said text at end _ _ (ap says (one_more text at end word is h) ∙ e ∙ ap (λ (p : Option ℕ). taken p rest) d) (behind_word text at end word is h)

  pub word_not : (says : List (List ℕ) → Option meant.Taken) (o : Option ℕ) (r : Option Said) → says (first ∷ rest) ≡ taken o rest → o ≡ None → r ≡ None
      → Takes text at end (says (words_of (part text at end))) r
  unfolding taken
  word_not says o r e d n = rw n (takes_none text at end _ (ap says (one_more text at end word is h) ∙ e ∙ ap (λ (p : Option ℕ). taken p rest) d))

  pub parent_takes : (n : Name) (r : Option Said) → form_of n ≡ Parent → Takes text word.to end (parent_from first rest) r
      → Takes text at end (field_from n (words_of (part text at end))) r
  parent_takes n r f t =
      takes_later text at end _ _ r word.to (ap (field_from n) (one_more text at end word is h) ∙ field_parent n _ _ f)
      (behind_word text at end word is h) t

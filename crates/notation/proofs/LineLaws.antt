-- The words of a line say its section and its numbers, field by field; those of a field that has none are passed over.
-- Assumes nothing.
use Prim.Native.Nat.{ℕ, ◌≤◌}
use mathlib.Core.Path.{◌≡◌, refl}
use mathlib.Core.Bool.{Bool, true, false, ◌&&◌}
use mathlib.Core.List.{List, [], ◌∷◌, ◌++◌}
use native.Mathlib.Omega.{arith}
use lib.Dec.{eqb}
use Rattle.base.specs.Pick.{pick}
use Rattle.layout.specs.declared.Shape.{Shape}
use Rattle.words.specs.Printed.{is_word, are_words}
use Rattle.notation.specs.Notation.{Word, line_fields, field_words}
use Rattle.notation.specs.Meant.{numbers, with_number, fields_from, line_said}
use Rattle.notation.specs.Printed.{fields_words, line_words}
use Rattle.notation.specs.Back.{sayable, Sayable, LineBack}
use Rattle.notation.proofs.FieldLaws.{keyword_found, field_back, field_are_words}

fields_back : (ss : List Shape) (ns : List ℕ) → Sayable ss ns → fields_from ss (fields_words ss ns) ≡ numbers ns
unfolding Sayable sayable fields_from fields_words with_number
fields_back [] [] h = refl
fields_back [] (n ∷ ns) h = absurd h
fields_back (s ∷ ss) [] h = absurd h
fields_back (s ∷ ss) (n ∷ ns) (h, k) = go (eqb s.width 0) refl (fields_back ss ns k)
  where
    go : (t : Bool) → eqb s.width 0 ≡ t → fields_from ss (fields_words ss ns) ≡ numbers ns
        → fields_from (s ∷ ss) (fields_words (s ∷ ss) (n ∷ ns)) ≡ numbers (n ∷ ns)
    go true e f = let none : n ≡ 0 = omega (arith, rw e at h) in rw (e, f, none)
    go false e f = rw (e, field_back s.name n (fields_words ss ns) (rw e at h), f)

words_append : (vs ws : List Word) → are_words vs ≡ true → are_words ws ≡ true → are_words (vs ++ ws) ≡ true
unfolding are_words
words_append [] ws e f = f
words_append (v ∷ vs) ws e f = go (is_word v) (words_append vs ws) e
  where
    go : (t : Bool) → (are_words vs ≡ true → are_words ws ≡ true → are_words (vs ++ ws) ≡ true) → t && are_words vs ≡ true
        → t && are_words (vs ++ ws) ≡ true
    go true g e = g e f
    go false g e = e

fields_words_lem : (ss : List Shape) (ns : List ℕ) → Sayable ss ns → are_words (fields_words ss ns) ≡ true
unfolding Sayable sayable fields_words are_words
fields_words_lem [] ns h = refl
fields_words_lem (s ∷ ss) [] h = refl
fields_words_lem (s ∷ ss) (n ∷ ns) (h, k) = go (eqb s.width 0) refl (fields_words_lem ss ns k)
  where
    go : (t : Bool) → eqb s.width 0 ≡ t → are_words (fields_words ss ns) ≡ true
        → are_words (pick t [] (field_words s.name n) ++ fields_words ss ns) ≡ true
    go true e f = f
    go false e f = words_append (field_words s.name n) (fields_words ss ns) (field_are_words s.name n (rw e at h)) f

pub line_back : LineBack
unfolding line_said line_words
line_back version section ns h k =
    rw ((keyword_found section h).place, line_said, fields_back (line_fields version section) ns k)

pub line_are_words : (version section : ℕ) (ns : List ℕ) → section ≤ 6 → Sayable (line_fields version section) ns
    → are_words (line_words version section ns) ≡ true
unfolding line_words are_words
line_are_words version section ns h k = rw (keyword_found section h).word (fields_words_lem (line_fields version section) ns k)

-- The first piece of a text that is cut is what stands before the first cut, and the others are the pieces of what stands behind it.
-- So the lines of a text, and the words of a line, are found one by one from the front.
-- Assumes nothing.
use Prim.Native.Nat.{ℕ, ◌-◌, ◌<◌}
use mathlib.Core.Path.{◌≡◌, refl, sym, ap, ◌∙◌}
use mathlib.Core.Bool.{Bool, true, false, not, false≢true}
use mathlib.Core.List.{List, [], ◌∷◌}
use native.Mathlib.Omega.{arith}
use native.Mathlib.Numerals.{add-one}
use borrow.Author.Tests.{eqb-true}
use lib.Dec.{eqb}
use lib.ListN.{length, drop, drop_of_length-le, length-drop}
use lib.Seq.{drop-cons, take_all}
use Rattle.base.specs.Pick.{pick}
use Rattle.words.specs.Words.{feed, hash, blank, before, in_front, split_at, present, lines_of, uncommented, words_of}
use Rattle.words.specs.Places.{part, first_place, line_end, begins, ends, word_at}
use Rattle.words.specs.Found.{LinesStep, LinesLast, LineWithin, WordsStep, WordsLast}
use Rattle.words.proofs.PlaceLaws.{no_bytes, since, before_stop, before_go, before_again, part_rest}
use Rattle.words.proofs.PlaceLaws.{part_before, part_from, first_from, first_to}

-- ---- pieces
-- the pieces behind a cut: none where the text ends there
pub behind : (ℕ → Bool) → List ℕ → List (List ℕ)
behind p [] = []
behind p (b ∷ bs) = split_at p bs

pub split_first : (p : ℕ → Bool) (l : List ℕ) → split_at p l ≡ before p l ∷ behind p (since p l)
unfolding split_at before in_front behind
split_first p [] = refl
split_first p (b ∷ bs) = go (p b) (split_first p bs)
  where
    go : (t : Bool) → split_at p bs ≡ before p bs ∷ behind p (since p bs)
        → pick t ([] ∷ split_at p bs) (in_front b (split_at p bs))
        ≡ pick t [] (b ∷ before p bs) ∷ behind p (drop (length (pick t [] (b ∷ before p bs))) (b ∷ bs))
    go true e = refl
    go false e = ap (in_front b) e

pub split_on : (p : ℕ → Bool) (b : ℕ) (bs : List ℕ) → p b ≡ false → split_at p (b ∷ bs) ≡ in_front b (split_at p bs)
unfolding split_at
split_on p b bs e = rw e

-- ---- words, from the front
pub no_words : words_of [] ≡ []
unfolding words_of uncommented before split_at present
no_words = refl

blank_no_hash : (b : ℕ) → blank b ≡ true → hash b ≡ false
unfolding blank hash
blank_no_hash b e = go (eqb b 35) (eqb-true b 35) e
  where
    go : (t : Bool) → (t ≡ true → b ≡ 35) → blank b ≡ true → t ≡ false
    go true f e = absurd (false≢true (rw (f refl) at e))
    go false f e = refl

pub skip_blank : (b : ℕ) (l : List ℕ) → blank b ≡ true → words_of (b ∷ l) ≡ words_of l
unfolding words_of uncommented split_at present
skip_blank b l e = rw (before_go hash b l (blank_no_hash b e), split_at, e)

comment_none : (b : ℕ) (l : List ℕ) → hash b ≡ true → words_of (b ∷ l) ≡ []
unfolding words_of uncommented split_at present
comment_none b l e = rw (before_stop hash b l e)

-- blanks in front are passed over
pub skip_blanks : (l : List ℕ) → words_of l ≡ words_of (since begins l)
unfolding before begins
skip_blanks [] = refl
skip_blanks (b ∷ bs) = go (blank b) refl (skip_blanks bs)
  where
    go : (t : Bool) → blank b ≡ t → words_of bs ≡ words_of (since begins bs)
        → words_of (b ∷ bs) ≡ words_of (drop (length (pick (not t) [] (b ∷ before begins bs))) (b ∷ bs))
    go true e k = skip_blank b bs e ∙ k
    go false e k = refl

-- ---- the first word
-- a line without its comment, cut at blanks: its first piece ends at a blank or at the comment
split_uncommented : (l : List ℕ)
    → split_at blank (before hash l) ≡ before ends l ∷ behind blank (before hash (since ends l))
unfolding split_at before behind ends in_front
split_uncommented [] = refl
split_uncommented (b ∷ bs) = go (hash b) (blank b) refl refl (split_uncommented bs)
  where
    go : (h k : Bool) → hash b ≡ h → blank b ≡ k
        → split_at blank (before hash bs) ≡ before ends bs ∷ behind blank (before hash (since ends bs))
        → split_at blank (before hash (b ∷ bs)) ≡ before ends (b ∷ bs) ∷ behind blank (before hash (since ends (b ∷ bs)))
    go true true e f ih = simp (e, f)
    go true false e f ih = simp (e, f)
    go false true e f ih = simp (e, f)
    go false false e f ih = rw (e, f) (ap (in_front b) ih)

-- what is cut off behind a word are the words of the rest
behind_words : (m : List ℕ) → before ends m ≡ [] → present (behind blank (before hash m)) ≡ words_of m
unfolding before behind present words_of uncommented split_at ends
behind_words [] e = refl
behind_words (b ∷ m) e = go (hash b) (blank b) refl refl e
  where
    go : (h k : Bool) → hash b ≡ h → blank b ≡ k → before ends (b ∷ m) ≡ [] → present (behind blank (before hash (b ∷ m))) ≡ words_of (b ∷ m)
    go true k e f d = rw e
    go false true e f d = rw (e, f)
    go false false e f d = absurd (omega (arith, ap length (rw (e, f) at d)))

pub word_first : (l : List ℕ) → 0 < length (before ends l) → words_of l ≡ before ends l ∷ words_of (since ends l)
unfolding words_of uncommented present
word_first l h =
    ap present (split_uncommented l)
    ∙ go (before ends l) (behind blank (before hash (since ends l))) h
    ∙ ap (λ (ws : List (List ℕ)). before ends l ∷ ws) (behind_words (since ends l) (before_again ends l))
  where
    go : (w : List ℕ) (ps : List (List ℕ)) → 0 < length w → present (w ∷ ps) ≡ w ∷ present ps
    go [] ps h = absurd (omega arith)
    go (b ∷ w) ps h = refl

-- after the blanks in front comes a word, a comment or the end
no_word : (m : List ℕ) → before begins m ≡ [] → before ends m ≡ [] → words_of m ≡ []
unfolding before begins ends
no_word [] d e = no_words
no_word (b ∷ m) d e = go (hash b) (blank b) refl refl d e
  where
    go : (h k : Bool) → hash b ≡ h → blank b ≡ k → before begins (b ∷ m) ≡ [] → before ends (b ∷ m) ≡ [] → words_of (b ∷ m) ≡ []
    go true k f g d e = comment_none b m f
    go false true f g d e = absurd (omega (arith, ap length (rw g at d)))
    go false false f g d e = absurd (omega (arith, ap length (rw (f, g) at e)))

-- ---- lines and words by their places
module _ (text : List ℕ) (at : ℕ) where
  line_part : before feed (drop at text) ≡ part text at (line_end text at)
  unfolding line_end
  line_part = ap (before feed) (sym (part_rest text at)) ∙ sym (part_before feed text at (length text))

  line_rest : since feed (drop at text) ≡ drop (line_end text at) text
  unfolding line_end
  line_rest =
      ap (λ (l : List ℕ). since feed l) (sym (part_rest text at))
      ∙ sym (part_from feed text at (length text)) ∙ part_rest text (line_end text at)

pub lines_step : LinesStep
unfolding lines_of behind
lines_step text at h =
    split_first feed (drop at text) ∙ rw (line_rest text at, drop-cons text (line_end text at) 0 h, line_part text at, add-one)

pub lines_last : LinesLast
unfolding lines_of behind part
lines_last text at h =
    let whole = take_all (line_end text at - at) (drop at text) (rw length-drop (omega arith)) in
    split_first feed (drop at text) ∙ rw (line_rest text at, drop_of_length-le text h, line_part text at, whole)

pub line_within : LineWithin
unfolding line_end
line_within text at = (first_from feed text at (length text), omega (arith, first_to feed text at (length text)))

module _ (text : List ℕ) (at end : ℕ) where
  -- the words from the first byte that is no blank
  from_word : words_of (part text at end) ≡ words_of (part text (word_at text at end).from end)
  unfolding word_at
  from_word = skip_blanks (part text at end) ∙ ap words_of (sym (part_from begins text at end))

  word_part : before ends (part text (word_at text at end).from end) ≡ part text (word_at text at end).from (word_at text at end).to
  unfolding word_at
  word_part = sym (part_before ends text (word_at text at end).from end)

pub words_step : WordsStep
unfolding word_at first_place
words_step text at end h =
    let from = (word_at text at end).from in
    let to = (word_at text at end).to in
    let rest = part text from end in
    from_word text at end
    ∙ word_first rest (omega arith)
    ∙ ap (λ (w : List ℕ). w ∷ words_of (since ends rest)) (word_part text at end)
    ∙ ap (λ (l : List ℕ). part text from to ∷ words_of l) (sym (part_from ends text from end))

pub words_last : WordsLast
unfolding word_at first_place
words_last text at end h =
    let rest = part text (word_at text at end).from end in
    from_word text at end
    ∙ no_word rest
    (ap (before begins) (part_from begins text at end) ∙ before_again begins (part text at end))
    (no_bytes (before ends rest) (omega arith))

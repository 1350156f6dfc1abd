-- The lines of a text one after the other, and the numbers that a line says: none, or those of a whole record.
-- Assumes nothing.
use Prim.Native.Nat.{ℕ, suc, ◌+◌, ◌≤◌, ◌<◌}
use mathlib.Core.Path.{◌≡◌, refl, ap, ◌∙◌}
use mathlib.Core.Bool.{Bool, true, false}
use mathlib.Core.List.{List, [], ◌∷◌, ◌++◌, map}
use Rattle.std.specs.Prelude.{Option, None, Some}
use mathlib.Core.Logic.{◌⊎◌, inl, inr}
use native.Mathlib.Omega.{arith}
use native.Mathlib.Decide.{dec_lt}
use borrow.Author.Tests.{le-leb, lt-leb, eqb-true}
use lib.Dec.{leb, eqb}
use lib.ListN.{length, drop}
use Rattle.base.specs.Pick.{pick}
use Rattle.layout.specs.declared.Shape.{Shape}
use Rattle.words.specs.Words.{lines_of, words_of}
use Rattle.words.specs.Places.{part, line_end}
use Rattle.words.proofs.PlaceLaws.{part_rest}
use Rattle.words.proofs.WordLaws.{lines_step, lines_last, line_within}
use Rattle.notation.specs.Notation.{Word, keywords, word_in, line_fields}
use Rattle.notation.specs.Meant.{Taken, Said, numbers, wrong, with_number, fields_from, Line, silent, unknown, of, line_said, text_lines, numbers_of, section_in}
use Rattle.notation.specs.Steps.{fields_of, shape_from, lines_from}
use Rattle.notation.proofs.MeantLaws.{fields_by}
use Rattle.notation.proofs.ShapeLaws.{fields_many}

-- ---- lines
module _ (text : List ℕ) where
  pub lines_start : lines_from text 0 ≡ text_lines text
  unfolding lines_from text_lines
  lines_start = rw (le-leb 0 (length text) (omega arith))

  pub lines_done : (at : ℕ) → length text < at → lines_from text at ≡ []
  unfolding lines_from
  lines_done at h = rw (lt-leb at (length text) h)

  pub lines_next : (at : ℕ) → at ≤ length text
      → lines_from text at ≡ words_of (part text at (line_end text at)) ∷ lines_from text (line_end text at + 1)
  unfolding lines_from
  lines_next at h = rw (le-leb at (length text) h) (go (dec_lt (line_end text at) (length text)))
    where
      end : ℕ
      end = line_end text at

      go : Dec (end < length text)
          → map words_of (lines_of (drop at text))
          ≡ words_of (part text at end) ∷ pick (leb (end + 1) (length text)) (map words_of (lines_of (drop (end + 1) text))) []
      go (yes k) = rw (lines_step text at k, le-leb (end + 1) (length text) (omega arith))
      go (no k) =
          let e : line_end text at ≡ length text = omega (arith, (line_within text at).1) in
          rw (lines_last text at (omega arith), lt-leb (end + 1) (length text) (omega arith), e, part_rest text at)

-- ---- the numbers of a section
pub section_none : (version section : ℕ) → section_in version section [] ≡ []
unfolding section_in
section_none version section = refl

pub section_next : (version section : ℕ) (l : List Word) (ls : List (List Word))
    → section_in version section (l ∷ ls) ≡ numbers_of section (line_said version l) ++ section_in version section ls
unfolding section_in
section_next version section l ls = refl

-- how many numbers are said, this many where some field is not
many_in : Said → ℕ → ℕ
many_in (numbers ns) d = length ns
many_in (wrong k ws) d = d

many_with : (v : ℕ) (x : Said) (d : ℕ) → many_in (with_number v x) (suc d) ≡ suc (many_in x d)
unfolding many_in with_number
many_with v (numbers ns) d = refl
many_with v (wrong k ws) d = refl

fields_length : (ss : List Shape) (ws : List Word) → many_in (fields_from ss ws) (length ss) ≡ length ss
unfolding many_in fields_from
fields_length [] [] = refl
fields_length [] (w ∷ ws) = refl
fields_length (s ∷ ss) ws = ap (λ (x : Said). many_in x (suc (length ss))) (fields_by s ss ws) ∙ go (shape_from s ws) (fields_length ss)
  where
    go : (o : Option Taken) → ((us : List Word) → many_in (fields_from ss us) (length ss) ≡ length ss)
        → many_in (elim o [ None ↦ wrong 0 ws | Some t ↦ with_number t.value (fields_from ss t.rest) ]) (suc (length ss)) ≡ suc (length ss)
    go None ih = refl
    go (Some t) ih = many_with t.value (fields_from ss t.rest) (length ss) ∙ ap suc (ih t.rest)

pub record_or_none : (version section : ℕ) (l : List Word)
    → (length (numbers_of section (line_said version l)) ≡ 0) ⊎ (length (numbers_of section (line_said version l)) ≡ fields_of section)
unfolding line_said numbers_of many_in
record_or_none version section [] = inl refl
record_or_none version section (w ∷ ws) = go (word_in keywords w)
  where
    given : Bool → Said → List ℕ
    given t (numbers ns) = pick t ns []
    given t (wrong k us) = []

    sized : (s : ℕ) (x : Said) (t : Bool) → (t ≡ true → s ≡ section) → many_in x (length (line_fields version s)) ≡ length (line_fields version s)
        → (length (given t x) ≡ 0) ⊎ (length (given t x) ≡ fields_of section)
    sized s (numbers ns) true f e = inr (e ∙ fields_many version s ∙ ap fields_of (f refl))
    sized s (numbers ns) false f e = inl refl
    sized s (wrong k us) t f e = inl refl

    both : (s : ℕ) (x : Said) → numbers_of section (of s x) ≡ given (eqb s section) x
    both s (numbers ns) = refl
    both s (wrong k us) = refl

    go : (o : Option ℕ)
        → (length (numbers_of section (elim o [ None ↦ unknown | Some s ↦ of s (fields_from (line_fields version s) ws) ])) ≡ 0)
        ⊎ (length (numbers_of section (elim o [ None ↦ unknown | Some s ↦ of s (fields_from (line_fields version s) ws) ])) ≡ fields_of section)
    go None = inl refl
    go (Some s) =
        let x = fields_from (line_fields version s) ws in
        rw (both s x) (sized s x (eqb s section) (eqb-true s section) (fields_length (line_fields version s) ws))

-- a line that says its fields says all of them
unfoldable pub WholeLine : Line → Type 0
WholeLine silent = Unit
WholeLine unknown = Unit
WholeLine (of s (numbers ns)) = length ns ≡ fields_of s
WholeLine (of s (wrong k ws)) = Unit

pub whole_line : (version : ℕ) (l : List Word) → WholeLine (line_said version l)
unfolding WholeLine line_said many_in
whole_line version [] = tt
whole_line version (w ∷ ws) = go (word_in keywords w)
  where
    whole : (s : ℕ) (x : Said) → many_in x (length (line_fields version s)) ≡ length (line_fields version s) → WholeLine (of s x)
    whole s (numbers ns) e = e ∙ fields_many version s
    whole s (wrong k us) e = tt

    go : (o : Option ℕ) → WholeLine (elim o [ None ↦ unknown | Some s ↦ of s (fields_from (line_fields version s) ws) ])
    go None = tt
    go (Some s) = whole s (fields_from (line_fields version s) ws) (fields_length (line_fields version s) ws)

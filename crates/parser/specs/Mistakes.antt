-- The first mistake of a text, by its line (from 1) and the word that it is said of.
-- Assumes nothing.
use Rattle.std.specs.Prelude.{ℕ, zero, suc, ◌+◌, ◌-◌, ◌*◌, ◌≤◌, ◌≡◌, List, [], ◌∷◌, ltb, eqb, length, get_or, set, replicate, Option, None, Some}
use Rattle.base.specs.Pick.{pick}
use Rattle.words.specs.Places.{line_end, word_at}
use Rattle.notation.specs.Notation.{Word}
use Rattle.notation.specs.Meant as meant
use Rattle.notation.specs.Meant.{numbers, wrong, silent, unknown, of, line_said, text_lines, section_in}
use Rattle.notation.specs.Steps.{fields_of}
use Rattle.parser.specs.declared.mistakes.Fault.{Fault}
use Rattle.parser.specs.declared.mistakes.Fault.TheVariants.{Unknown, NotSaid, Over, TooMany}
use Rattle.parser.specs.declared.mistakes.Mistake.{Mistake}
use Rattle.parser.specs.declared.mistakes.Mistake.TheVariants.{NoDelays, InLine}
use Rattle.parser.specs.declared.lines.Line.{Line}
use Rattle.parser.specs.declared.lines.Line.TheVariants.{Silent, Good, Wrong}
use Rattle.parser.specs.declared.lines.Line.TheVariants as line
use Rattle.fields.specs.Fields.{place_behind}

-- ---- a line
-- what is wrong with it: of which section and field, and how many words stand before the one that it is said of
pub record Found : Type 0 where
  pub fault : Fault
  pub section : ℕ
  pub field : ℕ
  pub word : ℕ

abbrev found : Fault → ℕ → ℕ → ℕ → Found
found f s k j = record { fault = f; section = s; field = k; word = j }

-- `most` and `counts` are how many lines each section may have, and has so far; the last are those of the version
unfoldable pub line_fault : List ℕ → List ℕ → List Word → meant.Line → Option Found
line_fault most counts ws silent = None
line_fault most counts ws unknown = Some (found Unknown 0 0 0)
line_fault most counts ws (of s (numbers ns)) = pick (ltb (get_or counts s 0) (get_or most s 0)) None (Some (found TooMany s 0 0))
line_fault most counts ws (of s (wrong k us)) = Some (found (pick (ltb k (fields_of s)) NotSaid Over) s k (length ws - length us))

-- a line more of its section, where there may be one more
unfoldable pub counted : List ℕ → List ℕ → meant.Line → List ℕ
counted most counts silent = counts
counted most counts unknown = counts
counted most counts (of s (numbers ns)) = pick (ltb (get_or counts s 0) (get_or most s 0)) (set counts s (suc (get_or counts s 0))) counts
counted most counts (of s (wrong k us)) = counts

-- ---- a text
-- where line i begins, from 0
unfoldable pub line_start : List ℕ → ℕ → ℕ
line_start text zero = 0
line_start text (suc i) = line_end text (line_start text i) + 1

-- what is found in the line from one place to before another, at the place of its word; empty, where the line ends before that word
unfoldable pub mistake_at : List ℕ → ℕ → ℕ → ℕ → Found → Mistake
mistake_at text at end number f = InLine f.fault number f.section f.field (word_at text (place_behind text at end f.word) end)

-- the first among the lines from line i on, if there is one; there has to be a line of delays
unfoldable pub mistake_from : List ℕ → ℕ → List ℕ → List ℕ → ℕ → List (List Word) → Option Mistake
mistake_from text version most counts i [] = pick (eqb (get_or counts 0 0) 0) (Some NoDelays) None
mistake_from text version most counts i (ws ∷ ls) =
    let at = line_start text i in
    elim (line_fault most counts ws (line_said version ws)) [
      | None ↦ mistake_from text version most (counted most counts (line_said version ws)) (suc i) ls
      | Some f ↦ Some (mistake_at text at (line_end text at) (suc i) f)
    ]

unfoldable pub mistake_in : List ℕ → ℕ → List ℕ → Option Mistake
mistake_in text version most = mistake_from text version most (replicate 7 0) 0 (text_lines text)

-- ---- by the answer of the routine that reads a line
unfoldable pub counted_by : List ℕ → List ℕ → Line → List ℕ
counted_by most counts Silent = counts
counted_by most counts line.Unknown = counts
counted_by most counts (Good s ns) = pick (ltb (get_or counts s 0) (get_or most s 0)) (set counts s (suc (get_or counts s 0))) counts
counted_by most counts (Wrong s k place) = counts

-- ---- a text without one
-- Each section has no more numbers than those of the lines that it may have, and there is a line of delays.
abbrev pub SectionsFit : Type 0
SectionsFit =
    (text : List ℕ) (version : ℕ) (most : List ℕ) (s : ℕ) → length most ≡ 7 → mistake_in text version most ≡ None
    → length (section_in version s (text_lines text)) ≤ get_or most s 0 * fields_of s

abbrev pub DelaysSaid : Type 0
DelaysSaid =
    (text : List ℕ) (version : ℕ) (most : List ℕ) → length most ≡ 7 → mistake_in text version most ≡ None
    → 4 ≤ length (section_in version 0 (text_lines text))

-- A line's fields one after the other: what is said of the first k, and what the words from a place on say of the rest.
-- Assumes nothing.
use Prim.Native.Nat.{ℕ, suc, ◌≤◌, ◌<◌}
use mathlib.Core.Path.{◌≡◌, refl, sym, ap, ◌∙◌}
use mathlib.Core.List.{List, [], ◌∷◌}
use Rattle.std.specs.Prelude.{Option, None, Some}
use native.Mathlib.Omega.{arith}
use lib.ListN.{length, get_or, take, drop, set, length-set}
use lib.Seq.{take-suc-set, length-take-le}
use Rattle.layout.specs.Layout.{blank}
use Rattle.layout.specs.declared.Shape.{Shape}
use Rattle.words.specs.Words.{words_of}
use Rattle.words.specs.Places.{part}
use Rattle.notation.specs.Notation.{Word, version_line, line_fields}
use Rattle.notation.specs.Meant as meant
use Rattle.notation.specs.Meant.{wrong, of, fields_from}
use Rattle.notation.specs.Steps.{fields_of, shape_from}
use Rattle.notation.proofs.MeantLaws.{with_numbers, with_last, with_wrong, with_none, fields_next, fields_stop, fields_end, fields_over}
use Rattle.notation.proofs.ShapeLaws.{fields_many, fields_few}
use Rattle.fields.specs.declared.Said.{Said}
use Rattle.parser.specs.declared.lines.Line.TheVariants.{Good, Wrong}
use Rattle.fields.specs.Fields.{Behind, taken_in, BehindTaken, Takes}
use Rattle.fields.proofs.FieldLaws.{behind_here, behind_more}
use Rattle.parser.specs.Lines.{line_told, Stands, Tells}

module _ (text : List ℕ) (at end version section : ℕ) where
  abbrev ss : List Shape
  ss = line_fields version section

  abbrev says : List Word → meant.Line
  says ws = of section (fields_from ss ws)

  pub record Reading (ns : List ℕ) (k place : ℕ) : Type 0 where
    pub long : length ns ≡ 11
    pub left : with_numbers (take k ns) (fields_from (drop k ss) (words_of (part text place end))) ≡ fields_from ss (words_of (part text at end))
    pub behind : Behind text at end place

  pub reading_start : (ns : List ℕ) → length ns ≡ 11 → Reading ns 0 at
  unfolding with_numbers
  reading_start ns e = record { long = e; left = refl; behind = behind_here text at end }

  module _ (ns : List ℕ) (k place : ℕ) (r : Reading ns k place) where
    abbrev ws : List Word
    ws = words_of (part text place end)

    said_of : (s : Shape) (t u : Option Said) → s ≡ get_or ss k blank → t ≡ u → Takes text place end (shape_from s ws) t
        → Takes text place end (shape_from (get_or ss k blank) ws) u
    said_of s t u d e x = rw (← d, ← e) x

    pub reading_more : (s : Shape) (t : Option Said) (said : Said) → k < fields_of section → s ≡ get_or ss k blank → t ≡ Some said
        → Takes text place end (shape_from s ws) t → Reading (set ns k said.number) (suc k) said.next
    unfolding taken_in BehindTaken
    reading_more s t said h d e x =
        let u = said_of s t (Some said) d e x in
        let us = words_of (part text said.next end) in
        let next = fields_next ss k ws said.number us (omega (arith, fields_many version section)) (sym u.said) in
        record {
          long = length-set ns k said.number ∙ r.long;
          left =
              rw (take-suc-set ns k said.number (omega (arith, r.long, fields_few section)), with_last (take k ns) said.number (fields_from (drop (suc k) ss) us))
              (ap (with_numbers (take k ns)) (sym next) ∙ r.left);
          behind = behind_more text at end place said.next r.behind u.behind;
        }

    -- the numbers so far, with what is said behind them
    wrong_at : k ≤ 11 → with_numbers (take k ns) (wrong 0 ws) ≡ wrong k ws
    wrong_at h = with_wrong (take k ns) ws ∙ ap (λ (j : ℕ). wrong j ws) (length-take-le k ns (omega (arith, r.long)))

    wrong_tells : k ≤ fields_of section → fields_from (drop k ss) ws ≡ wrong 0 ws → Tells text at end (says (words_of (part text at end))) (Wrong section k place)
    unfolding line_told Stands
    wrong_tells h e = record {
      said = ap (of section) (sym (wrong_at (omega (arith, fields_few section))) ∙ ap (with_numbers (take k ns)) (sym e) ∙ r.left);
      stands = r.behind;
    }

    pub reading_stop : (s : Shape) (t : Option Said) → k < fields_of section → s ≡ get_or ss k blank → t ≡ None → Takes text place end (shape_from s ws) t
        → Tells text at end (says (words_of (part text at end))) (Wrong section k place)
    unfolding taken_in
    reading_stop s t h d e x =
        wrong_tells (omega arith) (fields_stop ss k ws (omega (arith, fields_many version section)) (sym (said_of s t None d e x).said))

    pub reading_over : (n : ℕ) (w : Word) (us : List Word) → n ≡ k → k ≡ fields_of section → ws ≡ w ∷ us
        → Tells text at end (says (words_of (part text at end))) (Wrong section n place)
    reading_over n w us d h e =
        rw d
        (wrong_tells (omega arith)
        (ap (fields_from (drop k ss)) e ∙ fields_over ss k w us (omega (arith, fields_many version section)) ∙ ap (wrong 0) (sym e)))

    pub reading_end : section ≤ version_line → k ≡ fields_of section → ws ≡ []
        → Tells text at end (says (words_of (part text at end))) (Good section ns)
    unfolding line_told Stands
    reading_end few h e =
        let none_left = ap (fields_from (drop k ss)) e ∙ fields_end ss k (omega (arith, fields_many version section)) in
        let all = sym (with_none (take k ns)) ∙ ap (with_numbers (take k ns)) (sym none_left) ∙ r.left in
        record { said = ap (of section) (rw h at all); stands = (few, r.long) }

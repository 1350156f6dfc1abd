-- The first mistake of a text, line by line: one that is found in a line is it, and otherwise it is the first of the lines behind.
-- Assumes nothing.
use Prim.Native.Nat.{ℕ, suc, ◌+◌, ◌≤◌, ◌<◌}
use mathlib.Core.Path.{◌≡◌, refl, sym, ap, ◌∙◌}
use mathlib.Core.Bool.{true, false, false≢true}
use mathlib.Core.List.{List, ◌∷◌}
use Rattle.std.specs.Prelude.{Option, None, Some, option_map, is_some}
use native.Mathlib.Omega.{arith}
use native.Mathlib.Numerals.{add-one}
use borrow.Author.Tests.{le-ltb, eq-eqb, ne_eqb}
use lib.Dec.{ltb}
use lib.ListN.{length, get_or, get_or-eq_default}
use Rattle.words.specs.Words.{words_of}
use Rattle.words.specs.Places.{part, line_end}
use Rattle.notation.specs.Notation.{Word}
use Rattle.notation.specs.Meant as meant
use Rattle.notation.specs.Meant.{line_said}
use Rattle.notation.specs.Steps.{lines_from}
use Rattle.notation.proofs.LinesLaws.{lines_next, lines_done}
use Rattle.parser.specs.declared.mistakes.Mistake.TheVariants.{NoDelays}
use Rattle.parser.specs.declared.mistakes.Mistake.{Mistake}
use Rattle.parser.specs.declared.lines.Line.{Line}
use Rattle.parser.specs.declared.lines.Line.TheVariants.{Silent, Unknown, Good, Wrong}
use Rattle.parser.specs.Lines.{line_told, Tells}
use Rattle.parser.specs.Mistakes.{Found, line_fault, counted, counted_by, line_start, mistake_at, mistake_from}

-- ---- counts
pub room_past : (counts most : List ℕ) (s : ℕ) → length counts ≡ 7 → length most ≡ 7 → 7 ≤ s → ltb (get_or counts s 0) (get_or most s 0) ≡ false
room_past counts most s c m h =
    rw (get_or-eq_default counts 0 {n = s} (omega arith), get_or-eq_default most 0 {n = s} (omega arith)) (le-ltb 0 0 (omega arith))

pub counted_told : (text : List ℕ) (end : ℕ) (most counts : List ℕ) (r : Line) → counted_by most counts r ≡ counted most counts (line_told text end r)
unfolding counted counted_by line_told
counted_told text end most counts Silent = refl
counted_told text end most counts Unknown = refl
counted_told text end most counts (Good s ns) = refl
counted_told text end most counts (Wrong s k place) = refl

-- ---- lines
module _ (text : List ℕ) (version : ℕ) (most counts new : List ℕ) (i at end : ℕ) (r : Line) (m : Option Mistake) where
  pub record Looked : Type 0 where
    pub inside : at ≤ length text
    pub start : at ≡ line_start text i
    pub stop : end ≡ line_end text at
    pub tells : Tells text at end (line_said version (words_of (part text at end))) r
    pub is : m ≡ option_map (mistake_at text at end (i + 1)) (line_fault most counts (words_of (part text at end)) (line_told text end r))
    pub taken : new ≡ counted_by most counts r

  module _ (l : Looked) where
    abbrev words : List Word
    words = words_of (part text at end)

    abbrev fault : Option Found
    fault = line_fault most counts words (line_said version words)

    abbrev later : Option Mistake
    later = mistake_from text version most (counted most counts (line_said version words)) (suc i) (lines_from text (end + 1))

    by_said : m ≡ option_map (mistake_at text at end (suc i)) fault
    by_said =
        l.is
        ∙ rw (add-one i) (ap (λ (x : meant.Line). option_map (mistake_at text at end (suc i)) (line_fault most counts words x)) l.tells.said)

    by_line : mistake_from text version most counts i (lines_from text at) ≡ elim fault [ None ↦ later | Some f ↦ Some (mistake_at text at end (suc i) f) ]
    unfolding mistake_from
    by_line =
        let first : lines_from text at ≡ words ∷ lines_from text (end + 1) = rw l.stop (lines_next text at l.inside) in
        let found : ℕ → ℕ → Option Mistake = λ (p q : ℕ). elim fault [ None ↦ later | Some f ↦ Some (mistake_at text p q (suc i) f) ] in
        ap (mistake_from text version most counts i) first
        ∙ ap (λ (p : ℕ). found p (line_end text p)) (sym l.start) ∙ ap (found at) (sym l.stop)

    pub found_here : is_some m ≡ true → mistake_from text version most counts i (lines_from text at) ≡ m
    found_here t = by_line ∙ go fault by_said t
      where
        go : (o : Option Found) → m ≡ option_map (mistake_at text at end (suc i)) o → is_some m ≡ true
            → elim o [ None ↦ later | Some f ↦ Some (mistake_at text at end (suc i) f) ] ≡ m
        go None e t = absurd (false≢true (sym (ap is_some e) ∙ t))
        go (Some f) e t = sym e

    pub found_later : is_some m ≡ false
        → mistake_from text version most counts i (lines_from text at) ≡ mistake_from text version most new (i + 1) (lines_from text (end + 1))
    found_later t = by_line ∙ go fault by_said t ∙ rw (add-one i) (ap (λ (x : List ℕ). mistake_from text version most x (suc i) (lines_from text (end + 1))) (sym is_new))
      where
        is_new : new ≡ counted most counts (line_said version words)
        is_new = l.taken ∙ counted_told text end most counts r ∙ ap (counted most counts) l.tells.said

        go : (o : Option Found) → m ≡ option_map (mistake_at text at end (suc i)) o → is_some m ≡ false
            → elim o [ None ↦ later | Some f ↦ Some (mistake_at text at end (suc i) f) ] ≡ later
        go None e t = refl
        go (Some f) e t = absurd (false≢true (sym t ∙ ap is_some e))

    pub start_next : end + 1 ≡ line_start text (i + 1)
    unfolding line_start
    start_next = rw (add-one i) (ap (λ (x : ℕ). x + 1) (l.stop ∙ ap (line_end text) l.start))

-- ---- the end
module _ (text : List ℕ) (version : ℕ) (most counts : List ℕ) (i at : ℕ) (h : length text < at) where
  pub no_delays : get_or counts 0 0 ≡ 0 → mistake_from text version most counts i (lines_from text at) ≡ Some NoDelays
  unfolding mistake_from
  no_delays e = rw (lines_done text at h, eq-eqb (get_or counts 0 0) 0 e)

  pub no_mistake : (get_or counts 0 0 ≡ 0 → ⊥) → mistake_from text version most counts i (lines_from text at) ≡ None
  unfolding mistake_from
  no_mistake e = rw (lines_done text at h, ne_eqb (get_or counts 0 0) 0 e)

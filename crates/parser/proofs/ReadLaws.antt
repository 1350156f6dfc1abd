-- A text that is read to six lists: without a mistake each list has room for all that its section says.
-- Assumes nothing.
use Prim.Native.Nat.{ℕ, suc, ◌+◌, ◌-◌, ◌*◌, ◌/◌, ◌≤◌}
use mathlib.Core.Path.{◌≡◌, refl, sym, ap, ◌∙◌}
use mathlib.Core.Bool.{Bool, true, false}
use Rattle.std.specs.Prelude.{Option, None, Some}
use mathlib.Core.List.{List, [], ◌∷◌, ◌++◌}
use native.Mathlib.Omega.{arith}
use borrow.Author.Tests.{le-leb, leb-true}
use lib.Dec.{leb}
use lib.ListN.{length, get_or, replicate, length-replicate}
use lib.Seq.{take_all}
use Rattle.std.proofs.lemmas.List.Edits.{paste_all}
use Rattle.base.specs.Pick.{pick}
use Rattle.table.specs.Sections.{lent}
use Rattle.table.specs.Lists.{Lists}
use Rattle.table.proofs.LentLaws.{lent_none}
use Rattle.notation.specs.Meant.{text_lines, version_in, section_in, list_in}
use Rattle.notation.specs.Steps.{fields_of}
use Rattle.notation.specs.Fitted.{held, fitted}
use Rattle.parser.specs.declared.mistakes.Mistake.{Mistake}
use Rattle.parser.specs.Lines.{list_with, place_with}
use Rattle.parser.specs.Mistakes.{mistake_in}
use Rattle.parser.specs.Tables.{most_for, room_in, first_mistake, read_list}
use Rattle.parser.proofs.FillLaws.{drop_zeros}
use Rattle.parser.proofs.TallyLaws.{sections_fit, delays_said}

held_all : (n room : ℕ) (ns : List ℕ) → length ns ≤ room / n * n → held n room ns ≡ ns
unfolding held
held_all n room ns h = take_all (room / n * n) ns h

fitted_all : (n room : ℕ) (ns : List ℕ) → length ns ≤ room / n * n → fitted n room ns ≡ lent room ns
unfolding fitted lent
fitted_all n room ns h = rw (held_all n room ns h)

-- numbers put into zeros that have room for them
module _ (room : ℕ) (ns : List ℕ) (h : length ns ≤ room) where
  fits : length ns ≤ length {A = ℕ} (replicate room 0) - 0
  fits = omega (arith, length-replicate {A = ℕ} room 0)

  place_zeros : place_with (replicate room 0) 0 ns ≡ length ns
  unfolding place_with
  place_zeros = rw (le-leb (length ns) (length {A = ℕ} (replicate room 0) - 0) fits) (omega arith)

  list_zeros : list_with (replicate room 0) 0 ns ≡ lent room ns
  unfolding list_with lent
  list_zeros =
      let e : 0 + length ns ≡ length ns = omega arith in
      rw (le-leb (length ns) (length {A = ℕ} (replicate room 0) - 0) fits)
      (paste_all (replicate room 0) 0 ns (length ns) refl ∙ rw e (ap (λ (l : List ℕ). ns ++ l) (drop_zeros (length ns) room)))

-- the numbers of one line of delays are all that its record holds
four : (ns : List ℕ) → length ns ≡ 4 → fitted (fields_of 0) 4 ns ≡ ns
unfolding fitted held fields_of
four [] e = absurd (omega arith)
four (a ∷ []) e = absurd (omega arith)
four (a ∷ b ∷ []) e = absurd (omega arith)
four (a ∷ b ∷ c ∷ []) e = absurd (omega arith)
four (a ∷ b ∷ c ∷ d ∷ []) e = refl
four (a ∷ b ∷ c ∷ d ∷ x ∷ ns) e = absurd (omega arith)

pub seven : (room : ℕ → ℕ) → length (most_for room) ≡ 7
unfolding most_for
seven room = refl

-- one line of delays at least and at most
delays_fit : (room : ℕ → ℕ) (k : ℕ) → 4 ≤ k → k ≤ get_or (most_for room) 0 0 * fields_of 0 → (5 ≤ room 0) × (k ≡ 4)
unfolding most_for fields_of
delays_fit room k h j = go (leb 5 (room 0)) (leb-true _ _) j
  where
    go : (t : Bool) → (t ≡ true → 5 ≤ room 0) → k ≤ pick t 1 0 * 4 → (5 ≤ room 0) × (k ≡ 4)
    go true f j = (f refl, omega arith)
    go false f j = absurd (omega arith)

module _ (text : List ℕ) (before : Lists) (version : ℕ) (v : version ≡ version_in (text_lines text)) where
  pub is_first : (m : Option Mistake) → m ≡ mistake_in text version (most_for (room_in before)) → m ≡ first_mistake text before
  unfolding first_mistake
  is_first m e = e ∙ ap (λ (x : ℕ). mistake_in text x (most_for (room_in before))) v

  abbrev said : ℕ → List ℕ
  said s = section_in version s (text_lines text)

  -- what is put in a list where there is no mistake
  module _ (e : None ≡ mistake_in text version (most_for (room_in before))) where
    all_read : (s : ℕ) → read_list text before s ≡ list_in text s
    unfolding read_list
    all_read s = rw (sym (is_first None e), read_list)

    pub section_read : (s len : ℕ) (l : List ℕ) → get_or (most_for (room_in before)) (suc s) 0 ≡ room_in before (suc s) / fields_of (suc s)
        → len ≡ length (held (fields_of (suc s)) (room_in before (suc s)) (said (suc s)))
        → l ≡ fitted (fields_of (suc s)) (room_in before (suc s)) (said (suc s))
        → (len ≡ length (read_list text before (suc s))) × (l ≡ lent (room_in before (suc s)) (read_list text before (suc s)))
    unfolding list_in
    section_read s len l q a b =
        let n = fields_of (suc s) in
        let room = room_in before (suc s) in
        let fits : length (said (suc s)) ≤ room / n * n = rw (← q) (sections_fit text version _ (suc s) (seven (room_in before)) (sym e)) in
        let same : said (suc s) ≡ read_list text before (suc s) = ap (λ (x : ℕ). section_in x (suc s) (text_lines text)) v ∙ sym (all_read (suc s)) in (
          a ∙ ap length (held_all n room (said (suc s)) fits ∙ same),
          b ∙ fitted_all n room (said (suc s)) fits ∙ ap (lent room) same,
        )

    pub header_read : (len : ℕ) (l : List ℕ)
        → len ≡ place_with (replicate (room_in before 0) 0) 0 (version ∷ fitted (fields_of 0) 4 (said 0))
        → l ≡ list_with (replicate (room_in before 0) 0) 0 (version ∷ fitted (fields_of 0) 4 (said 0))
        → (len ≡ length (read_list text before 0)) × (l ≡ lent (room_in before 0) (read_list text before 0))
    unfolding list_in
    header_read len l a b =
        let room = room_in before 0 in
        let k =
        delays_fit (room_in before) (length (said 0)) (delays_said text version _ (seven (room_in before)) (sym e))
        (sections_fit text version _ 0 (seven (room_in before)) (sym e)) in
        let whole = four (said 0) k.1 in
        let held_is : length (version ∷ said 0) ≤ room = omega (arith, k.0, k.1) in
        let same : version ∷ said 0 ≡ read_list text before 0 = ap (λ (x : ℕ). x ∷ section_in x 0 (text_lines text)) v ∙ sym (all_read 0) in (
          a ∙ ap (λ (l : List ℕ). place_with (replicate room 0) 0 (version ∷ l)) whole ∙ place_zeros room (version ∷ said 0) held_is ∙ ap length same,
          b ∙ ap (λ (l : List ℕ). list_with (replicate room 0) 0 (version ∷ l)) whole ∙ list_zeros room (version ∷ said 0) held_is ∙ ap (lent room) same,
        )

  -- and where there is one
  pub none_read : (m : Mistake) → Some m ≡ mistake_in text version (most_for (room_in before)) → (s : ℕ)
      → replicate (room_in before s) 0 ≡ lent (room_in before s) (read_list text before s)
  unfolding read_list
  none_read m e s = rw (sym (is_first (Some m) e), read_list) (sym (lent_none (room_in before s)))

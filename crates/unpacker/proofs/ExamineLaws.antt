-- The answers 1 to 4, test by test: what is given where a test fails, and that the next is tried where it passes.
-- Assumes nothing.
use mathlib.Core.Path.{◌≡◌, refl, sym, ap, ◌∙◌}
use mathlib.Core.List.{List, [], ◌∷◌}
use Rattle.std.specs.Prelude.{Option, None, Some}
use Prim.Native.Nat.{ℕ, ◌+◌, ◌≤◌, ◌<◌}
use native.Mathlib.Omega.{arith}
use lib.ListN.{length}
use borrow.Author.Count.{below_more}
use borrow.Author.Tests.{lt-ltb, le-ltb, eq-eqb, ne_eqb}
use Rattle.base.proofs.LeastLaws.{least_is, least_none}
use Rattle.base.proofs.TestLaws.{some_is, none_is, number_is}
use Rattle.layout.specs.declared.Way.TheVariants.{Reading}
use Rattle.base.specs.Tests.{is_some}
use Rattle.layout.specs.Promises.{wide}
use Rattle.layout.specs.Rows.{row_fault}
use Rattle.layout.proofs.FaultLaws.{fault_wide}
use Rattle.table.specs.declared.Answer.{Answer}
use Rattle.table.specs.declared.Refusal.{Refusal}
use Rattle.table.specs.Answers.{answer, accepted, first_given}
use Rattle.table.specs.Refusals.{answer_of}
use Rattle.table.specs.Sections.{header_row, kind_in, rows, from, row}
use Rattle.table.specs.Unpack.{answer1, answer2, answer3, answer4, bad_row, bad_section, answer_at_row}
use Rattle.table.proofs.RefusalLaws.{not_accepted}
use Rattle.unpacker.specs.Unpacking.{row_answer, answer_in, last_answer, table_answer}

module _ (bytes : List ℕ) where
  -- ---- a row
  module _ (s i : ℕ) where
    abbrev fault : Option ℕ
    fault = row_fault Reading (kind_in bytes s) (row bytes s i)

    pub fault_told : (raw : List ℕ) (k : ℕ) (o : Option ℕ) → raw ≡ wide (row bytes s i) → k ≡ kind_in bytes s → o ≡ row_fault Reading k raw → fault ≡ o
    fault_told raw k o is of-kind told =
        sym (told ∙ rw (is, of-kind) (fault_wide Reading (kind_in bytes s) (row bytes s i)))

    pub row_bad : (test : ℕ) → fault ≡ Some test → answer 4 s i test ≡ row_answer bytes s i
    unfolding row_answer
    row_bad test e = rw (e, row_answer)

    pub row_good : fault ≡ None → accepted ≡ row_answer bytes s i
    unfolding row_answer
    row_good e = rw (e, row_answer)

    -- whether the row has a fault, by its answer
    row_was : accepted ≡ row_answer bytes s i → fault ≡ None
    row_was e = go fault refl
      where
        go : (o : Option ℕ) → fault ≡ o → o ≡ None
        go None f = refl
        go (Some test) f = absurd (omega (arith, ap (λ (a : Answer). a.number) (e ∙ sym (row_bad test f))))

  -- ---- a section
  module _ (s : ℕ) where
    -- the first i rows have no fault
    abbrev pub GoodTo : ℕ → Type 0
    GoodTo i = (j : ℕ) → j < i → row_fault Reading (kind_in bytes s) (row bytes s j) ≡ None

    pub good_more : (i : ℕ) → GoodTo i → accepted ≡ row_answer bytes s i → GoodTo (i + 1)
    good_more i good e = below_more (λ j. row_fault Reading (kind_in bytes s) (row bytes s j) ≡ None) i good (row_was s i e)

    pub section_bad : (i : ℕ) (r : Refusal) → i < rows bytes s → GoodTo i → answer_of r ≡ row_answer bytes s i → answer_of r ≡ answer_in bytes s
    unfolding answer_in bad_row answer_at_row
    section_bad i r h good told = go (row_fault Reading (kind_in bytes s) (row bytes s i)) refl
      where
        go : (o : Option ℕ) → row_fault Reading (kind_in bytes s) (row bytes s i) ≡ o → answer_of r ≡ answer_in bytes s
        go None e = absurd (not_accepted r (told ∙ sym (row_good s i e)))
        go (Some test) e =
            let fault = row_fault Reading (kind_in bytes s) (row bytes s i) in
            let first : bad_row bytes s ≡ Some i =
            least_is (λ i. is_some (row_fault Reading (kind_in bytes s) (row bytes s i))) 0 (rows bytes s) i (omega arith) (omega arith)
            (some_is fault test e)
            (λ j _ l. none_is (row_fault Reading (kind_in bytes s) (row bytes s j)) (good j l)) in
            told ∙ sym (row_bad s i test e) ∙ sym (rw (first, answer_in) (ap (answer 4 s i) (number_is fault test e)))

    section_clean : GoodTo (rows bytes s) → bad_row bytes s ≡ None
    unfolding bad_row
    section_clean good =
        least_none (λ i. is_some (row_fault Reading (kind_in bytes s) (row bytes s i))) 0 (rows bytes s)
        (λ j _ l. none_is (row_fault Reading (kind_in bytes s) (row bytes s j)) (good j (omega arith)))

    pub section_good : GoodTo (rows bytes s) → accepted ≡ answer_in bytes s
    unfolding answer_in
    section_good good = rw (section_clean good, answer_in)

    section_is : (i : ℕ) → bad_row bytes s ≡ Some i → answer_in bytes s ≡ answer_at_row bytes s i
    unfolding answer_in
    section_is i e = rw (e, answer_in)

    section_none : bad_row bytes s ≡ None → answer_in bytes s ≡ accepted
    unfolding answer_in
    section_none e = rw (e, answer_in)

    section_was : accepted ≡ answer_in bytes s → bad_row bytes s ≡ None
    unfolding answer_at_row
    section_was e = go (bad_row bytes s) refl
      where
        go : (o : Option ℕ) → bad_row bytes s ≡ o → o ≡ None
        go None f = refl
        go (Some i) f = absurd (omega (arith, ap (λ (a : Answer). a.number) (e ∙ section_is i f)))

  -- ---- answers 3 and 4
  -- sections 1 to s - 1 have no bad row
  abbrev pub CleanTo : ℕ → Type 0
  CleanTo s = (j : ℕ) → j < s → 1 ≤ j → bad_row bytes j ≡ None

  pub clean_more : (s : ℕ) → CleanTo s → accepted ≡ answer_in bytes s → CleanTo (s + 1)
  clean_more s clean e = below_more (λ j. 1 ≤ j → bad_row bytes j ≡ None) s clean (λ _. section_was s e)

  pub length_bad : (length bytes ≡ from bytes 6 → ⊥) → answer 3 0 0 0 ≡ last_answer bytes
  unfolding last_answer answer3 first_given
  length_bad h = rw (ne_eqb (length bytes) (from bytes 6) h)

  module _ (exact : length bytes ≡ from bytes 6) where
    last_is : (o : Option Answer) → answer4 bytes ≡ o → last_answer bytes ≡ first_given (o ∷ [])
    unfolding last_answer answer3 first_given
    last_is o e = rw (eq-eqb (length bytes) (from bytes 6) exact, e)

    pub table_bad : (s : ℕ) (r : Refusal) → 1 ≤ s → s < 6 → CleanTo s → answer_of r ≡ answer_in bytes s → answer_of r ≡ last_answer bytes
    unfolding answer4 bad_section first_given
    table_bad s r low h clean told = go (bad_row bytes s) refl
      where
        go : (o : Option ℕ) → bad_row bytes s ≡ o → answer_of r ≡ last_answer bytes
        go None e = absurd (not_accepted r (told ∙ section_none s e))
        go (Some i) e =
            let first : bad_section bytes ≡ Some s =
            least_is (λ s. is_some (bad_row bytes s)) 1 5 s low (omega arith) (some_is (bad_row bytes s) i e)
            (λ j a b. none_is (bad_row bytes j) (clean j b a)) in
            let given : answer4 bytes ≡ Some (answer_at_row bytes s i) = rw (first, answer4, number_is (bad_row bytes s) i e) in
            told ∙ section_is s i e ∙ sym (last_is (Some (answer_at_row bytes s i)) given)

    pub table_good : CleanTo 6 → accepted ≡ last_answer bytes
    unfolding answer4 bad_section first_given
    table_good clean =
        let first : bad_section bytes ≡ None =
        least_none (λ s. is_some (bad_row bytes s)) 1 5 (λ j a b. none_is (bad_row bytes j) (clean j (omega arith) a)) in
        let given : answer4 bytes ≡ None = rw (first, answer4) in
        sym (last_is None given)

  -- ---- answers 1 and 2
  pub too_short_lem : length bytes < 14 → answer 1 0 0 0 ≡ table_answer bytes
  unfolding table_answer answer1 first_given
  too_short_lem h = rw (lt-ltb (length bytes) 14 h)

  module _ (long : 14 ≤ length bytes) where
    after_1 : (o : Option Answer) → answer2 bytes ≡ o → table_answer bytes ≡ first_given (o ∷ answer3 bytes ∷ answer4 bytes ∷ [])
    unfolding table_answer answer1 first_given
    after_1 o e = rw (le-ltb (length bytes) 14 long, e)

    module _ (raw : List ℕ) (o : Option ℕ) (is : raw ≡ wide (header_row bytes)) (told : o ≡ row_fault Reading 0 raw) where
      header_told : row_fault Reading 0 (header_row bytes) ≡ o
      header_told = sym (told ∙ ap (row_fault Reading 0) is ∙ fault_wide Reading 0 (header_row bytes))

      pub header_bad : (test : ℕ) → o ≡ Some test → answer 2 0 0 test ≡ table_answer bytes
      unfolding answer2 first_given
      header_bad test e =
          let given : answer2 bytes ≡ Some (answer 2 0 0 test) = rw (header_told ∙ e, answer2) in
          sym (after_1 (Some (answer 2 0 0 test)) given)

      pub header_good : o ≡ None → last_answer bytes ≡ table_answer bytes
      unfolding answer2 last_answer first_given
      header_good e =
          let given : answer2 bytes ≡ None = rw (header_told ∙ e, answer2) in
          sym (after_1 None given)

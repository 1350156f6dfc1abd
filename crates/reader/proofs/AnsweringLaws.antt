-- From the faults of rows to the answers of sections and to answers 5 and 6: the first refusal that the code meets is the one that is given.
-- Assumes nothing.
use Prim.Native.Nat.{ℕ, zero, suc, ◌≤◌, ◌<◌}
use mathlib.Core.Bool.{true, false, not}
use mathlib.Core.List.{[], ◌∷◌}
use mathlib.Core.Path.{◌≡◌, refl, ap, ◌∙◌}
use native.Mathlib.Decide.{dec_lt}
use native.Mathlib.Omega.{arith}
use lib.ListN.{length}
use Rattle.std.specs.Prelude.{Option, None, Some}
use Rattle.base.specs.Least.{least_from}
use Rattle.base.specs.Tests.{is_some, number_or0}
use Rattle.base.proofs.LeastLaws.{least_is, least_none}
use Rattle.base.proofs.TestLaws.{some_is, none_is, number_is}
use Rattle.network.specs.Network.{Network}
use Rattle.network.specs.Ranges.{Ranges}
use Rattle.network.specs.References.{ref_fault, naming_rows, bad_reference, one_sample, bad_sample}
use Rattle.network.proofs.ReferenceTests.{stream_names_vl_was}
use Rattle.network.proofs.ReferenceLaws.{stream_row_was, no_bad_row, no_bad_row_was}
use Rattle.network.proofs.TestsAre.{rows_are}
use Rattle.table.specs.declared.Answer.{Answer}
use Rattle.table.specs.declared.Refusal.{Refusal}
use Rattle.table.specs.Answers.{answer, accepted, first_given}
use Rattle.table.specs.Read.{bad_ref_section, answer_at_reference, answer5, answer6}
use Rattle.table.specs.Refusals.{answer_of}
use Rattle.table.proofs.RefusalLaws.{not_accepted}
use Rattle.reader.specs.Referring.{refusal_at, first_bad, sample_answer, Named}

-- ---- the first row that has a fault
module _ (fault : ℕ → Option ℕ) (section rows : ℕ) where
  pub first_bad_at : (i test : ℕ) → i < rows → fault i ≡ Some test → ((k : ℕ) → k < i → fault k ≡ None)
      → answer 5 section i test ≡ first_bad fault section rows
  unfolding first_bad
  first_bad_at i test h e before =
      let here : least_from (λ k. is_some (fault k)) 0 rows ≡ Some i =
      least_is (λ k. is_some (fault k)) 0 rows i (omega arith) (omega arith) (some_is (fault i) test e) (λ k a b. none_is (fault k) (before k b)) in
      rw (here, number_is (fault i) test e)

  pub first_bad_none : ((k : ℕ) → k < rows → fault k ≡ None) → accepted ≡ first_bad fault section rows
  unfolding first_bad
  first_bad_none all =
      let here : least_from (λ k. is_some (fault k)) 0 rows ≡ None =
      least_none (λ k. is_some (fault k)) 0 rows (λ k a b. none_is (fault k) (all k (omega arith))) in
      rw here

-- ---- whether a row was found, by the answer
found_none : (o : Option ℕ) (f : ℕ → Answer) → ((i : ℕ) → 0 < (f i).number) → accepted ≡ refusal_at o f → o ≡ None
found_none None f h e = refl
found_none (Some i) f h e = absurd (omega (arith, h i, ap (λ (a : Answer). a.number) e))

found_some : (o : Option ℕ) (f : ℕ → Answer) (r : Refusal) → answer_of r ≡ refusal_at o f → (is_some o ≡ true) × (answer_of r ≡ f (number_or0 o))
unfolding is_some number_or0
found_some None f r e = absurd (not_accepted r e)
found_some (Some i) f r e = (refl, e)

-- ---- a section
module _ (net : Network) (s : ℕ) where
  pub section_good : (n : ℕ) → n ≡ naming_rows net s → accepted ≡ first_bad (ref_fault net s) s n → bad_reference net s ≡ None
  unfolding first_bad bad_reference answer_at_reference
  section_good n all e =
      found_none (bad_reference net s) (answer_at_reference net s) (λ i. omega arith) (e ∙ ap (first_bad (ref_fault net s) s) all)

-- ---- the sections together
module _ (net : Network) where
  ports_name_nothing : bad_reference net 4 ≡ None
  ports_name_nothing = no_bad_row net 4 (λ i h. absurd (omega (arith, rows_are net 4)))

  -- the first section with a bad reference gives the answer
  pub first_section : (s : ℕ) → 2 ≤ s → s < 6 → ((t : ℕ) → 2 ≤ t → t < s → bad_reference net t ≡ None) → (n : ℕ) → n ≡ naming_rows net s
      → (r : Refusal) → answer_of r ≡ first_bad (ref_fault net s) s n → answer_of r ≡ first_given (answer5 net ∷ answer6 net ∷ [])
  unfolding first_given answer5 bad_ref_section first_bad bad_reference answer_at_reference
  first_section s low high before n all r e =
      let was = found_some (bad_reference net s) (answer_at_reference net s) r (e ∙ ap (first_bad (ref_fault net s) s) all) in
      let here : bad_ref_section net ≡ Some s =
      least_is (λ t. is_some (bad_reference net t)) 2 4 s low (omega arith) was.0 (λ t a b. none_is (bad_reference net t) (before t a b)) in
      was.1 ∙ rw (here, answer5)

  pub before_3 : bad_reference net 2 ≡ None → (t : ℕ) → 2 ≤ t → t < 3 → bad_reference net t ≡ None
  before_3 e2 t a b = let e : t ≡ 2 = omega arith in rw e e2

  module _ (e2 : bad_reference net 2 ≡ None) (e3 : bad_reference net 3 ≡ None) where
    pub before_5 : (t : ℕ) → 2 ≤ t → t < 5 → bad_reference net t ≡ None
    before_5 zero a b = absurd (omega arith)
    before_5 (suc zero) a b = absurd (omega arith)
    before_5 (suc (suc zero)) a b = e2
    before_5 (suc (suc (suc zero))) a b = e3
    before_5 (suc (suc (suc (suc zero)))) a b = ports_name_nothing
    before_5 (suc (suc (suc (suc (suc t))))) a b = absurd (omega arith)

    module _ (e5 : bad_reference net 5 ≡ None) where
      all_sections : (t : ℕ) → 2 ≤ t → t < 6 → bad_reference net t ≡ None
      all_sections t a b = elim (dec_lt t 5) [
        | yes l ↦ before_5 t a l
        | no n ↦ let e : t ≡ 5 = omega arith in rw e e5
      ]

      no_answer5 : answer5 net ≡ None
      unfolding answer5 bad_ref_section
      no_answer5 =
          let here : bad_ref_section net ≡ None = least_none (λ t. is_some (bad_reference net t)) 2 4 (λ t a b. none_is (bad_reference net t) (all_sections t a (omega arith))) in
          rw (here, answer5)

      pub samples_answer : sample_answer net ≡ first_given (answer5 net ∷ answer6 net ∷ [])
      unfolding first_given sample_answer answer6
      samples_answer = rw no_answer5 (go (bad_sample net) refl)
        where
          go : (o : Option ℕ) → bad_sample net ≡ o → sample_answer net ≡ first_given (answer6 net ∷ [])
          go None e = rw (e, sample_answer, answer6)
          go (Some s) e = rw (e, sample_answer, answer6)

-- ---- samples
module _ (net : Network) where
  pub sample_bad : (s : ℕ) → s < length net.streams → ((k : ℕ) → k < s → one_sample net k ≡ true) → one_sample net s ≡ false
      → answer 6 3 s 0 ≡ sample_answer net
  unfolding sample_answer bad_sample
  sample_bad s h before e =
      let here : bad_sample net ≡ Some s =
      least_is (λ k. not (one_sample net k)) 0 (length net.streams) s (omega arith) (omega arith) (ap not e) (λ k a b. ap not (before k b)) in
      rw (here, sample_answer)

  pub samples_good : ((k : ℕ) → k < length net.streams → one_sample net k ≡ true) → accepted ≡ sample_answer net
  unfolding sample_answer bad_sample
  samples_good all =
      let here : bad_sample net ≡ None = least_none (λ k. not (one_sample net k)) 0 (length net.streams) (λ k a b. ap not (all k (omega arith))) in
      rw (here, sample_answer)

-- where no stream has a bad reference each names a VL
pub named_from : (net : Network) → Ranges net → bad_reference net 3 ≡ None → Named net
named_from net ranges e = record {
  ranges = ranges;
  vl = λ s h.
      let good = no_bad_row_was net 3 s e (omega (arith, rows_are net 3)) in
      stream_names_vl_was net s (stream_row_was net s good).0;
}

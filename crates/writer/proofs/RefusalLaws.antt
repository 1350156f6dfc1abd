-- What the writer's answers 2 and 4 say, section by section: whether each list is whole, and the first bad record of the lowest section that has one.
-- Assumes nothing.
use mathlib.Core.List.{[], ◌∷◌}
use mathlib.Core.Logic.{⊎_elim}
use mathlib.Core.Path.{◌≡◌, refl, sym, ap, ap₂}
use Rattle.std.specs.Prelude.{Option, None, Some}
use Rattle.std.proofs.lemmas.Option.{none-some}
use mathlib.Core.Bool.{true, false, not}
use Prim.Native.Nat.{ℕ, ◌+◌, ◌≤◌, ◌<◌}
use borrow.Author.Tests.{le-leb, lt-leb}
use native.Mathlib.Nat.{eq-or-lt_of_le}
use native.Mathlib.Omega.{arith}
use Rattle.base.specs.Tests.{is_some, number_or0}
use Rattle.base.proofs.LeastLaws.{least_is, least_none, least_exists}
use Rattle.base.proofs.TestLaws.{some_is, none_is, number_is, no_row}
use Rattle.layout.specs.declared.Way.TheVariants.{Writing}
use Rattle.layout.specs.Rows.{row_fault}
use Rattle.table.specs.declared.Answer.{Answer}
use Rattle.table.specs.Answers.{answer, accepted, first_given}
use Rattle.table.specs.Lists.{Lists, records_in, kind_for}
use Rattle.table.specs.Write.{meant_row, whole_list, whole, bad_record, bad_list, answer_at_record, write2, write4, table_size, write11, write_answer}
use Rattle.table.proofs.FirstLaws.{no_row_given}
use Rattle.writer.specs.Writing.{section4}

module _ (ls : Lists) where
  -- ---- whole lists
  -- the first n lists are whole
  abbrev pub WholeTo : ℕ → Type 0
  WholeTo n = (s : ℕ) → s < n → whole_list ls s ≡ true

  pub all_whole : WholeTo 6 → true ≡ whole ls
  unfolding whole
  all_whole each = sym (ap not (none_is _ (least_none (λ s. not (whole_list ls s)) 0 6 (λ s _ h. ap not (each s h)))))

  pub one_broken : (s : ℕ) → s < 6 → whole_list ls s ≡ false → false ≡ whole ls
  unfolding whole
  one_broken s h e =
      let x = least_exists (λ s. not (whole_list ls s)) 0 6 s (omega arith) (omega arith) (ap not e) in
      sym (ap not (some_is _ x.at x.is))

  -- ---- one section
  abbrev fault : ℕ → ℕ → Option ℕ
  fault s i = row_fault Writing (kind_for ls s) (meant_row ls s i)

  -- the first n records of a section are good
  abbrev pub GoodTo : ℕ → ℕ → Type 0
  GoodTo s n = (i : ℕ) → i < n → row_fault Writing (kind_for ls s) (meant_row ls s i) ≡ None

  pub record_bad : (s i test : ℕ) → i < records_in ls s → GoodTo s i → fault s i ≡ Some test → Some (answer 4 s i test) ≡ section4 ls s
  unfolding section4 bad_record answer_at_record
  record_bad s i test h good e =
      let first : bad_record ls s ≡ Some i =
      least_is (λ j. is_some (fault s j)) 0 (records_in ls s) i (omega arith) (omega arith) (some_is (fault s i) test e)
      (λ j _ l. none_is (fault s j) (good j l)) in
      sym (rw (first, section4) (ap (λ (n : ℕ). Some (answer 4 s i n)) (number_is (fault s i) test e)))

  pub records_good : (s : ℕ) → GoodTo s (records_in ls s) → None ≡ section4 ls s
  unfolding section4 bad_record
  records_good s good = let none : bad_record ls s ≡ None = no_row (fault s) 0 (records_in ls s) (λ i _ l. good i (omega arith)) in sym (rw (none, section4))

  -- ---- all sections
  -- no section from 1 to n - 1 has a bad record
  abbrev pub CleanTo : ℕ → Type 0
  CleanTo n = (s : ℕ) → 1 ≤ s → s < n → bad_record ls s ≡ None

  pub section_bad : (s : ℕ) (a : Answer) → 1 ≤ s → s < 6 → CleanTo s → Some a ≡ section4 ls s → Some a ≡ write4 ls
  unfolding section4 write4 bad_list number_or0
  section_bad s a low high clean e = go (bad_record ls s) refl
    where
      go : (o : Option ℕ) → bad_record ls s ≡ o → Some a ≡ write4 ls
      go None m = absurd (none-some a (sym (rw (m, section4) at e)))
      go (Some i) m =
          let first : bad_list ls ≡ Some s =
          least_is (λ t. is_some (bad_record ls t)) 1 5 s low (omega arith) (some_is (bad_record ls s) i m)
          (λ t l h. none_is (bad_record ls t) (clean t l h)) in
          sym (rw (first, write4) (rw m (sym (rw (m, section4) at e))))

  pub sections_good : CleanTo 6 → None ≡ write4 ls
  unfolding write4 bad_list
  sections_good clean = let none : bad_list ls ≡ None = no_row (bad_record ls) 1 5 (λ s l h. clean s l (omega arith)) in sym (rw (none, write4))

  -- a section that is accepted is clean too
  pub clean_more : (n : ℕ) → CleanTo n → None ≡ section4 ls n → CleanTo (n + 1)
  unfolding section4
  clean_more n clean e s low high = ⊎_elim
      (λ (same : s ≡ n). rw same (no_row_given (bad_record ls n) (answer_at_record ls n) (sym e)))
      (λ (l : s < n). clean s low l)
      (eq-or-lt_of_le (omega arith))

  -- ---- 2, 4 and 11, in that order
  module _ (room : ℕ) (a : Answer) where
    pub told_two : Some a ≡ write2 ls → a ≡ write_answer ls room
    unfolding write_answer first_given
    told_two e = ap (λ (o : Option Answer). first_given (o ∷ write4 ls ∷ write11 ls room ∷ [])) e

    pub told_four : None ≡ write2 ls → Some a ≡ write4 ls → a ≡ write_answer ls room
    unfolding write_answer first_given
    told_four e f = ap₂ (λ (o p : Option Answer). first_given (o ∷ p ∷ write11 ls room ∷ [])) e f

  module _ (room : ℕ) (passes2 : None ≡ write2 ls) (passes4 : None ≡ write4 ls) where
    told_last : first_given (write11 ls room ∷ []) ≡ write_answer ls room
    unfolding write_answer first_given
    told_last = ap₂ (λ (o p : Option Answer). first_given (o ∷ p ∷ write11 ls room ∷ [])) passes2 passes4

    pub told_fits : table_size ls ≤ room → accepted ≡ write_answer ls room
    unfolding write11 first_given
    told_fits h = rw (le-leb (table_size ls) room h) at told_last

    pub told_eleven : room < table_size ls → answer 11 0 0 0 ≡ write_answer ls room
    unfolding write11 first_given
    told_eleven h = rw (lt-leb (table_size ls) room h) at told_last

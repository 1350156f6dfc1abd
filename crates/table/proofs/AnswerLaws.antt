-- What acceptance says in plain facts, of a table and of lists, and the other way round: each test of the answers is passed, and a refusal has another number.
-- Assumes nothing.
use mathlib.Core.Path.{◌≡◌, ap}
use mathlib.Core.Bool.{Bool, true, not}
use mathlib.Core.List.{List, [], ◌∷◌, ◌++◌}
use Rattle.std.specs.Prelude.{Option, None, Some}
use Prim.Native.Nat.{ℕ, zero, suc, ◌*◌, ◌≤◌, ◌<◌}
use native.Mathlib.Omega.{arith}
use lib.Dec.{ltb, eqb}
use lib.ListN.{length}
use borrow.Author.Tests.{not-true, not-false, ltb-false, le-leb, le-ltb, eqb-true, eq-eqb}
use Rattle.base.specs.Least.{least_from}
use Rattle.base.proofs.LeastLaws.{least_none, none_was}
use Rattle.base.proofs.TestLaws.{none_is, is_none_was, no_row, no_row_was}
use Rattle.layout.specs.declared.Way.TheVariants.{Reading, Writing}
use Rattle.base.specs.Tests.{is_some, number_or0}
use Rattle.layout.specs.Layout.{header_names}
use Rattle.layout.specs.Rows.{listed, row_fault}
use Rattle.table.specs.declared.Answer.{Answer}
use Rattle.table.specs.Answers.{answer, accepted, first_given}
use Rattle.table.specs.Sections.{header_row, kind_in, rows, from, row}
use Rattle.table.specs.Lists.{Lists, list_for, records_in, kind_for, unpacked}
use Rattle.table.specs.Unpack.{answer1, answer2, answer3, bad_row, bad_section, answer_at_row, answer4, short_list, answer11, unpack_answer}
use Rattle.table.specs.Write.{header_for, meant_row, count, numbers_in, whole_list, whole, write2, bad_record, bad_list, answer_at_record, write4, table_size, write11, write_answer}
use Rattle.table.specs.RoundTrip.{RoomFor}
use Rattle.table.proofs.FirstLaws.{Refuse, refuse_both, NoneGiven, none_given, accepted_front, pick_refuses, picked_none, row_refuses, no_row_given}

-- ---- faults by section and row
module _ (fault : ℕ → ℕ → Option ℕ) (count : ℕ → ℕ) where
  abbrev bad_in : ℕ → Option ℕ
  bad_in s = least_from (λ i. is_some (fault s i)) 0 (count s)

  -- no row of sections 1 to 5 has a fault
  abbrev Clean : Type 0
  Clean = (s i : ℕ) → suc s < 6 → i < count (suc s) → fault (suc s) i ≡ None

  clean_was : least_from (λ s. is_some (bad_in s)) 1 5 ≡ None → Clean
  clean_was e s i h l =
      let section = no_row_was bad_in 1 5 e (suc s) (omega arith) (omega arith) in
      no_row_was (fault (suc s)) 0 (count (suc s)) section i (omega arith) (omega arith)

  clean_is : Clean → least_from (λ s. is_some (bad_in s)) 1 5 ≡ None
  clean_is clean = no_row bad_in 1 5 none_in
    where
      none_in : (s : ℕ) → 1 ≤ s → s < 6 → bad_in s ≡ None
      none_in zero low high = absurd (omega arith)
      none_in (suc s) low high = no_row (fault (suc s)) 0 (count (suc s)) (λ i _ l. clean s i high (omega arith))

-- ---- a table
-- what acceptance says of it: a good header, the length that its counts require, and good rows
pub record Sound (bytes : List ℕ) : Type 0 where
  pub header : row_fault Reading 0 (header_row bytes) ≡ None
  pub exact : length bytes ≡ from bytes 6
  pub good : (s i : ℕ) → suc s < 6 → i < rows bytes (suc s) → row_fault Reading (kind_in bytes (suc s)) (row bytes (suc s) i) ≡ None

-- the answers 1 to 4, in their order: each refuses, where it is given
abbrev pub table_refusals : List ℕ → List (Option Answer)
table_refusals bytes = answer1 bytes ∷ answer2 bytes ∷ answer3 bytes ∷ answer4 bytes ∷ []

pub table_refuse : (bytes : List ℕ) → Refuse (table_refusals bytes)
unfolding answer1 answer2 answer3 answer4 answer_at_row
table_refuse bytes = (
  (pick_refuses (ltb (length bytes) 14) (answer 1 0 0 0) None (omega arith) tt).0,
  (
    row_refuses (row_fault Reading 0 (header_row bytes)) (answer 2 0 0) (λ test. omega arith),
    (
      (pick_refuses (eqb (length bytes) (from bytes 6)) (answer 3 0 0 0) None (omega arith) tt).1,
      (row_refuses (bad_section bytes) (λ s. answer_at_row bytes s (number_or0 (bad_row bytes s))) (λ s. omega arith), tt),
    ),
  ),
)

pub sound_where : (bytes : List ℕ) → NoneGiven (table_refusals bytes) → Sound bytes
unfolding answer2 answer3 answer4 bad_section bad_row
sound_where bytes p = record {
  header = no_row_given (row_fault Reading 0 (header_row bytes)) (answer 2 0 0) p.1.0;
  exact = eqb-true (length bytes) (from bytes 6) (picked_none (eqb (length bytes) (from bytes 6)) (answer 3 0 0 0) None p.1.1.0).0;
  good =
      clean_was (λ s i. row_fault Reading (kind_in bytes s) (row bytes s i)) (rows bytes)
      (no_row_given (bad_section bytes) (λ s. answer_at_row bytes s (number_or0 (bad_row bytes s))) p.1.1.1.0);
}

pub unpack_was : (bytes : List ℕ) (before : Lists) → unpack_answer bytes before ≡ accepted → Sound bytes
unfolding unpack_answer
unpack_was bytes before e =
    let front = accepted_front (table_refusals bytes) (answer11 bytes before ∷ []) e in
    sound_where bytes (none_given (table_refusals bytes) (table_refuse bytes) (ap (λ (a : Answer). a.number) front))

-- and the lent lists have room
pub room_was : (bytes : List ℕ) (before : Lists) → (unpack_answer bytes before).number ≡ 0
    → (s : ℕ) → s < 6 → length (list_for (unpacked bytes) s) ≤ length (list_for before s)
unfolding unpack_answer answer11 short_list
room_was bytes before e s h =
    let short = short_list (unpacked bytes) before in
    let refuse-11 = row_refuses short (λ s. answer 11 0 0 0) (λ s. omega arith) in
    let refuse = refuse_both (table_refusals bytes) (answer11 bytes before ∷ []) (table_refuse bytes) (refuse-11, tt) in
    let p = none_given (table_refusals bytes ++ (answer11 bytes before ∷ [])) refuse e in
    let none-short = no_row_given short (λ s. answer 11 0 0 0) p.1.1.1.1.0 in
    let test : ℕ → Bool = λ s. ltb (length (list_for before s)) (length (list_for (unpacked bytes) s)) in
    ltb-false _ _ (none_was test 0 6 s none-short (omega arith) (omega arith))

pub unpack_is : (bytes : List ℕ) (before : Lists) → Sound bytes → 14 ≤ length bytes → RoomFor (unpacked bytes) before
    → unpack_answer bytes before ≡ accepted
unfolding unpack_answer answer1 answer2 answer3 answer4 answer11 short_list first_given bad_section bad_row
unpack_is bytes before sound long room =
    let none1 : answer1 bytes ≡ None = rw (le-ltb (length bytes) 14 long) in
    let none2 : answer2 bytes ≡ None = rw (sound.header, answer2) in
    let none3 : answer3 bytes ≡ None = rw (eq-eqb (length bytes) (from bytes 6) sound.exact) in
    let none4 : answer4 bytes ≡ None = rw (clean_is (λ s i. row_fault Reading (kind_in bytes s) (row bytes s i)) (rows bytes) sound.good, answer4) in
    let test : ℕ → Bool = λ s. ltb (length (list_for before s)) (length (list_for (unpacked bytes) s)) in
    let short = least_none test 0 6 (λ s _ _. le-ltb _ _ (room s)) in
    let none11 : answer11 bytes before ≡ None = rw (short, answer11) in
    rw (none1, none2, none3, none4, none11)

-- ---- lists
-- what acceptance says of them: each is a whole number of records, and the header and the records are good
pub record Writable (ls : Lists) : Type 0 where
  pub header_list : length ls.header ≡ length header_names
  pub full : (s : ℕ) → suc s < 6 → length (list_for ls (suc s)) ≡ records_in ls (suc s) * listed (suc s)
  pub header : row_fault Writing 0 (header_for ls) ≡ None
  pub good : (s i : ℕ) → suc s < 6 → i < records_in ls (suc s) → row_fault Writing (kind_for ls (suc s)) (meant_row ls (suc s) i) ≡ None

-- no list is broken exactly if each has the numbers of its rows
abbrev Full : Lists → Type 0
Full ls = (s : ℕ) → s < 6 → length (list_for ls s) ≡ count ls s * numbers_in s

pub whole_was : (ls : Lists) → whole ls ≡ true → Full ls
unfolding whole whole_list
whole_was ls e s h =
    let none-broken = is_none_was _ (not-true _ e) in
    eqb-true _ _ (not-false _ (none_was (λ s. not (whole_list ls s)) 0 6 s none-broken (omega arith) (omega arith)))

whole_is : (ls : Lists) → Writable ls → whole ls ≡ true
unfolding whole whole_list count numbers_in list_for
whole_is ls w = ap not (none_is _ (least_none (λ s. not (whole_list ls s)) 0 6 (λ s _ h. ap not (eq-eqb _ _ (full s h)))))
  where
    full : Full ls
    full zero h = omega (arith, w.header_list)
    full (suc s) h = w.full s h

pub write_was : (ls : Lists) (room : ℕ) → write_answer ls room ≡ accepted → Writable ls
unfolding write_answer write2 write4 answer_at_record bad_list bad_record count numbers_in list_for
write_was ls room e =
    let header : Option Answer = elim (row_fault Writing 0 (header_for ls)) [ None ↦ None | Some test ↦ Some (answer 2 0 0 test) ] in
    let at : ℕ → Answer = λ s. answer_at_record ls s (number_or0 (bad_record ls s)) in
    let refuse2 = row_refuses (row_fault Writing 0 (header_for ls)) (answer 2 0 0) (λ test. omega arith) in
    let refuse : Refuse (write2 ls ∷ write4 ls ∷ []) =
    ((pick_refuses (whole ls) (answer 2 0 0 0) header (omega arith) refuse2).1, (row_refuses (bad_list ls) at (λ s. omega arith), tt)) in
    let front = accepted_front (write2 ls ∷ write4 ls ∷ []) (write11 ls room ∷ []) e in
    let none_is = none_given (write2 ls ∷ write4 ls ∷ []) refuse (ap (λ (a : Answer). a.number) front) in
    let e2 = picked_none (whole ls) (answer 2 0 0 0) header none_is.0 in
    let full = whole_was ls e2.0 in
    record {
      header_list = omega (arith, full 0 (omega arith));
      full = λ s h. full (suc s) h;
      header = no_row_given (row_fault Writing 0 (header_for ls)) (answer 2 0 0) e2.1;
      good =
          clean_was (λ s i. row_fault Writing (kind_for ls s) (meant_row ls s i)) (records_in ls)
          (no_row_given (bad_list ls) at none_is.1.0);
    }

pub write_is : (ls : Lists) (room : ℕ) → Writable ls → table_size ls ≤ room → write_answer ls room ≡ accepted
unfolding write_answer write2 write4 write11 first_given bad_list bad_record
write_is ls room w h =
    let none2 : write2 ls ≡ None = rw (whole_is ls w, w.header, write2) in
    let none4 : write4 ls ≡ None = rw (clean_is (λ s i. row_fault Writing (kind_for ls s) (meant_row ls s i)) (records_in ls) w.good, write4) in
    let none11 : write11 ls room ≡ None = rw (le-leb (table_size ls) room h) in
    rw (none2, none4, none11)

-- The answers 7 to 10 in their order: which is given where the first row that fails a test is known; and what all answers leave, 1 to 6 before them.
-- Assumes nothing.
use Prim.Native.Nat.{ℕ, ◌*◌, ◌≤◌, ◌<◌}
use mathlib.Core.Bool.{Bool, true, false}
use mathlib.Core.List.{List, [], ◌∷◌}
use Rattle.std.specs.Prelude.{Option, None, Some, Result, Ok, Err}
use mathlib.Core.Path.{◌≡◌, refl, sym, ap, ◌∙◌}
use native.Mathlib.Omega.{arith}
use borrow.Author.Tests.{lt-ltb, le-ltb, eq-eqb, ne_eqb}
use lib.Dec.{eqb}
use lib.ListN.{length}
use Rattle.base.specs.Least.{least_from}
use Rattle.base.proofs.LeastLaws.{least_is, least_none}
use Rattle.layout.specs.Limits.{limits}
use Rattle.layout.proofs.SizeLaws.{most_are}
use Rattle.network.specs.Network.{Network}
use Rattle.table.specs.declared.Answer.{Answer}
use Rattle.table.specs.declared.Refusal.{Refusal}
use Rattle.table.specs.Answers.{answer, accepted, first_given}
use Rattle.table.specs.Refusals.{answer_of, said, given}
use Rattle.table.specs.Lists.{unpacked}
use Rattle.table.specs.Unpack.{left}
use Rattle.table.specs.Read.{network_in, read_answer}
use Rattle.table.proofs.RefusalLaws.{refused_number}
use Rattle.sheet.specs.declared.Sheet.{Sheet}
use Rattle.sheet.specs.Sheet.{network_on, sheet_of, blank}
use Rattle.reader.specs.Reading.{read_sheet}
use Rattle.reader.proofs.FillLaws.{good_sheet}
use Rattle.rows.specs.Rows.{rows_of}
use Rattle.rows.specs.Refusals.{too_many_rows, too_short}
use Rattle.answers.specs.Analysis.{refused_at, answer7, answer8, answer9, answer10, analysis_answer, accepts}
use Rattle.answers.proofs.AcceptedLaws.{later, reader_refuses, reader_accepts}
use Rattle.figures.specs.declared.found.Figures.{Figures}
use Rattle.figures.specs.Figures.{no_figures, Figured}
use Rattle.figures.specs.Judging.{judged, Computed}

-- ---- 7, 9 and 10: a refusal at the first row that fails a test, and none where no row does
module _ (number section : ℕ) (test : ℕ → Bool) (n : ℕ) where
  pub refused_first : (r : ℕ) → r < n → test r ≡ true → ((i : ℕ) → i < r → test i ≡ false) → Some (answer number section r 0) ≡ refused_at number section (least_from test 0 n)
  unfolding refused_at
  refused_first r h there before = sym (ap (refused_at number section) (least_is test 0 n r (omega arith) (omega arith) there (λ i a b. before i b)))

  pub refused_nowhere : ((i : ℕ) → i < n → test i ≡ false) → None ≡ refused_at number section (least_from test 0 n)
  unfolding refused_at
  refused_nowhere before = sym (ap (refused_at number section) (least_none test 0 n (λ i a b. before i (omega arith))))

-- ---- 8, which goes by the rows
module _ (net : Network) (room : ℕ) where
  pub given_8_many : limits.rows < length (rows_of net) → Some (answer 8 0 0 0) ≡ answer8 net room
  unfolding answer8 too_many_rows
  given_8_many h = rw (lt-ltb limits.rows (length (rows_of net)) h)

  pub given_8_short : length (rows_of net) ≤ limits.rows → room < 6 * length (rows_of net) → Some (answer 8 0 0 1) ≡ answer8 net room
  unfolding answer8 too_many_rows too_short
  given_8_short h l = rw (le-ltb limits.rows (length (rows_of net)) h, lt-ltb room (6 * length (rows_of net)) l)

  pub none_8 : length (rows_of net) ≤ limits.rows → 6 * length (rows_of net) ≤ room → None ≡ answer8 net room
  unfolding answer8 too_many_rows too_short
  none_8 h l = rw (le-ltb limits.rows (length (rows_of net)) h, le-ltb room (6 * length (rows_of net)) l)

  -- ---- the first of them that is given
  pub judged_is : (a b c d : Option Answer) → a ≡ answer7 net → b ≡ answer8 net room → c ≡ answer9 net → d ≡ answer10 net
      → first_given (a ∷ b ∷ c ∷ d ∷ []) ≡ judged net room
  unfolding judged
  judged_is a b c d at_7 at_8 at_9 at_10 = λ i. first_given (at_7 i ∷ at_8 i ∷ at_9 i ∷ at_10 i ∷ [])

-- of one alone
pub said_last : (r : Result Unit Refusal) → said r ≡ first_given (given r ∷ [])
unfolding said given first_given
said_last (Ok u) = refl
said_last (Err r) = refl

-- ---- what all answers leave
module _ (bytes : List ℕ) (room : ℕ) (r : Answer) (sheet : Sheet) (found : Figures) where
  -- a refusal: zeros everywhere
  pub refused_leaves : r ≡ analysis_answer bytes room → 0 < r.number → sheet ≡ blank → found ≡ no_figures → Figured bytes room r sheet found
  unfolding accepts left no_figures
  refused_leaves is h s f =
      let no : eqb (analysis_answer bytes room).number 0 ≡ false = ne_eqb (analysis_answer bytes room).number 0 (λ z. omega (arith, ap (λ (x : Answer). x.number) is)) in
      record {
        answer_is = is;
        sheet_is = rw no s;
        waits_are = rw (no, most_are.vls) (ap (λ (x : Figures). x.waits) f);
        queues_are = rw (no, most_are.vls) (ap (λ (x : Figures). x.queues) f);
        hops_are = rw (no, most_are.hops) (ap (λ (x : Figures). x.hops) f);
      }

  -- acceptance: the sheet and the figures
  pub accepted_leaves : r ≡ analysis_answer bytes room → r.number ≡ 0 → sheet ≡ sheet_of (unpacked bytes) → Computed (network_in bytes) found
      → Figured bytes room r sheet found
  unfolding accepts left
  accepted_leaves is z s all =
      let yes : eqb (analysis_answer bytes room).number 0 ≡ true = eq-eqb (analysis_answer bytes room).number 0 (ap (λ (x : Answer). x.number) (sym is) ∙ z) in
      record {
        answer_is = is;
        sheet_is = rw yes s;
        waits_are = rw (yes, most_are.vls) all.waits_are;
        queues_are = rw (yes, most_are.vls) all.queues_are;
        hops_are = rw (yes, most_are.hops) all.hops_are;
      }

-- ---- 1 to 6 before them
module _ (bytes : List ℕ) (room : ℕ) (sheet : Sheet) (read : sheet ≡ read_sheet bytes) where
  -- a refusal of the reader is the answer, and its sheet is blank
  pub read_refused : (r : Refusal) → answer_of r ≡ read_answer bytes → (found : Figures) → found ≡ no_figures → Figured bytes room (answer_of r) sheet found
  unfolding read_sheet
  read_refused r is found none =
      let number : 0 < (read_answer bytes).number = rw (← is) (refused_number r) in
      refused_leaves bytes room (answer_of r) sheet found (is ∙ sym (reader_refuses bytes room number)) (refused_number r)
      (read ∙ rw (ne_eqb (read_answer bytes).number 0 (λ z. omega arith))) none

  -- else its sheet is good, and the network there is the table's
  module _ (took : read_answer bytes ≡ accepted) where
    number_0 : (read_answer bytes).number ≡ 0
    number_0 = ap (λ (x : Answer). x.number) took

    judged_answer : (r : Answer) → r ≡ judged (network_on sheet) room → r ≡ analysis_answer bytes room
    unfolding judged
    judged_answer r is =
        is ∙ ap (λ (net : Network). first_given (later net room)) (good_sheet bytes sheet took read).0 ∙ sym (reader_accepts bytes room number_0)

    pub judged_refused : (r : Refusal) → answer_of r ≡ judged (network_on sheet) room → (left : Sheet) (found : Figures) → left ≡ blank → found ≡ no_figures
        → Figured bytes room (answer_of r) left found
    judged_refused r is left found none none_found =
        refused_leaves bytes room (answer_of r) left found (judged_answer (answer_of r) is) (refused_number r) none none_found

    pub judged_accepted : accepted ≡ judged (network_on sheet) room → (found : Figures) → Computed (network_on sheet) found → Figured bytes room accepted sheet found
    unfolding read_sheet
    judged_accepted is found all =
        accepted_leaves bytes room accepted sheet found (judged_answer accepted is) refl (read ∙ rw (eq-eqb (read_answer bytes).number 0 number_0))
        (rw (good_sheet bytes sheet took read).0 at all)

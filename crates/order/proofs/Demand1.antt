-- Demand 1, proved: the statement is in specs/Demand1.antt. Each routine's promise says what is left by whether the answer's number is 0, and a refusal has another.
-- Assumes nothing.
use Prim.Native.Nat.{◌<◌}
use mathlib.Core.Bool.{false}
use mathlib.Core.Path.{◌≡◌, sym, ap, ◌∙◌}
use native.Mathlib.Omega.{arith}
use borrow.Author.Tests.{ne_eqb}
use lib.Dec.{eqb}
use Rattle.table.specs.declared.Answer.{Answer}
use Rattle.table.specs.Unpack.{unpack_answer, unpacks, left}
use Rattle.table.specs.Write.{write_answer, writes}
use Rattle.answers.specs.Analysis.{analysis_answer, accepts, rows_left, rows_given}
use Rattle.answers.proofs.AcceptedLaws.{reader_refuses}
use Rattle.order.specs.Demand1.{Demand1}

-- an answer with a number is no acceptance
refused : (a b : Answer) → a ≡ b → 0 < a.number → eqb b.number 0 ≡ false
refused a b e h = ne_eqb b.number 0 (λ z. omega (arith, ap (λ (x : Answer). x.number) e))

pub demand_1 : Demand1
unfolding accepts rows_left rows_given unpacks writes left
demand_1 = record {
  analysis = λ bytes room r result a.
      let no : 0 < r.answer.number → accepts bytes room ≡ false = refused r.answer (analysis_answer bytes room) a.answer_is in
      record { answer = a.answer_is; no_rows = λ h. a.count_is ∙ rw (no h); all_zero = λ h. a.rows_are ∙ rw (no h) };
  reader = λ bytes r e. record { answer = e; analysis_alike = λ h room. reader_refuses bytes room (rw e at h) ∙ sym e };
  unpacker = λ bytes before r after u.
      let no : 0 < r.answer.number → unpacks bytes before ≡ false = refused r.answer (unpack_answer bytes before) u.answer in
      record { answer = u.answer; no_records = λ h. u.counts ∙ rw (no h); all_zero = λ h s. u.held s ∙ rw (no h) };
  writer = λ ls room r out w.
      let no : 0 < r.answer.number → writes ls room ≡ false = refused r.answer (write_answer ls room) w.answer in
      record { answer = w.answer; no_length = λ h. w.length_is ∙ rw (no h); all_zero = λ h. w.out_left ∙ rw (no h) };
}

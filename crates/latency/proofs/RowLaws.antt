-- A lent result holds the rows that the analysis says it wrote.
-- Assumes nothing.
use Rattle.std.proofs.Common.{◌≡◌, ℕ, ◌*◌, ◌≤◌, true, eqb, List, length, Ok, sym, ap, arith}
use borrow.Author.Tests.{eq-eqb}
use Rattle.table.specs.declared.Answer.{Answer}
use Rattle.table.specs.Answers.{accepted}
use Rattle.rows.specs.Rows.{rows_of}
use Rattle.table.specs.Read.{network_in}
use Rattle.answers.specs.Analysis.{analysis_answer, accepts, rows_given}
use Rattle.answers.proofs.AcceptedLaws.{accepted_was}
use Rattle.analysis.specs.Analysis.{Analyses, analysed_by}

pub rows_within : (bytes : List ℕ) (room n : ℕ) (result : List ℕ) → Analyses bytes room (analysed_by (Ok n)) result → n * 6 ≤ room
unfolding analysed_by rows_given accepts
rows_within bytes room n result p =
    let is : analysis_answer bytes room ≡ accepted = sym p.answer_is in
    let yes : eqb (analysis_answer bytes room).number 0 ≡ true = eq-eqb _ 0 (ap (λ (a : Answer). a.number) is) in
    let count : n ≡ length (rows_of (network_in bytes)) = rw yes at p.count_is in
    omega (arith, (accepted_was bytes room is).rows_fit)

-- What the analysis promises, of the bytes of a table and a lent result of `room` numbers.
-- Assumes nothing.
use Rattle.std.specs.Prelude.{ℕ, List, ◌≡◌, Result, Ok, Err}
use Rattle.table.specs.declared.Answer.{Answer}
use Rattle.table.specs.declared.Refusal.{Refusal}
use Rattle.table.specs.Answers.{accepted}
use Rattle.table.specs.Refusals.{answer_of}
use Rattle.answers.specs.Analysis.{analysis_answer, rows_left, rows_given}

-- 01's answer, and how many rows were written: none on a refusal
pub record Analysed : Type 0 where
  pub answer : Answer
  pub rows : ℕ

-- what is said by the number of rows, or by a refusal
unfoldable pub analysed_by : Result ℕ Refusal → Analysed
analysed_by (Ok n) = record { answer = accepted; rows = n }
analysed_by (Err r) = record { answer = answer_of r; rows = 0 }

pub record Analyses (bytes : List ℕ) (room : ℕ) (r : Analysed) (result : List ℕ) : Type 0 where
  pub answer_is : r.answer ≡ analysis_answer bytes room
  pub count_is : r.rows ≡ rows_given bytes room
  pub rows_are : result ≡ rows_left bytes room

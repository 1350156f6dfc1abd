-- The order, demand 1: "The software takes every table offered, damaged ones as well, and ends. It refuses by number, section and row as
-- document 01 lists, and on a refusal every result place lent to it holds zero. It never relies on the caller having looked first."
-- No routine over the bytes of a table has a `requires`, and each is proved to end and to leave what its promise says (Kept): `Analyses`, `Unpacks`, `Writes`,
-- and for the reader `read_answer`. Here is what the promises say of refusals; `r` is what the routine's result says, as in Kept.
-- Assumes nothing.
use Rattle.std.specs.Prelude.{ℕ, ◌<◌, List, ◌≡◌, length, replicate}
use Rattle.table.specs.declared.Answer.{Answer}
use Rattle.table.specs.Unpack.{Unpacked, unpack_answer, counted, Unpacks}
use Rattle.table.specs.Lists.{Lists, list_for}
use Rattle.table.specs.Write.{Written, write_answer, Writes}
use Rattle.table.specs.Read.{read_answer}
use Rattle.answers.specs.Analysis.{analysis_answer}
use Rattle.analysis.specs.Analysis.{Analysed, Analyses}

-- the analysis of a table, with a lent result of `room` numbers: the first of 01's answers 1 to 10 that is given,
-- and on a refusal no row and zeros
pub record AnalysisRefuses (bytes : List ℕ) (room : ℕ) (r : Analysed) (result : List ℕ) : Type 0 where
  pub answer : r.answer ≡ analysis_answer bytes room
  pub no_rows : 0 < r.answer.number → r.rows ≡ 0
  pub all_zero : 0 < r.answer.number → result ≡ replicate room 0

-- the reader: the first of 1 to 6 that is given. Nothing is lent to it. What it refuses the analysis refuses alike, whatever it is lent
pub record ReaderRefuses (bytes : List ℕ) (r : Answer) : Type 0 where
  pub answer : r ≡ read_answer bytes
  pub analysis_alike : 0 < r.number → (room : ℕ) → analysis_answer bytes room ≡ r

-- the unpacker, with six lent lists: 1 to 4 and 11, and on a refusal no records and zeros
pub record UnpackerRefuses (bytes : List ℕ) (before : Lists) (r : Unpacked) (after : Lists) : Type 0 where
  pub answer : r.answer ≡ unpack_answer bytes before
  pub no_records : 0 < r.answer.number → counted r ≡ replicate 5 0
  pub all_zero : 0 < r.answer.number → (s : ℕ) → list_for after s ≡ replicate (length (list_for before s)) 0

-- the writer, with `room` lent bytes: 2, 4 and 11, and on a refusal no table and zeros
pub record WriterRefuses (ls : Lists) (room : ℕ) (r : Written) (out : List ℕ) : Type 0 where
  pub answer : r.answer ≡ write_answer ls room
  pub no_length : 0 < r.answer.number → r.length ≡ 0
  pub all_zero : 0 < r.answer.number → out ≡ replicate room 0

pub record Demand1 : Type 0 where
  pub analysis :
      (bytes : List ℕ) (room : ℕ) (r : Analysed) (result : List ℕ) → Analyses bytes room r result → AnalysisRefuses bytes room r result
  pub reader : (bytes : List ℕ) (r : Answer) → r ≡ read_answer bytes → ReaderRefuses bytes r
  pub unpacker :
      (bytes : List ℕ) (before : Lists) (r : Unpacked) (after : Lists) → Unpacks bytes before r after → UnpackerRefuses bytes before r after
  pub writer : (ls : Lists) (room : ℕ) (r : Written) (out : List ℕ) → Writes ls room r out → WriterRefuses ls room r out

-- What the functions of the unpacker promise: the private ones one another, and the public ones beside `unpack`, which give its parts.
-- Assumes nothing.
use Rattle.std.specs.Prelude.{ℕ, ◌/◌, min, List, [], ◌∷◌, ltb, eqb, length, get_or, Option, None, Some}
use Rattle.base.specs.Pick.{pick, within}
use Rattle.base.specs.Least.{least_from}
use Rattle.base.specs.Tests.{is_some}
use Rattle.layout.specs.declared.Way.TheVariants.{Reading}
use Rattle.layout.specs.Rows.{row_fault, listed}
use Rattle.table.specs.declared.Answer.{Answer}
use Rattle.table.specs.declared.Counts.{Counts}
use Rattle.table.specs.Answers.{answer, accepted, first_given}
use Rattle.table.specs.Lists.{list_for, unpacked}
use Rattle.table.specs.Sections.{kind_in, rows, row}
use Rattle.table.specs.Unpack.{answer1, answer2, answer3, answer4, bad_row, answer_at_row}

-- ---- a table's answers 1 to 4
-- of a row and of a section; accepted where 4 is not given
unfoldable pub row_answer : List ℕ → ℕ → ℕ → Answer
row_answer bytes section i =
    elim (row_fault Reading (kind_in bytes section) (row bytes section i)) [ None ↦ accepted | Some test ↦ answer 4 section i test ]

unfoldable pub answer_in : List ℕ → ℕ → Answer
answer_in bytes section = elim (bad_row bytes section) [ None ↦ accepted | Some i ↦ answer_at_row bytes section i ]

unfoldable pub last_answer : List ℕ → Answer
last_answer bytes = first_given (answer3 bytes ∷ answer4 bytes ∷ [])

unfoldable pub table_answer : List ℕ → Answer
table_answer bytes = first_given (answer1 bytes ∷ answer2 bytes ∷ answer3 bytes ∷ answer4 bytes ∷ [])

-- ---- and 11
-- the first list that is too short, of lists that have room for so many numbers each
unfoldable pub short_for : List ℕ → List ℕ → Option ℕ
short_for bytes room = least_from (λ s. ltb (get_or room s 0) (length (list_for (unpacked bytes) s))) 0 6

unfoldable pub room_answer : List ℕ → List ℕ → Answer
room_answer bytes room = pick (is_some (short_for bytes room)) (answer 11 0 0 0) accepted

unfoldable pub judged_answer : List ℕ → List ℕ → Answer
judged_answer bytes room = pick (eqb (table_answer bytes).number 0) (room_answer bytes room) (table_answer bytes)

-- ---- the counts
-- how many records the header counts in each section
abbrev pub counts_in : List ℕ → Counts
counts_in bytes =
    record { systems = rows bytes 1; vls = rows bytes 2; streams = rows bytes 3; ports = rows bytes 4; hops = rows bytes 5 }

-- ---- the lists
-- how many records of a section there are for a list of n numbers: as many as the header counts, and as the list has room for
abbrev pub fitting_in : List ℕ → ℕ → ℕ → ℕ
fitting_in bytes section n = min (rows bytes section) (n / listed section)

-- none where there is no such section
unfoldable pub fitting : List ℕ → ℕ → ℕ → ℕ
fitting bytes section n = pick (within 1 5 section) (fitting_in bytes section n) 0

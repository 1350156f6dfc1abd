-- 01, Answers by number: "The writer takes its counts from its lists and gives 2 (also for a list that is no whole number of records),
-- 4 (also for a value wider than its field), 11." And what it leaves in the lent bytes. Assumes nothing.
use Rattle.std.specs.Prelude.{ℕ, zero, suc, ◌-◌, ◌*◌, Bool, not, List, [], ◌∷◌, ◌++◌, ◌≡◌, leb, eqb, length, replicate, Option, None, Some, Result, Ok, Err}
use Rattle.base.specs.Pick.{pick}
use Rattle.base.specs.Least.{least_from}
use Rattle.base.specs.Tabulate.{tabulate}
use Rattle.bits.specs.Rows.{Section, put_table}
use Rattle.layout.specs.declared.Way.TheVariants.{Writing}
use Rattle.layout.specs.declared.Name.TheVariants as name
use Rattle.layout.specs.Layout.{layout, header_names, widths}
use Rattle.base.specs.Tests.{is_some, number_or0}
use Rattle.layout.specs.Rows.{converted, listed, row_fault}
use Rattle.table.specs.declared.Answer.{Answer}
use Rattle.table.specs.declared.Refusal.{Refusal}
use Rattle.table.specs.Answers.{answer, accepted, first_given}
use Rattle.table.specs.Refusals.{answer_of}
use Rattle.table.specs.Sections.{start, lent}
use Rattle.table.specs.Lists.{Lists, list_for, records_in, record_at, header_at, version_for, kind_for}

-- the header that the lists ask for: the version, the counts, the delays, and padding
unfoldable pub header_for : Lists → List ℕ
header_for ls =
    header_at ls name.Version
    ∷ tabulate (λ s. records_in ls (suc s)) 5
    ++ (header_at ls name.SendLeast
    ∷ header_at ls name.SendGreatest
    ∷ header_at ls name.ReceiveLeast
    ∷ header_at ls name.ReceiveGreatest
    ∷ 0
    ∷ [])

-- record i of a section, with padding of zero where it has padding
unfoldable pub meant_row : Lists → ℕ → ℕ → List ℕ
meant_row ls section i = record_at ls section i ++ replicate (length (layout (kind_for ls section)) - listed section) 0

-- by the section: the header is section 0, of one row. How many rows there are, what each means, and how many numbers its list has of it
unfoldable pub count : Lists → ℕ → ℕ
count ls zero = 1
count ls (suc s) = records_in ls (suc s)

unfoldable pub meant : Lists → ℕ → ℕ → List ℕ
meant ls zero i = header_for ls
meant ls (suc s) i = meant_row ls (suc s) i

unfoldable pub numbers_in : ℕ → ℕ
numbers_in zero = length header_names
numbers_in (suc s) = listed (suc s)

-- a list is a whole number of records: it has the numbers of its rows and no more; and none of the six is not
unfoldable pub whole_list : Lists → ℕ → Bool
whole_list ls section = eqb (length (list_for ls section)) (count ls section * numbers_in section)

unfoldable pub whole : Lists → Bool
whole ls = not (is_some (least_from (λ s. not (whole_list ls s)) 0 6))

-- 2: a list that is no whole number of records, a version, count or delay out of range
unfoldable pub write2 : Lists → Option Answer
write2 ls =
    pick (whole ls)
    (elim (row_fault Writing 0 (header_for ls)) [ None ↦ None | Some test ↦ Some (answer 2 0 0 test) ])
    (Some (answer 2 0 0 0))

-- 4: a value that is out of range, or wider than its field
unfoldable pub bad_record : Lists → ℕ → Option ℕ
bad_record ls section = least_from (λ i. is_some (row_fault Writing (kind_for ls section) (meant_row ls section i))) 0 (records_in ls section)

unfoldable pub bad_list : Lists → Option ℕ
bad_list ls = least_from (λ s. is_some (bad_record ls s)) 1 5

unfoldable pub answer_at_record : Lists → ℕ → ℕ → Answer
answer_at_record ls section i = answer 4 section i (number_or0 (row_fault Writing (kind_for ls section) (meant_row ls section i)))

unfoldable pub write4 : Lists → Option Answer
write4 ls = elim (bad_list ls) [ None ↦ None | Some s ↦ Some (answer_at_record ls s (number_or0 (bad_record ls s))) ]

-- a row as it is stored
abbrev pub stored_row : Lists → ℕ → ℕ → List ℕ
stored_row ls section i = converted Writing (layout (kind_for ls section)) (meant ls section i)

-- the sections of the table, their rows, and the bytes that it takes
unfoldable pub sections : Lists → List Section
sections ls = tabulate (λ s. record { widths = widths (kind_for ls s); count = count ls s }) 6

unfoldable pub parts : Lists → List (List (List ℕ))
parts ls = tabulate (λ s. tabulate (stored_row ls s) (count ls s)) 6

unfoldable pub table_size : Lists → ℕ
table_size ls = start (version_for ls) (count ls) 6

-- the table's bytes
unfoldable pub packed : Lists → List ℕ
packed ls = put_table (replicate (table_size ls) 0) 0 (sections ls) (parts ls)

-- "11: writer or unpacker: a lent result is too short"
unfoldable pub write11 : Lists → ℕ → Option Answer
write11 ls room = pick (leb (table_size ls) room) None (Some (answer 11 0 0 0))

unfoldable pub write_answer : Lists → ℕ → Answer
write_answer ls room = first_given (write2 ls ∷ write4 ls ∷ write11 ls room ∷ [])

unfoldable pub writes : Lists → ℕ → Bool
writes ls room = eqb (write_answer ls room).number 0

-- the answer, and how many bytes the table has: none on a refusal
pub record Written : Type 0 where
  pub answer : Answer
  pub length : ℕ

unfoldable pub written_by : Result ℕ Refusal → Written
written_by (Ok n) = record { answer = accepted; length = n }
written_by (Err r) = record { answer = answer_of r; length = 0 }

-- what the writer promises: its answer, the table's length, and what the lent bytes hold at the end
pub record Writes (ls : Lists) (room : ℕ) (r : Written) (out : List ℕ) : Type 0 where
  pub answer : r.answer ≡ write_answer ls room
  pub length_is : r.length ≡ pick (writes ls room) (table_size ls) 0
  pub out_left : out ≡ pick (writes ls room) (lent room (packed ls)) (replicate room 0)

-- 01, Answers by number: "The unpacker gives 1 to 4 and 11, in that order." And what it leaves in every lent list.
-- Assumes nothing.
use Rattle.std.specs.Prelude.{ℕ, suc, Bool, List, [], ◌∷◌, ◌≡◌, ltb, eqb, length, replicate, Option, None, Some, Result, Ok, Err}
use Rattle.base.specs.Pick.{pick}
use Rattle.base.specs.Least.{least_from}
use Rattle.base.specs.Tabulate.{tabulate}
use Rattle.base.specs.Tests.{is_some, number_or0}
use Rattle.layout.specs.declared.Way.TheVariants.{Reading}
use Rattle.layout.specs.Rows.{row_fault}
use Rattle.table.specs.declared.Answer.{Answer}
use Rattle.table.specs.declared.Refusal.{Refusal}
use Rattle.table.specs.declared.Counts.{Counts}
use Rattle.table.specs.Answers.{answer, accepted, first_given}
use Rattle.table.specs.Refusals.{answer_of}
use Rattle.table.specs.Sections.{header_row, kind_in, rows, from, row, lent}
use Rattle.table.specs.Lists.{Lists, list_for, unpacked}

-- "1: fewer than 14 bytes"
unfoldable pub answer1 : List ℕ → Option Answer
answer1 bytes = pick (ltb (length bytes) 14) (Some (answer 1 0 0 0)) None

-- "2: header version, count, delay or padding out of range"
unfoldable pub answer2 : List ℕ → Option Answer
answer2 bytes = elim (row_fault Reading 0 (header_row bytes)) [ None ↦ None | Some test ↦ Some (answer 2 0 0 test) ]

-- "3: length is not what the counts require"
unfoldable pub answer3 : List ℕ → Option Answer
answer3 bytes = pick (eqb (length bytes) (from bytes 6)) None (Some (answer 3 0 0 0))

-- "4: a record's field or padding out of range": the first bad row of a section, and of the lowest section that has one
unfoldable pub bad_row : List ℕ → ℕ → Option ℕ
bad_row bytes section = least_from (λ i. is_some (row_fault Reading (kind_in bytes section) (row bytes section i))) 0 (rows bytes section)

unfoldable pub bad_section : List ℕ → Option ℕ
bad_section bytes = least_from (λ s. is_some (bad_row bytes s)) 1 5

unfoldable pub answer_at_row : List ℕ → ℕ → ℕ → Answer
answer_at_row bytes section i = answer 4 section i (number_or0 (row_fault Reading (kind_in bytes section) (row bytes section i)))

unfoldable pub answer4 : List ℕ → Option Answer
answer4 bytes = elim (bad_section bytes) [ None ↦ None | Some s ↦ Some (answer_at_row bytes s (number_or0 (bad_row bytes s))) ]

-- "11: writer or unpacker: a lent result is too short": the first of the lent lists that is shorter than what it is lent for
unfoldable pub short_list : Lists → Lists → Option ℕ
short_list ls before = least_from (λ s. ltb (length (list_for before s)) (length (list_for ls s))) 0 6

unfoldable pub answer11 : List ℕ → Lists → Option Answer
answer11 bytes before = elim (short_list (unpacked bytes) before) [ None ↦ None | Some s ↦ Some (answer 11 0 0 0) ]

unfoldable pub unpack_answer : List ℕ → Lists → Answer
unpack_answer bytes before = first_given (answer1 bytes ∷ answer2 bytes ∷ answer3 bytes ∷ answer4 bytes ∷ answer11 bytes before ∷ [])

unfoldable pub unpacks : List ℕ → Lists → Bool
unpacks bytes before = eqb (unpack_answer bytes before).number 0

-- "Each refusal leaves every lent result all zero; an acceptance leaves zero after what it wrote."
unfoldable pub left : Bool → ℕ → List ℕ → List ℕ
left ok n numbers = pick ok (lent n numbers) (replicate n 0)

-- the answer, and the records that it counts: as many as were written to each list, none on a refusal
pub record Unpacked : Type 0 where
  pub answer : Answer
  pub systems : ℕ
  pub vls : ℕ
  pub streams : ℕ
  pub ports : ℕ
  pub hops : ℕ

unfoldable pub unpacked_by : Result Counts Refusal → Unpacked
unpacked_by (Ok n) =
    record { answer = accepted; systems = n.systems; vls = n.vls; streams = n.streams; ports = n.ports; hops = n.hops }
unpacked_by (Err r) = record { answer = answer_of r; systems = 0; vls = 0; streams = 0; ports = 0; hops = 0 }

-- those of sections 1 to 5
unfoldable pub counted : Unpacked → List ℕ
counted r = r.systems ∷ r.vls ∷ r.streams ∷ r.ports ∷ r.hops ∷ []

-- what the unpacker promises, of the lent lists as they were before and as they are after: its answer; the records that it wrote of each
-- section, none on a refusal; and what the list of each section holds at the end
pub record Unpacks (bytes : List ℕ) (before : Lists) (r : Unpacked) (after : Lists) : Type 0 where
  pub answer : r.answer ≡ unpack_answer bytes before
  pub counts : counted r ≡ pick (unpacks bytes before) (tabulate (λ s. rows bytes (suc s)) 5) (replicate 5 0)
  pub held : (s : ℕ) → list_for after s ≡ left (unpacks bytes before) (length (list_for before s)) (list_for (unpacked bytes) s)

-- 01, Answers by number, whole: the answer to a table and a lent result, from its bytes; and what is left in the lent result.
-- Assumes nothing.
use Rattle.std.specs.Prelude.{ℕ, Bool, List, [], ◌∷◌, ◌++◌, eqb, length, Option, None, Some}
use Rattle.base.specs.Pick.{pick}
use Rattle.network.specs.Network.{Network}
use Rattle.table.specs.declared.Answer.{Answer}
use Rattle.table.specs.Answers.{answer, first_given}
use Rattle.table.specs.Unpack.{answer1, answer2, answer3, answer4, left}
use Rattle.table.specs.Read.{network_in, answer5, answer6}
use Rattle.rows.specs.Rows.{rows_of}
use Rattle.rows.specs.Refusals.{late_system, too_many_rows, too_short, endless_vl, endless_port}

-- a refusal by number at a row of a section, where there is such a row
unfoldable pub refused_at : ℕ → ℕ → Option ℕ → Option Answer
refused_at number section None = None
refused_at number section (Some i) = Some (answer number section i 0)

-- "7 .. 1, end system"
unfoldable pub answer7 : Network → Option Answer
answer7 net = refused_at 7 1 (late_system net)

-- "8 .. 0, 0"; its tests are told apart: 0 more than 1,024 rows, 1 a lent result that is too short
unfoldable pub answer8 : Network → ℕ → Option Answer
answer8 net room = pick (too_many_rows net) (Some (answer 8 0 0 0)) (pick (too_short net room) (Some (answer 8 0 0 1)) None)

-- "9 .. 2, VL"
unfoldable pub answer9 : Network → Option Answer
answer9 net = refused_at 9 2 (endless_vl net)

-- "10 .. 4, port"
unfoldable pub answer10 : Network → Option Answer
answer10 net = refused_at 10 4 (endless_port net)

-- "They are tested in this order": 1 to 10, of the bytes of a table and a lent result of `room` numbers
unfoldable pub refusals : List ℕ → ℕ → List (Option Answer)
refusals bytes room =
    let net = network_in bytes in
    answer1 bytes ∷ answer2 bytes ∷ answer3 bytes ∷ answer4 bytes ∷ answer5 net ∷ answer6 net
    ∷ answer7 net ∷ answer8 net room ∷ answer9 net ∷ answer10 net ∷ []

unfoldable pub analysis_answer : List ℕ → ℕ → Answer
analysis_answer bytes room = first_given (refusals bytes room)

unfoldable pub accepts : List ℕ → ℕ → Bool
accepts bytes room = eqb (analysis_answer bytes room).number 0

-- the numbers of rows, one row after the other
unfoldable pub joined : List (List ℕ) → List ℕ
joined [] = []
joined (row ∷ rows) = row ++ joined rows

-- "Each refusal leaves every lent result all zero; an acceptance leaves zero after what it wrote."
unfoldable pub rows_left : List ℕ → ℕ → List ℕ
rows_left bytes room = left (accepts bytes room) room (joined (rows_of (network_in bytes)))

-- how many rows were written: none on a refusal
unfoldable pub rows_given : List ℕ → ℕ → ℕ
rows_given bytes room = pick (accepts bytes room) (length (rows_of (network_in bytes))) 0

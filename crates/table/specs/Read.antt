-- 01, Answers by number: the reader's answers 1 to 6, in 01's order, and the network of an accepted table.
-- Assumes nothing.
use Rattle.std.specs.Prelude.{ℕ, List, [], ◌∷◌, Option, None, Some}
use Rattle.base.specs.Least.{least_from}
use Rattle.base.specs.Tests.{is_some, number_or0}
use Rattle.network.specs.Network.{Network}
use Rattle.network.specs.References.{ref_fault, bad_reference, bad_sample}
use Rattle.table.specs.declared.Answer.{Answer}
use Rattle.table.specs.Answers.{answer, first_given}
use Rattle.table.specs.Unpack.{answer1, answer2, answer3, answer4}
use Rattle.table.specs.Decoded.{network_of}
use Rattle.table.specs.Lists.{unpacked}

-- the network that a table describes
unfoldable pub network_in : List ℕ → Network
network_in bytes = network_of (unpacked bytes)

-- "5: a reference is bad": the first bad row of the lowest section that has one; sections 2 to 5
unfoldable pub bad_ref_section : Network → Option ℕ
bad_ref_section net = least_from (λ s. is_some (bad_reference net s)) 2 4

unfoldable pub answer_at_reference : Network → ℕ → ℕ → Answer
answer_at_reference net section i = answer 5 section i (number_or0 (ref_fault net section i))

unfoldable pub answer5 : Network → Option Answer
answer5 net = elim (bad_ref_section net) [ None ↦ None | Some s ↦ Some (answer_at_reference net s (number_or0 (bad_reference net s))) ]

-- "6: a sampling message needs more than one packet": section 3, the stream
unfoldable pub answer6 : Network → Option Answer
answer6 net = elim (bad_sample net) [ None ↦ None | Some s ↦ Some (answer 6 3 s 0) ]

unfoldable pub read_answer : List ℕ → Answer
read_answer bytes =
    first_given (answer1 bytes ∷ answer2 bytes ∷ answer3 bytes ∷ answer4 bytes ∷ answer5 (network_in bytes) ∷ answer6 (network_in bytes) ∷ [])

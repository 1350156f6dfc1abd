-- What the private functions of the reader promise one another; nothing here has to be believed.
-- Assumes nothing.
use Rattle.std.specs.Prelude.{ℕ, ◌<◌, ◌≡◌, length, Option, None, Some}
use Rattle.base.specs.Pick.{pick}
use Rattle.base.specs.Least.{least_from}
use Rattle.base.specs.Tests.{is_some, number_or0}
use Rattle.network.specs.Network.{Network, stream_at}
use Rattle.network.specs.Ranges.{Ranges}
use Rattle.network.specs.References.{parent_earlier, parent_same_vl, parent_lower_port, bad_sample}
use Rattle.table.specs.declared.Answer.{Answer}
use Rattle.table.specs.Answers.{answer, accepted}

-- ---- answers: of a section, and of the samples
abbrev pub refusal_at : Option ℕ → (ℕ → Answer) → Answer
refusal_at None f = accepted
refusal_at (Some i) f = f i

-- what a test of the first rows answers is what the function says of them
abbrev pub Computes : (ℕ → Option ℕ → Type 0) → ℕ → (ℕ → Option ℕ) → Type 0
Computes answers rows fault = (i : ℕ) (o : Option ℕ) → i < rows → answers i o → o ≡ fault i

-- the first of so many rows of a section that has a fault, where `fault` says the first test of a row that fails
unfoldable pub first_bad : (ℕ → Option ℕ) → ℕ → ℕ → Answer
first_bad fault section rows = refusal_at (least_from (λ i. is_some (fault i)) 0 rows) (λ i. answer 5 section i (number_or0 (fault i)))

unfoldable pub sample_answer : Network → Answer
sample_answer net = refusal_at (bad_sample net) (λ s. answer 6 3 s 0)

-- the first test of a hop's parent that fails, by its place among the hop's tests
unfoldable pub parent_fault : Network → ℕ → Option ℕ
parent_fault net h =
    pick (parent_earlier net h) (pick (parent_same_vl net h) (pick (parent_lower_port net h) None (Some 4)) (Some 3)) (Some 2)

-- ---- what the sampling rule takes for granted: sizes that equation 4 is asked for, and streams that name VLs
pub record Named (net : Network) : Type 0 where
  pub ranges : Ranges net
  pub vl : (s : ℕ) → s < length net.streams → (stream_at net s).vl < length net.vls

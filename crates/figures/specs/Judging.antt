-- The answers 7 to 10 of a network, and what they leave where none is given. Nothing here has to be believed.
-- Assumes nothing.
use Rattle.std.specs.Prelude.{ℕ, ◌*◌, [], ◌∷◌, ◌≡◌}
use Rattle.layout.specs.Limits.{limits}
use Rattle.network.specs.Network.{Network}
use Rattle.table.specs.declared.Answer.{Answer}
use Rattle.table.specs.Answers.{first_given}
use Rattle.table.specs.Sections.{lent}
use Rattle.answers.specs.Analysis.{answer7, answer8, answer9, answer10}
use Rattle.figures.specs.declared.found.Figures.{Figures}
use Rattle.figures.specs.Figures.{waits_of, queues_of, hop_figures}

unfoldable pub judged : Network → ℕ → Answer
judged net room = first_given (answer7 net ∷ answer8 net room ∷ answer9 net ∷ answer10 net ∷ [])

-- the figures of the network
pub record Computed (net : Network) (found : Figures) : Type 0 where
  pub waits_are : found.waits ≡ lent limits.vls (waits_of net)
  pub queues_are : found.queues ≡ lent (limits.vls * 4) (queues_of net)
  pub hops_are : found.hops ≡ lent limits.hops (hop_figures net)

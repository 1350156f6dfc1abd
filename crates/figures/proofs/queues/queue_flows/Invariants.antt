-- `figures::queues::queue_flows` meets its contract: after s turns the flows of those of the first s streams are gathered that are on the sub-link.
-- Assumes nothing.
use Rattle.rows.specs.Queues.{queue_flow}
use Rattle.sheet.specs.Sheet.{network_on}
use Rattle.figures.proofs.GatherLaws.{Gathers}
use Rattle.figures.proofs.QueueLaws.{on_sub_link}
use Rattle.figures.proofs.queues.queue_flows.Given as goal

abbrev pub invariant-loop-s : goal.invariant-loop-s
invariant-loop-s l = let net = network_on l.net.sheet.now in Gathers (queue_flow net) (on_sub_link net l.v l.k) l.s l.flows

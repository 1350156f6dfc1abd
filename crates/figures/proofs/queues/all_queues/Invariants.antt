-- `figures::queues::all_queues` meets its contract: after v turns, and k of the inner loop, the figures of the sub-links before are noted, and
-- no queue there is without a busy length. Assumes nothing.
use Rattle.sheet.specs.Sheet.{network_on}
use Rattle.figures.proofs.QueueLaws.{QueuesTo}
use Rattle.figures.proofs.queues.all_queues.Given as goal

abbrev pub invariant-loop-v : goal.invariant-loop-v
invariant-loop-v l = QueuesTo (network_on l.net.sheet.now) l.v 0 l.queues

abbrev pub invariant-loop-k : goal.invariant-loop-k
invariant-loop-k l = QueuesTo (network_on l.net.sheet.now) l.v l.k l.queues

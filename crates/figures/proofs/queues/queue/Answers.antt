-- `figures::queues::queue` meets its contract: the station takes the sub-link's flows, and its figure less one gap is the queue's.
-- Assumes nothing.
use mathlib.Core.Path.{ap}
use Rattle.network.specs.declared.Vl.{Vl}
use Rattle.sheet.proofs.GoodLaws.{good_of}
use Rattle.sheet.proofs.SheetLaws.{rules_on}
use Rattle.figures.proofs.BoundLaws.{queue_offered}
use Rattle.figures.proofs.QueueLaws.{queue_given, queue_none}
use Rattle.figures.proofs.queues.queue.Goals as goal

pub figure-requires : goal.figure-requires
figure-requires c =
    let good = good_of c.args.net.good in
    rw c.queue_flows.ensures (queue_offered _ good.ranges good.references _ _)

pub returns-in-Some : goal.returns-in-Some
returns-in-Some c =
    rw c.less.ensures
    (queue_given _ _ _ (rules_on _) _ c.queue_flows.ensures _ (ap (λ (x : Vl). x.gap) c.requires.is) c.in-Some.figure c.in-Some.ensures)

pub returns-in-None : goal.returns-in-None
returns-in-None c = queue_none _ _ _ (rules_on _) _ c.queue_flows.ensures _ (ap (λ (x : Vl). x.gap) c.requires.is) c.in-None.ensures

-- `station::flows::searched` meets its contract. The loop's invariant: what is known where the search stands over the flows.
-- Assumes nothing.
use Rattle.search.specs.Searching.{left}
use Rattle.station.specs.Searching.{SearchingOver}
use Rattle.station.proofs.flows.searched.Given as goal

abbrev pub invariant-loop-d : goal.invariant-loop-d
invariant-loop-d g l = SearchingOver (g.F.Flows.flows l.flows) l.search

abbrev pub decreases-loop-d : goal.decreases-loop-d
decreases-loop-d g l = left l.search

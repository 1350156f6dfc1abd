-- `layout::rows::fault_of` meets its contract: after k turns the first k fields are in range.
-- Assumes nothing.
use Rattle.layout.proofs.FaultLaws.{GoodTo}
use Rattle.layout.proofs.rows.fault_of.Given as goal

abbrev pub invariant-loop-k : goal.invariant-loop-k
invariant-loop-k l = GoodTo l.way l.kind l.row l.k

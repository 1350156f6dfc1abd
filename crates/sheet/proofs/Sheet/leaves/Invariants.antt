-- `Sheet::leaves` meets its contract: after h turns each hop is noted that is the parent of one of the first h hops.
-- Assumes nothing.
use Rattle.sheet.specs.Sheet.{network_on}
use Rattle.sheet.proofs.LeafLaws.{LeavesTo}
use Rattle.sheet.proofs.Sheet.leaves.Given as goal

abbrev pub invariant-loop-h : goal.invariant-loop-h
invariant-loop-h l = LeavesTo (network_on l.self) l.h l.leaves

-- `figures::counting::destinations` meets its contract: after h turns the destinations among the first h hops are counted for each VL.
-- Assumes nothing.
use Rattle.sheet.specs.Sheet.{network_on}
use Rattle.figures.proofs.CountLaws.{CountsTo}
use Rattle.figures.proofs.counting.destinations.Given as goal

abbrev pub invariant-loop-h : goal.invariant-loop-h
invariant-loop-h l = CountsTo (network_on l.net.sheet.now) l.h l.counts

-- `analysis::results::put_rows` meets its contract: after s turns the rows of the first s streams stand in the lent list.
-- Assumes nothing.
use lib.ListN.{length}
use Rattle.sheet.specs.Sheet.{network_on}
use Rattle.analysis.specs.Placing.{Put}
use Rattle.analysis.proofs.results.put_rows.Given as goal

abbrev pub invariant-loop-s : goal.invariant-loop-s
invariant-loop-s l = Put (network_on l.net.sheet.now) l.s l.at (length l.initial.res) l.res

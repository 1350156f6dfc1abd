-- `analysis::results::put_row` meets its contract: after k turns the first k numbers of the row are put.
-- Assumes nothing.
use mathlib.Core.Path.{◌≡◌}
use lib.Seq.{paste}
use Rattle.analysis.proofs.results.put_row.Given as goal

abbrev pub invariant-loop-k : goal.invariant-loop-k
invariant-loop-k l = l.res ≡ paste l.initial.res l.at l.fn.row l.k

-- `figures::counting::rows_fit` meets its contract: the rows are counted, and both tests go by the count.
-- Assumes nothing.
use native.Mathlib.Omega.{arith}
use Rattle.table.specs.Refusals.{answer_of, given}
use Rattle.figures.proofs.JudgeLaws.{given_8_many, given_8_short, none_8}
use Rattle.figures.proofs.counting.rows_fit.Goals as goal

pub returns-then-count-gt-MOST_ROWS : goal.returns-then-count-gt-MOST_ROWS
unfolding given answer_of
returns-then-count-gt-MOST_ROWS c = given_8_many _ c.args.room (omega (arith, c.row_count-count.ensures.is))

pub returns-then-room-count : goal.returns-then-room-count
unfolding given answer_of
returns-then-room-count c = let is = c.row_count-count.ensures.is in given_8_short _ c.args.room (omega (arith, is)) (omega (arith, is))

pub returns : goal.returns
unfolding given
returns c = let is = c.row_count-count.ensures.is in none_8 _ c.args.room (omega (arith, is)) (omega (arith, is))

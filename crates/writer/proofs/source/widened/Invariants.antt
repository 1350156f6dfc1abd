-- `writer::source::widened` meets its contract: the numbers so far stand in the array, and zeros behind them.
-- Assumes nothing.
use Rattle.std.proofs.Common.{◌≡◌}
use lib.ListN.{take}
use Rattle.layout.specs.Promises.{wide}
use Rattle.writer.proofs.source.widened.Given as goal

abbrev pub invariant-loop-k : goal.invariant-loop-k
invariant-loop-k l = l.row ≡ wide (take l.k l.numbers)

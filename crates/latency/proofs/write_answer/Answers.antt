-- `latency::write_answer` is safe: the rows that the analysis counts stand in the result.
-- Assumes nothing.
use Rattle.std.proofs.Common.{arith}
use Rattle.latency.proofs.RowLaws.{rows_within}
use Rattle.latency.proofs.write_answer.Goals as goal

pub write_rows-requires : goal.write_rows-requires
write_rows-requires c = omega (arith, rows_within _ _ _ _ c.in-Ok.ensures)

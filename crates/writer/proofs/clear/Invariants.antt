-- `writer::clear` meets its contract: the bytes so far are zero.
-- Assumes nothing.
use Rattle.std.proofs.Common.{◌≡◌}
use lib.ListN.{take, replicate}
use Rattle.writer.proofs.clear.Given as goal

abbrev pub invariant-loop-byte : goal.invariant-loop-byte
invariant-loop-byte l = take l.byte-index l.out ≡ replicate l.byte-index 0

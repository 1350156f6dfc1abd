-- `unpack::write_text` is safe: the records that the unpacker counts stand in the lists.
-- Assumes nothing.
use Rattle.std.proofs.Common.{arith}
use Rattle.unpack.proofs.CountLaws.{counts_held}
use Rattle.unpack.proofs.write_text.Goals as goal

pub write_lists-requires : goal.write_lists-requires
write_lists-requires c = counts_held _ _ _ _ c.in-Ok.ensures (omega arith)

-- `unpacker::header::Header::of` meets its contract: the first 14 bytes of a table with fewer are all that it has.
-- Assumes nothing.
use mathlib.Core.Path.{ap, ◌∙◌}
use Rattle.layout.specs.Promises.{wide}
use Rattle.unpacker.proofs.HeaderLaws.{header_front}
use Rattle.unpacker.proofs.header.Header.of.Goals as goal

pub invariant_of-result : goal.invariant_of-result
invariant_of-result c = record { read = rw c.fewer.ensures at c.read_row.ensures ∙ ap wide (header_front c.args.table.now) }

-- `unpacker::header::Header::list` meets its contract: the version and the delays stand at their places in the row, as they are meant.
-- Assumes nothing.
use Rattle.unpacker.proofs.HeaderLaws.{list_read}
use Rattle.unpacker.proofs.header.Header.list.Goals as goal

pub returns : goal.returns
returns c = let self = c.args.self.now in list_read self.table.now self.row self.read _ c.converted_row-row.ensures

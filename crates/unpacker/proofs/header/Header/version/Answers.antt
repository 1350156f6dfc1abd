-- `unpacker::header::Header::version` meets its contract.
-- Assumes nothing.
use Rattle.unpacker.proofs.HeaderLaws.{version_read}
use Rattle.unpacker.proofs.header.Header.version.Goals as goal

pub returns : goal.returns
returns c = let self = c.args.self.now in version_read self.table.now self.row self.read

-- `unpacker::header::Header::count` meets its contract.
-- Assumes nothing.
use Rattle.unpacker.proofs.HeaderLaws.{count_0, count_read}
use Rattle.unpacker.proofs.header.Header.count.Goals as goal

pub returns-then-section-eq0 : goal.returns-then-section-eq0
returns-then-section-eq0 c = count_0 c.args.self.now.table.now c.args.section c.if-section-eq0.true

pub returns-else-section-eq0 : goal.returns-else-section-eq0
returns-else-section-eq0 c =
    let self = c.args.self.now in
    count_read self.table.now self.row self.read c.args.section c.if-section-eq0.false

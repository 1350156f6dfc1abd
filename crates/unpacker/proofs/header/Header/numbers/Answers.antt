-- `unpacker::header::Header::numbers` meets its contract: the list has the numbers of each row.
-- Assumes nothing.
use native.Mathlib.Omega.{arith}
use Rattle.unpacker.proofs.RoomLaws.{header_numbers, section_numbers, numbers_most}
use Rattle.unpacker.proofs.header.Header.numbers.Goals as goal

pub returns-then-section-eq0 : goal.returns-then-section-eq0
returns-then-section-eq0 c = header_numbers c.args.self.now.table.now c.args.section c.if-section-eq0.true

pub overflow_mul-result : goal.overflow_mul-result
overflow_mul-result c =
    rw (c.count.ensures, c.numbers_in.ensures) (omega (arith, numbers_most c.args.self.now.table.now c.args.section c.requires))

pub returns-else-section-eq0 : goal.returns-else-section-eq0
returns-else-section-eq0 c =
    rw (c.count.ensures, c.numbers_in.ensures) (section_numbers c.args.self.now.table.now c.args.section c.if-section-eq0.false c.requires)

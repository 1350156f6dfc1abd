-- `unpacker::header::Header::test_sections` meets its contract: after the turns for sections 1 to s - 1 none of them has a bad row.
-- Assumes nothing.
use Rattle.unpacker.proofs.ExamineLaws.{CleanTo}
use Rattle.unpacker.proofs.header.Header.test_sections.Given as goal

abbrev pub invariant-loop-s : goal.invariant-loop-s
invariant-loop-s l = CleanTo l.self.table.now l.s

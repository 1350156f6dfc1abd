-- `unpacker::section::Section::test` meets its contract: after i turns the first i rows have no fault.
-- Assumes nothing.
use Rattle.unpacker.proofs.ExamineLaws.{GoodTo}
use Rattle.unpacker.proofs.section.Section.test.Given as goal

abbrev pub invariant-loop-i : goal.invariant-loop-i
invariant-loop-i l = GoodTo l.self.table.now l.self.section l.i

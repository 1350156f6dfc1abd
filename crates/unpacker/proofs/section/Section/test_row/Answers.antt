-- `unpacker::section::Section::test_row` meets its contract: answer 4 with the fault of the row.
-- Assumes nothing.
use Rattle.table.specs.Refusals.{answer_of, said}
use Rattle.unpacker.proofs.ExamineLaws.{fault_told, row_bad, row_good}
use Rattle.unpacker.proofs.section.Section.test_row.Goals as goal

pub returns-in-Some : goal.returns-in-Some
unfolding said answer_of
returns-in-Some c =
    let self = c.args.self.now in
    row_bad self.table.now self.section c.args.i c.in-Some.test
    (fault_told self.table.now self.section c.args.i _ _ _ c.read.ensures self.of_kind c.in-Some.ensures)

pub returns-in-None : goal.returns-in-None
unfolding said
returns-in-None c =
    let self = c.args.self.now in
    row_good self.table.now self.section c.args.i
    (fault_told self.table.now self.section c.args.i _ _ _ c.read.ensures self.of_kind c.in-None.ensures)

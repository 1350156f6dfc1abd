-- `writer::refusals::section_tested` meets its contract: the records so far are good.
-- Assumes nothing.
use Rattle.table.specs.Lent.{lists_of}
use Rattle.writer.proofs.RefusalLaws.{GoodTo}
use Rattle.writer.proofs.refusals.section_tested.Given as goal

abbrev pub invariant-loop-i : goal.invariant-loop-i
invariant-loop-i l = GoodTo (lists_of l.lists) l.section l.i

-- `writer::refusals::records_tested` meets its contract: the sections so far have no bad record.
-- Assumes nothing.
use Rattle.table.specs.Lent.{lists_of}
use Rattle.writer.proofs.RefusalLaws.{CleanTo}
use Rattle.writer.proofs.refusals.records_tested.Given as goal

abbrev pub invariant-loop-section : goal.invariant-loop-section
invariant-loop-section l = CleanTo (lists_of l.lists) l.section

-- `writer::refusals::all_whole` meets its contract: the lists so far are whole.
-- Assumes nothing.
use Rattle.table.specs.Lent.{lists_of}
use Rattle.writer.proofs.RefusalLaws.{WholeTo}
use Rattle.writer.proofs.refusals.all_whole.Given as goal

abbrev pub invariant-loop-section : goal.invariant-loop-section
invariant-loop-section l = WholeTo (lists_of l.lists) l.section

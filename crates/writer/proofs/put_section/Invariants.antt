-- `writer::put_section` meets its contract: the rows so far are put.
-- Assumes nothing.
use Rattle.std.proofs.Common.{◌≡◌}
use Rattle.table.specs.Lent.{lists_of}
use Rattle.writer.proofs.PutLaws.{put_to}
use Rattle.writer.proofs.put_section.Given as goal

abbrev pub invariant-loop-i : goal.invariant-loop-i
invariant-loop-i l = l.out ≡ put_to (lists_of l.lists) l.section l.at l.initial.out l.i

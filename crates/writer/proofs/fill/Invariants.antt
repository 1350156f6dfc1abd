-- `writer::fill` meets its contract: the sections so far are put, and the next one begins where they end.
-- Assumes nothing.
use Rattle.std.proofs.Common.{◌≡◌}
use Rattle.table.specs.Lent.{lists_of}
use Rattle.table.specs.Lists.{version_for}
use Rattle.table.specs.Sections.{start}
use Rattle.table.specs.Write.{count}
use Rattle.writer.proofs.PutLaws.{filled}
use Rattle.writer.proofs.fill.Given as goal

abbrev pub invariant-loop-section : goal.invariant-loop-section
invariant-loop-section l = record {
  here : l.at ≡ start (version_for (lists_of l.lists)) (count (lists_of l.lists)) l.section;
  put : l.out ≡ filled (lists_of l.lists) l.initial.out l.section;
}

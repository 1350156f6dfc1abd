-- `writer::source::table_bytes` meets its contract: the sections so far take the bytes before the next one, and so few that they can be counted.
-- Assumes nothing.
use Rattle.std.proofs.Common.{◌≡◌, ◌*◌, ◌^◌, ◌≤◌}
use Rattle.table.specs.Lent.{lists_of}
use Rattle.table.specs.Lists.{version_for}
use Rattle.table.specs.Sections.{start}
use Rattle.table.specs.Write.{count}
use Rattle.writer.proofs.source.table_bytes.Given as goal

abbrev pub invariant-loop-section : goal.invariant-loop-section
invariant-loop-section l = record {
  is : l.bytes ≡ start (version_for (lists_of l.lists)) (count (lists_of l.lists)) l.section;
  few : l.bytes ≤ l.section * 2 ^ 61;
}

-- `unpacker::section::Section::put` meets its contract: after k turns the first k numbers are those of the record.
-- Assumes nothing.
use mathlib.Core.Path.{◌≡◌}
use lib.ListN.{take}
use Rattle.table.specs.Sections.{record_of}
use Rattle.unpacker.proofs.section.Section.put.Given as goal

abbrev pub invariant-loop-k : goal.invariant-loop-k
invariant-loop-k l = take l.k l.numbers ≡ take l.k (record_of l.self.table.now l.self.section l.i)

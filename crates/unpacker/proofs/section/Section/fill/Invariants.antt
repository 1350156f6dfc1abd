-- `unpacker::section::Section::fill` meets its contract: after i turns the list holds the first i records, and zeros.
-- Assumes nothing.
use mathlib.Core.Path.{◌≡◌}
use lib.ListN.{length}
use Rattle.table.specs.Sections.{records, lent}
use Rattle.unpacker.proofs.section.Section.fill.Given as goal

abbrev pub invariant-loop-i : goal.invariant-loop-i
invariant-loop-i l = l.out ≡ lent (length l.initial.out) (records l.self.table.now l.self.section l.i)

-- `unpacker::header::Header::start` meets its contract: after s turns the sections before s are passed.
-- Assumes nothing.
use mathlib.Core.Path.{◌≡◌}
use Rattle.table.specs.Sections.{from}
use Rattle.unpacker.proofs.header.Header.start.Given as goal

abbrev pub invariant-loop-s : goal.invariant-loop-s
invariant-loop-s l = l.at ≡ from l.self.table.now l.s

-- `unpacker::header::Header::fill_list` meets its contract: after k turns the first k numbers stand in front of zeros.
-- Assumes nothing.
use mathlib.Core.Path.{◌≡◌}
use lib.ListN.{length, take}
use Rattle.table.specs.Sections.{lent}
use Rattle.unpacker.proofs.header.Header.fill_list.Given as goal

abbrev pub invariant-loop-k : goal.invariant-loop-k
invariant-loop-k l = l.out ≡ lent (length l.initial.out) (take l.k l.list)

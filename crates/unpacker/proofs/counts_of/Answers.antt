-- `unpacker::counts_of` meets its contract: one count after the other.
-- Assumes nothing.
use Rattle.base.specs.Tabulate.{tabulate}
use Rattle.unpacker.proofs.counts_of.Goals as goal

pub returns : goal.returns
unfolding tabulate
returns c =
    simp (c.count.ensures, c.count-2.ensures, c.count-3.ensures, c.count-4.ensures, c.count-5.ensures, c.count-6.ensures, c.of-header.ensures)

-- `sheet::ticks_at` meets its contract: its test is the one that the ticks of a byte are said by.
-- Assumes nothing.
use borrow.Author.Tests.{eq-eqb, ne_eqb}
use Rattle.table.specs.Decoded.{ticks_at}
use Rattle.sheet.proofs.ticks_at.Goals as goal

pub returns-then-mbit-eq100 : goal.returns-then-mbit-eq100
unfolding ticks_at
returns-then-mbit-eq100 c = rw (eq-eqb _ _ c.if-mbit-eq100.true) c.per_byte.ensures

pub returns-else-mbit-eq100 : goal.returns-else-mbit-eq100
unfolding ticks_at
returns-else-mbit-eq100 c = rw (ne_eqb _ _ c.if-mbit-eq100.false) c.per_byte-else-mbit-eq100.ensures

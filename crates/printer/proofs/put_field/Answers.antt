-- `printer::put_field` meets its contract: a field of 0 bits puts nothing, and any other its words.
-- Assumes nothing.
use borrow.Author.Tests.{eq-eqb}
use Rattle.words.specs.Printed.{line_from}
use Rattle.text.proofs.GainLaws.{gains_none}
use Rattle.printer.proofs.put_field.Goals as goal

pub returns-else-shape-ne0 : goal.returns-else-shape-ne0
unfolding line_from
returns-else-shape-ne0 c = rw (eq-eqb c.args.shape.width 0 c.if-shape-ne0.false) (gains_none _)

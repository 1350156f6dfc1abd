-- `parser::filling::version_of` meets its contract: the list of one number holds the first that a line of the version says.
-- Assumes nothing.
use Rattle.notation.specs.Meant.{version_in}
use Rattle.parser.proofs.FillLaws.{first_none, first_some}
use Rattle.parser.proofs.filling.version_of.Goals as goal

pub returns-then-fill-eq0 : goal.returns-then-fill-eq0
unfolding version_in
returns-then-fill-eq0 c = first_none _ _ c.fill.ensures.count c.if-fill-eq0.true

pub returns : goal.returns
unfolding version_in
returns c = first_some _ _ _ c.fill.ensures.count c.if-fill-eq0.false c.fill.ensures.put

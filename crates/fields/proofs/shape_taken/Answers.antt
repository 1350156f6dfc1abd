-- `fields::shape_taken` meets its contract: a field of 0 bits is 0, and takes no word.
-- Assumes nothing.
use borrow.Author.Tests.{eq-eqb}
use Rattle.notation.specs.Steps.{shape_from}
use Rattle.fields.proofs.FieldLaws.{behind_here, takes_said}
use Rattle.fields.proofs.shape_taken.Goals as goal

pub returns-then-shape-eq0 : goal.returns-then-shape-eq0
unfolding shape_from
returns-then-shape-eq0 c =
    let a = c.args in
    takes_said a.text.now a.at a.end _ _ (rw (eq-eqb a.shape.width 0 c.if-shape-eq0.true)) (behind_here a.text.now a.at a.end)

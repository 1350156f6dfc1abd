-- `text::Text::put_spaced` meets its contract: the first number is put, and the others behind it.
-- Assumes nothing.
use Rattle.text.specs.Text.{spaced}
use Rattle.text.proofs.GainLaws.{gains_more}
use Rattle.text.proofs.Text.put_spaced.Goals as goal

pub returns-in-Some : goal.returns-in-Some
unfolding spaced
returns-in-Some c = rw c.in-Some.ensures.cases.0 (gains_more _ _ _ _ _ c.put_number.ensures c.put_rest.ensures)

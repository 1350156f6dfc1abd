-- `text::Text::put_refusal` meets its contract: the word is put, and the line of the answer's numbers behind it.
-- Assumes nothing.
use Rattle.text.specs.Refusal.{refused, refusal}
use Rattle.text.proofs.GainLaws.{gains_more}
use Rattle.text.proofs.Text.put_refusal.Goals as goal

pub returns : goal.returns
unfolding refused refusal
returns c = gains_more _ _ _ refused _ c.put_bytes.ensures c.put_line.ensures

-- `text::Text::put_line` meets its contract: the numbers are put, and the line's end behind them.
-- Assumes nothing.
use Rattle.text.specs.Text.{line}
use Rattle.text.proofs.GainLaws.{gains_more}
use Rattle.text.proofs.Text.put_line.Goals as goal

pub returns : goal.returns
unfolding line
returns c = gains_more _ _ _ _ _ c.put_spaced.ensures c.put_byte.ensures

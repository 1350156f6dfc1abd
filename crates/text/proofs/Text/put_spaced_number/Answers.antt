-- `text::Text::put_spaced_number` meets its contract: a space is put, and the number behind it.
-- Assumes nothing.
use Rattle.std.proofs.Common.{[], ◌∷◌}
use Rattle.text.proofs.GainLaws.{gains_more}
use Rattle.text.proofs.Text.put_spaced_number.Goals as goal

pub returns : goal.returns
returns c = gains_more _ _ _ (32 ∷ []) _ c.put_byte.ensures c.put_number.ensures

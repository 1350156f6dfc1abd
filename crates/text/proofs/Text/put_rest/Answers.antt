-- `text::Text::put_rest` meets its contract: no number is put at first, and then one more in each turn.
-- Assumes nothing.
use Rattle.text.specs.Text.{spaced_from}
use Rattle.text.proofs.GainLaws.{gains_none, gains_next_spaced}
use Rattle.text.proofs.Text.put_rest.Goals as goal

pub loop-n-init : goal.loop-n-init
unfolding spaced_from
loop-n-init c = gains_none _

pub loop-n-preserved : goal.loop-n-preserved
loop-n-preserved c =
    let l = c.loop-n in
    gains_next_spaced _ l.self _ _ l.n-index c.loop-n-test.true l.invariant c.put_spaced_number.ensures

-- `text::Text::put_bytes` meets its contract: no byte is put at first, and then one more in each turn.
-- Assumes nothing.
use Rattle.text.proofs.GainLaws.{gains_none, gains_next}
use Rattle.text.proofs.Text.put_bytes.Goals as goal

pub loop-byte-init : goal.loop-byte-init
loop-byte-init c = gains_none _

pub loop-byte-preserved : goal.loop-byte-preserved
loop-byte-preserved c =
    let l = c.loop-byte in
    gains_next _ l.self _ _ l.byte-index c.loop-byte-test.true l.invariant c.put_byte.ensures

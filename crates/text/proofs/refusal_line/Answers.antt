-- `text::refusal_line` meets its contract: there is room for the longest line of a refusal.
-- Assumes nothing.
use Rattle.std.proofs.Common.{◌∙◌, arith}
use Rattle.text.proofs.GainLaws.{gains_whole}
use Rattle.text.proofs.LineLaws.{refusal_fits}
use Rattle.text.proofs.refusal_line.Goals as goal

pub returns : goal.returns
returns c =
    c.written.ensures
    ∙ gains_whole _ _ _ c.new-text.ensures.start (rw c.new-text.ensures.lent (omega (arith, refusal_fits c.args.answer))) c.put_refusal.ensures

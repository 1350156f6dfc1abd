-- `unpack::numbers_line` meets its contract: there is room for the longest line.
-- Assumes nothing.
use Rattle.std.proofs.Common.{◌∙◌, arith}
use Rattle.text.proofs.GainLaws.{gains_whole}
use Rattle.notation.proofs.PrintedLaws.{line_fits}
use Rattle.unpack.proofs.numbers_line.Goals as goal

pub returns : goal.returns
returns c =
    let a = c.args in
    let fits = line_fits a.version a.section a.numbers.now in
    c.written.ensures ∙ gains_whole _ _ _ c.new-text.ensures.start (rw c.new-text.ensures.lent (omega arith)) c.put_record.ensures

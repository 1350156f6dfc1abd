-- `latency::row_line` meets its contract: the six numbers of the row stand whole in the line.
-- Assumes nothing.
use Rattle.std.proofs.Common.{◌≡◌, ◌+◌, ◌-◌, ◌*◌, ◌∙◌, arith, length, take, drop, length-take, length-drop}
use Rattle.text.proofs.GainLaws.{gains_whole}
use Rattle.text.proofs.LineLaws.{line_fits}
use Rattle.latency.proofs.row_line.Goals as goal

pub returns : goal.returns
returns c =
    let start = c.args.i * 6 in
    let numbers = c.args.numbers.now in
    let row = take 6 (drop start numbers) in
    let six : start + 6 - start ≡ 6 = omega arith in
    let long : length row ≡ 6 = omega (arith, length-take 6 (drop start numbers), length-drop start numbers) in
    c.written.ensures
    ∙ gains_whole _ _ _ c.new-text.ensures.start (rw c.new-text.ensures.lent (omega (arith, line_fits row (omega arith)))) (rw six at c.put_line.ensures)

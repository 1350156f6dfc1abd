-- `figures::judging::figures` meets its contract: a refusal of the reader is the answer and leaves all blank; else the sheet that it filled is judged, whose network is the table's, and a refusal clears all.
-- Assumes nothing.
use mathlib.Core.Path.{◌≡◌, sym}
use Rattle.table.specs.Answers.{accepted}
use Rattle.table.specs.Refusals.{said}
use Rattle.table.specs.Read.{read_answer}
use Rattle.reader.proofs.FillLaws.{good_sheet}
use Rattle.figures.proofs.JudgeLaws.{read_refused, judged_refused, judged_accepted}
use Rattle.figures.proofs.judging.figures.Goals as goal

pub returns-in-Err : goal.returns-in-Err
unfolding said
returns-in-Err c = read_refused _ c.args.room _ c.read.ensures.network c.in-Err.refused c.in-Err.ensures.answer _ c.clear.ensures

pub new-requires : goal.new-requires
unfolding said
new-requires c = (good_sheet c.args.table.now _ (sym c.in_default.ensures.answer) c.read.ensures.network).1

pub returns-in-Err-judged : goal.returns-in-Err-judged
unfolding said
returns-in-Err-judged c =
    let took : accepted ≡ read_answer c.args.table.now = c.in_default.ensures.answer in
    rw c.in-Err-judged.is
    (judged_refused c.args.table.now c.args.room _ c.read.ensures.network (sym took) c.in-Err-judged.field-0 (rw c.new.ensures at c.in-Err-judged.ensures.answer) _ _
    c.clear-in-Err-judged.ensures c.clear-in-Err-judged-2.ensures)

pub returns-in_default-judged : goal.returns-in_default-judged
unfolding said
returns-in_default-judged c =
    let took : accepted ≡ read_answer c.args.table.now = c.in_default.ensures.answer in
    rw c.in_default-judged.is
    (judged_accepted c.args.table.now c.args.room _ c.read.ensures.network (sym took) (rw c.new.ensures at c.in_default-judged.ensures.answer) _
    (rw c.new.ensures at c.in_default-judged.ensures.figures))

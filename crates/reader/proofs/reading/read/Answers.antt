-- `reader::reading::read` meets its contract: a refusal of the table itself is handed on and leaves zeros, and so does one of its references; else the sheet is the table's.
-- Assumes nothing.
use mathlib.Core.Path.{refl, ◌∙◌}
use Rattle.table.specs.Refusals.{said}
use Rattle.reader.proofs.FillLaws.{refused_answer, blank_left, none_given_lem, sheet_ranges, answer_is, sheet_is}
use Rattle.reader.proofs.reading.read.Goals as goal

pub returns-in-Err-clause-answer : goal.returns-in-Err-clause-answer
unfolding said
returns-in-Err-clause-answer c = refused_answer _ _ c.in-Err.ensures

pub returns-in-Err-clause-network : goal.returns-in-Err-clause-network
unfolding said
returns-in-Err-clause-network c = c.clear.ensures ∙ blank_left _ _ (refused_answer _ _ c.in-Err.ensures)

pub load-requires : goal.load-requires
unfolding said
load-requires c = (none_given_lem _ c.in_default.ensures, c.clear.ensures)

pub references-answer-requires : goal.references-answer-requires
unfolding said
references-answer-requires c = sheet_ranges _ _ (none_given_lem _ c.in_default.ensures) c.load.ensures

pub returns-in-Err-answer-clause-answer : goal.returns-in-Err-answer-clause-answer
unfolding said
returns-in-Err-answer-clause-answer c = answer_is _ _ (none_given_lem _ c.in_default.ensures) c.load.ensures _ c.references-answer.ensures

pub returns-in-Err-answer-clause-network : goal.returns-in-Err-answer-clause-network
unfolding said
returns-in-Err-answer-clause-network c =
    c.clear-in-Err-answer.ensures ∙ blank_left _ _ (answer_is _ _ (none_given_lem _ c.in_default.ensures) c.load.ensures _ c.in-Err-answer.ensures)

pub returns-in_default-answer-clause-answer : goal.returns-in_default-answer-clause-answer
unfolding said
returns-in_default-answer-clause-answer c = answer_is _ _ (none_given_lem _ c.in_default.ensures) c.load.ensures _ c.references-answer.ensures

pub returns-in_default-answer-clause-network : goal.returns-in_default-answer-clause-network
unfolding said
returns-in_default-answer-clause-network c = sheet_is _ _ (none_given_lem _ c.in_default.ensures) c.load.ensures _ c.in_default-answer.ensures refl

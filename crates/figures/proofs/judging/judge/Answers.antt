-- `figures::judging::judge` meets its contract: a return is reached past the answers before it, which are not given, and gives its own; behind 10 all figures are noted.
-- Assumes nothing.
use mathlib.Core.Path.{refl, ap, ◌∙◌}
use Rattle.table.specs.Answers.{first_given}
use Rattle.table.specs.Refusals.{said, given}
use Rattle.figures.specs.declared.found.Figures.{Figures}
use Rattle.figures.specs.Figures.{no_figures}
use Rattle.figures.proofs.JudgeLaws.{judged_is, said_last}
use Rattle.figures.proofs.judging.judge.Goals as goal

pub returns-in-Err-clause-answer : goal.returns-in-Err-clause-answer
unfolding said given first_given
returns-in-Err-clause-answer c = judged_is _ _ _ _ _ _ c.in-Err.ensures refl refl refl

pub returns-in-Err-rows_fit-clause-answer : goal.returns-in-Err-rows_fit-clause-answer
unfolding said given first_given
returns-in-Err-rows_fit-clause-answer c = judged_is _ _ _ _ _ _ c.in_default.ensures c.in-Err-rows_fit.ensures refl refl

pub all_queues-requires : goal.all_queues-requires
unfolding no_figures
all_queues-requires c = ap (λ (f : Figures). f.queues) c.requires

pub returns-in-Err-all_queues-clause-answer : goal.returns-in-Err-all_queues-clause-answer
unfolding said given first_given
returns-in-Err-all_queues-clause-answer c = judged_is _ _ _ _ _ _ c.in_default.ensures c.in_default-rows_fit.ensures c.in-Err-all_queues.ensures.answer refl

pub mux_waits-requires : goal.mux_waits-requires
unfolding no_figures
mux_waits-requires c = ap (λ (f : Figures). f.waits) c.requires

pub all_ports-requires-clause-none : goal.all_ports-requires-clause-none
unfolding no_figures
all_ports-requires-clause-none c = ap (λ (f : Figures). f.hops) c.requires

pub returns-clause-answer : goal.returns-clause-answer
unfolding given first_given
returns-clause-answer c =
    said_last c.all_ports.result
    ∙ judged_is _ _ _ _ _ _ c.in_default.ensures c.in_default-rows_fit.ensures c.in_default-all_queues.ensures.answer c.all_ports.ensures.answer

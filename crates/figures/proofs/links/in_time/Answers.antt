use mathlib.Core.Path.{sym, ◌∙◌}
use native.Mathlib.Omega.{arith}
use borrow.Author.Count.{below_more}
use lib.ListN.{length}
use Rattle.rows.specs.Refusals.{sends_late, late_system}
use Rattle.table.specs.Refusals.{answer_of, given}
use Rattle.sheet.specs.Sheet.{network_on}
use Rattle.answers.specs.Analysis.{answer7}
use Rattle.figures.proofs.JudgeLaws.{refused_first, refused_nowhere}
use Rattle.figures.proofs.links.in_time.Goals as goal

pub returns-then-sends_late : goal.returns-then-sends_late
unfolding given answer_of answer7 late_system
returns-then-sends_late c =
    let net = network_on c.args.net.sheet.now in
    refused_first 7 1 (sends_late net) (length net.systems) c.loop-e.e (omega arith) (sym c.sends_late.ensures ∙ c.if-sends_late.true) c.loop-e.invariant

pub loop-e-preserved : goal.loop-e-preserved
loop-e-preserved c = below_more _ c.loop-e.e c.loop-e.invariant (sym c.sends_late.ensures ∙ c.if-sends_late.false)

pub returns : goal.returns
unfolding given answer7 late_system
returns c =
    let net = network_on c.args.net.sheet.now in
    refused_nowhere 7 1 (sends_late net) (length net.systems) (λ i l. c.loop-e.invariant i (omega arith))

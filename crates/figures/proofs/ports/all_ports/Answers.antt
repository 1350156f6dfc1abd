use mathlib.Core.Path.{refl, sym, ◌∙◌}
use native.Mathlib.Omega.{arith}
use lib.ListN.{length}
use Rattle.rows.specs.Ports.{figure_of}
use Rattle.rows.specs.Refusals.{endless, endless_port}
use Rattle.table.specs.Refusals.{answer_of, given}
use Rattle.sheet.specs.Sheet.{network_on}
use Rattle.sheet.proofs.GoodLaws.{good_of}
use Rattle.sheet.proofs.SheetLaws.{rules_on}
use Rattle.answers.specs.Analysis.{answer10}
use Rattle.figures.specs.Figures.{hop_figures}
use Rattle.figures.proofs.BoundLaws.{port_offered}
use Rattle.figures.proofs.FigureLaws.{ports_none, port_endless, figure_for, ports_more}
use Rattle.figures.proofs.JudgeLaws.{refused_first, refused_nowhere}
use Rattle.figures.proofs.NotedLaws.{noted_all}
use Rattle.figures.proofs.ports.all_ports.Goals as goal

pub loop-p-init : goal.loop-p-init
loop-p-init c = ports_none _ _ _ c.requires.none refl

pub figure-requires : goal.figure-requires
figure-requires c =
    let good = good_of c.args.net.good in
    rw c.port_flows.ensures.flows (port_offered _ good.ranges good.references _)

pub returns-in_default-clause-answer : goal.returns-in_default-clause-answer
unfolding given answer_of answer10 endless_port
returns-in_default-clause-answer c =
    let net = network_on c.args.net.sheet.now in
    let p = c.loop-p.p in
    let none = port_endless net p (rules_on _) _ c.port_flows.ensures.flows (sym c.in_default.is ∙ c.figure.ensures) in
    refused_first 10 4 (endless net) (length net.ports) p (omega arith) none c.loop-p.invariant.served

pub put_figure-requires : goal.put_figure-requires
put_figure-requires c =
    let l = c.loop-p in
    figure_for _ l.p (rules_on _) _ c.port_flows.ensures.flows c.in-Some.figure (sym c.in-Some.is ∙ c.figure.ensures) l.figures l.invariant.figures_are

pub loop-p-preserved : goal.loop-p-preserved
loop-p-preserved c =
    let l = c.loop-p in
    ports_more _ l.p (rules_on _) _ c.port_flows.ensures.flows c.in-Some.figure (sym c.in-Some.is ∙ c.figure.ensures) l.figures l.jitters _ _ l.invariant
    c.put_figure.ensures c.port_flows.ensures.jitters

pub returns-clause-answer : goal.returns-clause-answer
unfolding given answer10 endless_port
returns-clause-answer c = refused_nowhere 10 4 _ _ (λ i l. c.loop-p.invariant.served i (omega arith))

pub returns-clause-figures : goal.returns-clause-figures
unfolding hop_figures
returns-clause-figures c =
    let net = network_on c.args.net.sheet.now in
    let good = good_of c.args.net.good in
    let l = c.loop-p in
    noted_all net (figure_of net) good.references l.p l.figures good.ranges.few_hops (omega arith) l.invariant.figures_are

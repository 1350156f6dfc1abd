use mathlib.Core.Path.{sym, ap, ◌∙◌}
use Prim.Native.Nat.{◌<◌}
use native.Mathlib.Omega.{arith}
use lib.ListN.{length}
use Rattle.network.specs.declared.Hop.{Hop}
use Rattle.sheet.specs.Sheet.{network_on}
use Rattle.sheet.proofs.GoodLaws.{good_of}
use Rattle.figures.proofs.PortFlowLaws.{gathering_none, gathering_room, gathering_taken, gathering_passed, gathered_port}
use Rattle.figures.proofs.RangeLaws.{hop_walked}
use Rattle.figures.proofs.ports.port_flows.Goals as goal
use Rattle.figures.proofs.ports.port_flows.Goals.{then-hop-p, else-hop-p}

pub loop-h-init : goal.loop-h-init
loop-h-init c = rw c.clear.ensures (gathering_none _ _ _ c.requires.jitters_are)

pub flow-flow-requires-clause-asked : goal.flow-flow-requires-clause-asked
flow-flow-requires-clause-asked c =
    let l = c.loop-h in
    let row : l.h < length (network_on c.args.net.sheet.now).hops = omega arith in
    record {
      there = row;
      is = hop_walked (good_of c.args.net.good) c.hop_row-hop.ensures row;
      known =
          rw c.if-hop-p.true
          record {
            row = c.requires.row;
            waits_are = c.requires.waits_are;
            figures_are = c.requires.figures_are;
            jitters_are = l.invariant.noted_here.lower;
          };
    }

pub push-requires : goal.push-requires
push-requires c =
    let l = c.loop-h in
    let good = good_of c.args.net.good in
    let row : l.h < length (network_on c.args.net.sheet.now).hops = omega arith in
    let hop = ap (λ (x : Hop). x.port) (hop_walked good c.hop_row-hop.ensures row) in
    gathering_room _ _ _ _ _ l.invariant good.ranges.few_hops row good.ranges good.references (sym hop ∙ c.if-hop-p.true)

pub loop-h-preserved : goal.loop-h-preserved
loop-h-preserved c =
    let net = network_on c.args.net.sheet.now in
    let p = c.args.p in
    let good = good_of c.args.net.good in
    let few = good.ranges.few_hops in
    let l = c.loop-h in
    let row : l.h < length net.hops = omega arith in
    let hop = ap (λ (x : Hop). x.port) (hop_walked good c.hop_row-hop.ensures row) in
    elim c.if-hop-p.branch [
      | then-hop-p w ↦
          rw (w.jitters-is, w.flows-is, w.push.ensures)
          (gathering_taken net p l.h l.jitters l.flows l.invariant few row (sym hop ∙ w.if-hop-p.true) _ w.flow-flow.ensures)
      | else-hop-p w ↦
          rw (w.jitters-is, w.flows-is)
          (gathering_passed net p l.h l.jitters l.flows l.invariant few row (λ e. w.if-hop-p.false (hop ∙ e)))
    ]

pub returns-clause-flows : goal.returns-clause-flows
returns-clause-flows c = (gathered_port _ _ c.loop-h.h c.loop-h.jitters c.loop-h.flows (omega arith) c.loop-h.invariant).0

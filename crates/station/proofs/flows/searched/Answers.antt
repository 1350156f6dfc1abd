-- A turn passes over the flows for the search's span and goes on by what the pass finds.
-- Assumes nothing.
use Prim.Native.Nat.{◌≤◌}
use native.Mathlib.Omega.{arith}
use lib.ListN.{length}
use Rattle.station.specs.Offered.{most_flows}
use Rattle.station.proofs.Over.{out_many, over_begun, over_turn}
use Rattle.station.proofs.flows.searched.Goals as goal

pub returns-then-count-gt-MOST_FLOWS : goal.returns-then-count-gt-MOST_FLOWS
unfolding most_flows
returns-then-count-gt-MOST_FLOWS g c = out_many _ (omega (arith, c.count.ensures, c.if-count-gt-MOST_FLOWS.true))

pub loop-d-init : goal.loop-d-init
unfolding most_flows
loop-d-init g c = rw c.begin-search.ensures (over_begun _ (omega (arith, c.count.ensures, c.if-count-gt-MOST_FLOWS.false)))

pub sweep-requires-clause-few : goal.sweep-requires-clause-few
unfolding most_flows
sweep-requires-clause-few g c = omega (arith, c.count.ensures, c.if-count-gt-MOST_FLOWS.false)

pub loop-d-smaller : goal.loop-d-smaller
unfolding most_flows
loop-d-smaller g c =
    let few : length (g.F.Flows.flows c.args.flows.now) ≤ most_flows = omega (arith, c.count.ensures, c.if-count-gt-MOST_FLOWS.false) in
    (over_turn _ few c.loop-d.search c.in-Some.d c.in-Some.ensures c.loop-d.invariant _ c.sweep.ensures _ c.turn-search.ensures).1

pub loop-d-preserved : goal.loop-d-preserved
unfolding most_flows
loop-d-preserved g c =
    let few : length (g.F.Flows.flows c.args.flows.now) ≤ most_flows = omega (arith, c.count.ensures, c.if-count-gt-MOST_FLOWS.false) in
    (over_turn _ few c.loop-d.search c.in-Some.d c.in-Some.ensures c.loop-d.invariant _ c.sweep.ensures _ c.turn-search.ensures).0

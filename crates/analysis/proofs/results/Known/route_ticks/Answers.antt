use Rattle.sheet.specs.Sheet.{network_on}
use Rattle.sheet.proofs.GoodLaws.{good_of}
use native.Mathlib.Omega.{arith}
use Rattle.figures.proofs.RangeLaws.{parent_read}
use Rattle.analysis.proofs.RouteLaws.{walked_none, walked_all, walked_root, walked_child, hop_adds}
use Rattle.analysis.proofs.results.Known.route_ticks.Goals as goal

pub loop-init : goal.loop-init
loop-init c = walked_none (network_on c.args.self.net.sheet.now) c.args.h c.requires

pub offset_bounds-self-g : goal.offset_bounds-self-g
offset_bounds-self-g c = omega (arith, hop_adds c.args.self c.loop.invariant.there c.hop-hop.ensures c.port-port.ensures)

pub bounds-self-g : goal.bounds-self-g
bounds-self-g c = omega (arith, hop_adds c.args.self c.loop.invariant.there c.hop-hop.ensures c.port-port.ensures)

pub overflow_add-ticks : goal.overflow_add-ticks
overflow_add-ticks c = omega (arith, hop_adds c.args.self c.loop.invariant.there c.hop-hop.ensures c.port-port.ensures)

pub overflow_add-ticks-in-loop : goal.overflow_add-ticks-in-loop
overflow_add-ticks-in-loop c = omega (arith, hop_adds c.args.self c.loop.invariant.there c.hop-hop.ensures c.port-port.ensures)

pub overflow_mul-ticks : goal.overflow_mul-ticks
overflow_mul-ticks c = omega (arith, hop_adds c.args.self c.loop.invariant.there c.hop-hop.ensures c.port-port.ensures)

pub overflow_add-ticks-in-loop-2 : goal.overflow_add-ticks-in-loop-2
overflow_add-ticks-in-loop-2 c = omega (arith, hop_adds c.args.self c.loop.invariant.there c.hop-hop.ensures c.port-port.ensures)

pub overflow_add-ticks-in-loop-3 : goal.overflow_add-ticks-in-loop-3
overflow_add-ticks-in-loop-3 c = omega (arith, hop_adds c.args.self c.loop.invariant.there c.hop-hop.ensures c.port-port.ensures)

pub returns-in_default : goal.returns-in_default
returns-in_default c =
    let l = c.loop in
    let hop = c.hop-hop.ensures in
    let net = network_on c.args.self.net.sheet.now in
    walked_root net _ _ _ _ _ l.invariant c.loop-test.true _ _ (hop_adds c.args.self l.invariant.there hop c.port-port.ensures) (parent_read net l.g hop c.in_default.is)

pub loop-preserved : goal.loop-preserved
loop-preserved c =
    let l = c.loop in
    let hop = c.hop-hop.ensures in
    let net = network_on c.args.self.net.sheet.now in
    walked_child net _ _ _ _ _ l.invariant c.loop-test.true _ _ (hop_adds c.args.self l.invariant.there hop c.port-port.ensures)
    (good_of c.args.self.net.good).references _ (parent_read net l.g hop c.in-Some.is)

pub returns : goal.returns
returns c = walked_all _ _ _ _ _ _ c.loop.invariant (omega arith)

use mathlib.Core.Path.{sym}
use native.Mathlib.Omega.{arith}
use borrow.Author.Count.{below_more}
use Rattle.network.proofs.TestsAre.{twin_before, no_twins}
use Rattle.sheet.specs.Sheet.{network_on}
use Rattle.reader.proofs.ReferringLaws.{twin, not_twin}
use Rattle.reader.proofs.references.no_earlier_twin.Goals as goal

pub returns-then-other-hop-2 : goal.returns-then-other-hop-2
returns-then-other-hop-2 c =
    let a = c.args in
    let l = c.loop-g in
    sym
    (twin_before (network_on a.net.now) a.h l.g (omega arith)
    (twin a.net.now a.h l.g c.requires (omega arith) _ _ c.hop_row-hop.ensures c.hop_row-other.ensures c.if-other-hop.true c.if-other-hop-2.true))

pub loop-g-preserved : goal.loop-g-preserved
loop-g-preserved c =
    let a = c.args in
    let l = c.loop-g in
    below_more _ _ l.invariant
    (not_twin a.net.now a.h l.g c.requires (omega arith) _ _ c.hop_row-hop.ensures c.hop_row-other.ensures c.else-other-hop.either)

pub returns : goal.returns
returns c = let a = c.args in sym (no_twins (network_on a.net.now) a.h (λ k l. c.loop-g.invariant k (omega arith)))

use native.Mathlib.Omega.{arith}
use borrow.Author.Count.{below_more}
use Rattle.reader.proofs.ReferringLaws.{hop_of, hop_of_other, no_hop}
use Rattle.reader.proofs.references.has_hop.Goals as goal

pub returns-then-hop_row-v : goal.returns-then-hop_row-v
returns-then-hop_row-v c = let a = c.args in hop_of a.net.now a.v c.loop-h.h (omega arith) _ c.hop_row.ensures c.if-hop_row-v.true

pub loop-h-preserved : goal.loop-h-preserved
loop-h-preserved c =
    let a = c.args in below_more _ _ c.loop-h.invariant (hop_of_other a.net.now a.v c.loop-h.h (omega arith) _ c.hop_row.ensures c.if-hop_row-v.false)

pub returns : goal.returns
returns c = let a = c.args in no_hop a.net.now a.v (λ k l. c.loop-h.invariant k (omega arith))

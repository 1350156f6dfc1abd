use Rattle.std.proofs.Common.{arith, ap, ◌∙◌}
use Prim.Native.Nat.{ℕ}
use lib.ListN.{replicate}
use Rattle.table.proofs.LentLaws.{cleared_more, cleared_all}
use Rattle.writer.proofs.clear.Goals as goal

pub loop-byte-preserved : goal.loop-byte-preserved
loop-byte-preserved c = cleared_more _ c.loop-byte.byte-index (omega arith) c.loop-byte.invariant

pub returns : goal.returns
returns c =
    let l = c.loop-byte in
    cleared_all l.out l.byte-index (omega arith) l.invariant ∙ ap (λ (n : ℕ). replicate n 0) l.auto.out

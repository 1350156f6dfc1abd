use Prim.Native.Nat.{◌<◌}
use native.Mathlib.Omega.{arith}
use lib.ListN.{length}
use Rattle.sheet.specs.Sheet.{network_on}
use Rattle.sheet.proofs.LeafLaws.{parent_walked, leaves_start, leaves_at_root, leaves_at_far, leaves_at_child, leaves_all}
use Rattle.sheet.proofs.Sheet.leaves.Goals as goal
use Rattle.sheet.proofs.Sheet.leaves.Goals.{in-Some+then-g-lt-MOST_HOPS, in-Some+else-g-lt-MOST_HOPS, in_default}

pub loop-h-init : goal.loop-h-init
loop-h-init c = leaves_start _

pub loop-h-preserved : goal.loop-h-preserved
loop-h-preserved c =
    let sheet = c.args.self.now in
    let l = c.loop-h in
    let net = network_on sheet in
    let row : l.h < length net.hops = omega arith in
    let read = c.hop_row.ensures in
    elim c.match-hop_row.branch [
      | in-Some+then-g-lt-MOST_HOPS w ↦ rw w.leaves-is (leaves_at_child net l.h l.leaves l.invariant _ (parent_walked sheet l.h row read w.in-Some.is) w.if-g-lt-MOST_HOPS.true)
      | in-Some+else-g-lt-MOST_HOPS w ↦ rw w.leaves-is (leaves_at_far net l.h l.leaves l.invariant _ (parent_walked sheet l.h row read w.in-Some.is) w.if-g-lt-MOST_HOPS.false)
      | in_default w ↦ rw w.leaves-is (leaves_at_root net l.h l.leaves l.invariant (parent_walked sheet l.h row read w.in_default.is))
    ]

pub returns : goal.returns
returns c = leaves_all c.args.self.now c.loop-h.h c.loop-h.leaves (omega arith) c.loop-h.invariant

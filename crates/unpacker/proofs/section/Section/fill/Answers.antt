use mathlib.Core.Path.{ap}
use Prim.Native.Nat.{ℕ, ◌*◌}
use native.Mathlib.Omega.{arith}
use lib.ListN.{length}
use Rattle.layout.proofs.LayoutLaws.{listed_some}
use Rattle.table.proofs.SectionLaws.{rows_few}
use Rattle.unpacker.proofs.ListLaws.{cleared_length, no_records, record_more, place_fits}
use Rattle.unpacker.proofs.section.Section.fill.Goals as goal

pub nonzero_div-out : goal.nonzero_div-out
nonzero_div-out c = rw c.numbers_in-n.ensures (listed_some _ c.args.self.now.known)

pub loop-i-init : goal.loop-i-init
loop-i-init c =
    let self = c.args.self.now in
    no_records self.table.now self.section (length c.args.out.now) _ _ c.clear.ensures (cleared_length _ _ c.clear.ensures)

pub put-requires-clause-low : goal.put-requires-clause-low
put-requires-clause-low c =
    let self = c.args.self.now in
    omega (arith, self.counted, rows_few self.table.now self.section self.known)

pub loop-i-preserved : goal.loop-i-preserved
loop-i-preserved c =
    let self = c.args.self.now in
    let l = c.loop-i in
    let n = c.numbers_in-n.ensures in
    let all = place_fits l.i self.count (length c.clear.new.out) _ _ (rw n (listed_some self.section self.known)) c.fewer-i-end.ensures c.loop-i-test.true in
    record_more self.table.now self.section l.i (length c.clear.new.out) _ _ l.out _ l.invariant c.put.ensures
    (ap (λ (m : ℕ). l.i * m) n)
    (omega (arith, n))
    (rw n at all)

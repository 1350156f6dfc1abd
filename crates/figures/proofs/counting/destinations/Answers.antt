use mathlib.Core.Path.{◌≡◌, refl, sym, ap, ◌∙◌}
use Prim.Native.Nat.{ℕ, ◌<◌}
use native.Mathlib.Omega.{arith}
use lib.ListN.{length}
use Rattle.layout.specs.Limits.{limits}
use Rattle.network.specs.declared.Hop.{Hop}
use Rattle.sheet.specs.declared.Sheet.{Sheet}
use Rattle.sheet.specs.Sheet.{network_on, Good}
use Rattle.sheet.specs.Walks.{hop_row}
use Rattle.sheet.proofs.GoodLaws.{good_of}
use Rattle.sheet.proofs.LeafLaws.{leaf_read}
use Rattle.figures.proofs.CountLaws.{counts_none, count_bound, counts_inner, counts_more, counts_all}
use Rattle.figures.proofs.FillLaws.{zeros_at}
use Rattle.figures.proofs.RangeLaws.{hop_walked, hop_names}
use Rattle.figures.proofs.counting.destinations.Goals as goal
use Rattle.figures.proofs.counting.destinations.Goals.{then-leaves-h, else-leaves-h}

vl_there : (sheet : Sheet) (h : ℕ) (hop : Hop) → Good sheet → hop ≡ hop_row sheet h → h < length (network_on sheet).hops → hop.vl < limits.vls
vl_there sheet h hop good is row = omega (arith, (hop_names good (hop_walked good is row) row).0, good.ranges.few_vls)

pub loop-h-init : goal.loop-h-init
loop-h-init c = counts_none _ _ refl (zeros_at limits.vls)

pub offset_bounds-counts-hop_row : goal.offset_bounds-counts-hop_row
offset_bounds-counts-hop_row c = omega (arith, vl_there _ _ _ (good_of c.args.net.good) c.hop_row.ensures (omega arith))

pub bounds-counts-hop_row : goal.bounds-counts-hop_row
bounds-counts-hop_row c = vl_there _ _ _ (good_of c.args.net.good) c.hop_row.ensures (omega arith)

pub overflow_add-counts : goal.overflow_add-counts
overflow_add-counts c =
    let l = c.loop-h in
    let there = vl_there _ _ _ (good_of c.args.net.good) c.hop_row.ensures (omega arith) in
    omega (arith, count_bound (network_on c.args.net.sheet.now) l.h l.counts l.invariant c.hop_row.result.vl there)

pub bounds-counts-hop_row-then-leaves-h : goal.bounds-counts-hop_row-then-leaves-h
bounds-counts-hop_row-then-leaves-h c = vl_there _ _ _ (good_of c.args.net.good) c.hop_row.ensures (omega arith)

pub loop-h-preserved : goal.loop-h-preserved
loop-h-preserved c =
    let sheet = c.args.net.sheet.now in
    let net = network_on sheet in
    let l = c.loop-h in
    let good = good_of c.args.net.good in
    let row : l.h < length net.hops = omega arith in
    let known = leaf_read sheet c.leaves-leaves.result l.h c.leaves-leaves.ensures (omega (arith, good.ranges.few_hops)) in
    elim c.if-leaves-h.branch [
      | then-leaves-h w ↦
          let v = ap (λ (x : Hop). x.vl) (hop_walked good w.hop_row.ensures row) in
          let there = vl_there sheet l.h _ good w.hop_row.ensures row in
          rw w.counts-is (counts_more net l.h l.counts l.invariant _ v there (sym known ∙ w.if-leaves-h.true))
      | else-leaves-h w ↦ rw w.counts-is (counts_inner net l.h l.counts l.invariant (sym known ∙ w.if-leaves-h.false))
    ]

pub returns : goal.returns
returns c = counts_all (network_on c.args.net.sheet.now) c.loop-h.h c.loop-h.counts (omega arith) c.loop-h.invariant

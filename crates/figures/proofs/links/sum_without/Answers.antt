use mathlib.Core.Path.{sym, ap, ◌∙◌}
use native.Mathlib.Numerals.{add-one}
use native.Mathlib.Omega.{arith}
use Rattle.network.specs.declared.Vl.{Vl}
use Rattle.sheet.specs.Sheet.{network_on}
use Rattle.sheet.proofs.GoodLaws.{good_of}
use Rattle.figures.proofs.BoundLaws.{sum_without_bound}
use Rattle.figures.proofs.LinkLaws.{sum_without_none, sum_without_more, sum_without_itself, sum_without_stranger, sent_by}
use Rattle.figures.proofs.RangeLaws.{system_range, vl_range}
use Rattle.figures.proofs.links.sum_without.Goals as goal
use Rattle.figures.proofs.links.sum_without.Goals.{then-vl-e+then-not-left_out, else-vl-e, else-vl-e-via-then-vl-e+else-not-left_out, else-vl-e-via-else-vl-e}

pub loop-v-init : goal.loop-v-init
loop-v-init c = sym (sum_without_none _ _ _)

pub frame_most-sum-requires : goal.frame_most-sum-requires
frame_most-sum-requires c =
    let good = good_of c.args.net.good in
    let speed = system_range good c.system-perbyte.ensures c.requires in
    record { vl_range = vl_range good c.vl-vl.ensures (omega arith); per_byte_least = speed.0; per_byte_greatest = speed.1 }

pub overflow_add-sum : goal.overflow_add-sum
overflow_add-sum c =
    let l = c.loop-v in
    let good = good_of c.args.net.good in
    let before = sum_without_bound (network_on c.args.net.sheet.now) good.ranges good.references c.args.e c.args.but l.v (omega arith) in
    omega (arith, l.invariant, c.frame_most-sum.ensures.most, c.vls-v-end.ensures.few)

pub loop-v-preserved : goal.loop-v-preserved
loop-v-preserved c =
    let l = c.loop-v in
    let net = network_on c.args.net.sheet.now in
    let e = c.args.e in
    let but = c.args.but in
    let vl = c.vl-vl.ensures in
    let system = ap (λ (x : Vl). x.system) vl in
    rw add-one
    (elim c.if-vl-e.branch [
      | then-vl-e+then-not-left_out w ↦
          let most = sent_by net l.v e _ _ _ vl w.if-vl-e.true c.system-perbyte.ensures w.frame_most-sum.ensures.is in
          omega (arith, w.sum-is, most, l.invariant, sum_without_more net e but l.v (sym system ∙ w.if-vl-e.true) (sym w.left_out.ensures ∙ w.if-not-left_out.true))
      | else-vl-e w ↦ elim w.else-vl-e.branch [
        | else-vl-e-via-then-vl-e+else-not-left_out x ↦ omega (arith, w.sum-is, l.invariant, sum_without_itself net e but l.v (sym x.left_out.ensures ∙ x.if-not-left_out.false))
        | else-vl-e-via-else-vl-e x ↦ omega (arith, w.sum-is, l.invariant, sum_without_stranger net e but l.v (λ same. x.if-vl-e.false (system ∙ same)))
      ]
    ])

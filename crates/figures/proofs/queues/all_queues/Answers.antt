use Prim.Native.Nat.{ℕ, ◌+◌, ◌*◌, ◌<◌}
use mathlib.Core.Path.{◌≡◌, ap, sym, ◌∙◌}
use native.Mathlib.Omega.{arith}
use lib.ListN.{length}
use Rattle.network.specs.declared.Vl.{Vl}
use Rattle.layout.specs.Limits.{limits}
use Rattle.network.specs.Network.{Network, vl_at}
use Rattle.network.specs.Ranges.{Ranges}
use Rattle.rows.specs.Refusals.{endless_vl}
use Rattle.table.specs.Refusals.{answer_of, given}
use Rattle.sheet.specs.Sheet.{network_on}
use Rattle.sheet.proofs.GoodLaws.{good_of}
use Rattle.answers.specs.Analysis.{answer9}
use Rattle.figures.specs.Figures.{queues_of}
use Rattle.figures.proofs.JudgeLaws.{refused_first, refused_nowhere}
use Rattle.figures.proofs.QueueLaws.{queues_start, queues_more, vl_endless, queues_vl, queues_all}
use Rattle.figures.proofs.queues.all_queues.Goals as goal

-- sub-link k of VL v has its place
place : (net : Network) → Ranges net → (v k : ℕ) (vl : Vl) → vl ≡ vl_at net v → v < length net.vls → k < vl.sublinks → v * 4 + k < limits.vls * 4
place net ranges v k vl is row there = omega (arith, (ranges.vl v row).sub_links_greatest, ap (λ (x : Vl). x.sublinks) is, ranges.few_vls)

pub loop-v-init : goal.loop-v-init
loop-v-init c = queues_start _ _ c.requires

pub returns-in_default-clause-answer : goal.returns-in_default-clause-answer
unfolding given answer_of answer9 endless_vl
returns-in_default-clause-answer c =
    let net = network_on c.args.net.sheet.now in
    let good = good_of c.args.net.good in
    let row : c.loop-v.v < length net.vls = omega arith in
    let links = ap (λ (x : Vl). x.sublinks) c.vl-vl.ensures in
    let endless = vl_endless net good.ranges c.loop-v.v c.loop-k.k c.loop-k.queues c.loop-k.invariant row (omega (arith, links)) (sym c.in_default.is ∙ c.queue.ensures) in
    refused_first 9 2 _ (length net.vls) c.loop-v.v row endless c.loop-k.invariant.served

pub overflow_add-queues : goal.overflow_add-queues
overflow_add-queues c = omega (arith, place _ (good_of c.args.net.good).ranges _ _ _ c.vl-vl.ensures (omega arith) c.loop-k-test.true)

pub offset_bounds-queues-v : goal.offset_bounds-queues-v
offset_bounds-queues-v c = omega (arith, place _ (good_of c.args.net.good).ranges _ _ _ c.vl-vl.ensures (omega arith) c.loop-k-test.true)

pub bounds-queues-v : goal.bounds-queues-v
bounds-queues-v c = place _ (good_of c.args.net.good).ranges _ _ _ c.vl-vl.ensures (omega arith) c.loop-k-test.true

pub loop-k-preserved : goal.loop-k-preserved
loop-k-preserved c =
    let links = ap (λ (x : Vl). x.sublinks) c.vl-vl.ensures in
    queues_more _ (good_of c.args.net.good).ranges c.loop-v.v c.loop-k.k c.loop-k.queues c.loop-k.invariant (omega arith) (omega (arith, links)) c.in-Some.figure
    (sym c.in-Some.is ∙ c.queue.ensures)

pub loop-v-preserved : goal.loop-v-preserved
loop-v-preserved c =
    let links = ap (λ (x : Vl). x.sublinks) c.vl-vl.ensures in
    queues_vl _ (good_of c.args.net.good).ranges c.loop-v.v c.loop-k.k c.loop-k.queues c.loop-k.invariant (omega arith) (omega (arith, links))

pub returns-clause-answer : goal.returns-clause-answer
unfolding given answer9 endless_vl
returns-clause-answer c = refused_nowhere 9 2 _ _ (λ u l. c.loop-v.invariant.served u (omega arith))

pub returns-clause-figures : goal.returns-clause-figures
unfolding queues_of
returns-clause-figures c = queues_all _ c.loop-v.v c.loop-v.queues c.loop-v.invariant (omega arith)

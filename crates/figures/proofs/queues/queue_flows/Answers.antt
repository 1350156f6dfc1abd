use Prim.Native.Nat.{◌<◌}
use mathlib.Core.Path.{◌∙◌}
use native.Mathlib.Omega.{arith}
use lib.ListN.{length}
use Rattle.sheet.specs.Sheet.{network_on}
use Rattle.sheet.proofs.GoodLaws.{good_of}
use Rattle.figures.proofs.GatherLaws.{gather_start, gather_taken, gather_passed}
use Rattle.figures.proofs.QueueLaws.{queue_flow_is, on_sub_link_lem, sub_link_room, on_other_sub_link, on_other_vl, sub_link_gathered}
use Rattle.figures.proofs.RangeLaws.{delays_range, vl_range, stream_range, stream_walked}
use Rattle.figures.proofs.queues.queue_flows.Goals as goal
use Rattle.figures.proofs.queues.queue_flows.Goals.{then-stream-v+then-stream-k, else-stream-v, else-stream-v-via-then-stream-v+else-stream-k, else-stream-v-via-else-stream-v}

pub loop-s-init : goal.loop-s-init
loop-s-init c = c.clear.ensures ∙ gather_start _ _

pub queue_flow-requires : goal.queue_flow-requires
queue_flow-requires c =
    let good = good_of c.args.net.good in
    let row : c.loop-s.s < length (network_on c.args.net.sheet.now).streams = omega arith in
    record {
      delays = delays_range good c.delays-d.ensures;
      stream_range = stream_range good (stream_walked good c.stream_row-stream.ensures row) row;
      vl_range = vl_range good c.requires.is c.requires.row;
    }

pub push-requires : goal.push-requires
push-requires c =
    let good = good_of c.args.net.good in
    let row : c.loop-s.s < length (network_on c.args.net.sheet.now).streams = omega arith in
    sub_link_room _ _ _ _ _ (stream_walked good c.stream_row-stream.ensures row) good.ranges good.references row
    c.if-stream-v.true c.if-stream-k.true _ c.loop-s.invariant

pub loop-s-preserved : goal.loop-s-preserved
loop-s-preserved c =
    let l = c.loop-s in
    let a = c.args in
    let good = good_of a.net.good in
    let net = network_on a.net.sheet.now in
    let row : l.s < length net.streams = omega arith in
    let stream = stream_walked good c.stream_row-stream.ensures row in
    elim c.if-stream-v.branch [
      | then-stream-v+then-stream-k w ↦
          let on = on_sub_link_lem net a.v a.k l.s _ stream w.if-stream-v.true w.if-stream-k.true in
          let flow = w.queue_flow.ensures ∙ queue_flow_is net l.s a.v _ _ _ c.delays-d.ensures stream w.if-stream-v.true c.requires.is in
          rw (w.flows-is, w.push.ensures) (gather_taken _ _ _ _ l.invariant _ on flow)
      | else-stream-v w ↦ elim w.else-stream-v.branch [
        | else-stream-v-via-then-stream-v+else-stream-k x ↦
            rw w.flows-is (gather_passed _ _ _ _ l.invariant (on_other_sub_link net a.v a.k l.s _ stream x.if-stream-k.false))
        | else-stream-v-via-else-stream-v x ↦
            rw w.flows-is (gather_passed _ _ _ _ l.invariant (on_other_vl net a.v a.k l.s _ stream x.if-stream-v.false))
      ]
    ]

pub returns : goal.returns
returns c = sub_link_gathered _ _ _ c.loop-s.s c.loop-s.flows (omega arith) c.loop-s.invariant

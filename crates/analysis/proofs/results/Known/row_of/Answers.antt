-- `analysis::results::Known::row_of` meets its contract: worst and best are made of the parts that the functions gave.
-- Assumes nothing.
use Prim.Native.Nat.{ℕ, ◌*◌, ◌≤◌, ◌<◌}
use mathlib.Core.Path.{◌≡◌, ap, ◌∙◌}
use native.Mathlib.Omega.{arith}
use lib.ListN.{length, get_or}
use Rattle.network.specs.declared.Stream.{Stream}
use Rattle.network.specs.Network.{stream_at}
use Rattle.rows.specs.Links.{mux_wait}
use Rattle.sheet.specs.Sheet.{network_on}
use Rattle.sheet.proofs.GoodLaws.{good_of}
use Rattle.figures.proofs.BoundLaws.{wait_noted}
use Rattle.figures.proofs.RangeLaws.{delays_range, stream_range, stream_vl}
use Rattle.analysis.specs.declared.results.Known.{Known}
use Rattle.analysis.proofs.RowLaws.{worst_read, best_read, row_read}
use Rattle.analysis.proofs.results.Known.row_of.Goals as goal

-- the mux wait of the VL of stream s
waited : (k : Known) → {s : ℕ} {stream : Stream} → stream ≡ stream_at (network_on k.net.sheet.now) s → s < length (network_on k.net.sheet.now).streams
    → (get_or k.found.now.waits stream.vl 0 ≡ mux_wait (network_on k.net.sheet.now) stream.vl) × (get_or k.found.now.waits stream.vl 0 ≤ 4095 * 15380)
waited k is row =
    let good = good_of k.net.good in
    wait_noted (network_on k.net.sheet.now) good.ranges good.references k.found.now.waits k.computed.waits_are _ (stream_vl good is row)

pub worst_of-worst-requires : goal.worst_of-worst-requires
worst_of-worst-requires c =
    omega (
      arith,
      delays_range (good_of c.args.self.net.good) c.delays-d.ensures,
      c.queue_of-queue.ensures.most,
      (waited c.args.self c.stream-stream.ensures c.requires.stream).1,
      c.frame_ticks-frame.ensures.most_bound,
      c.route_ticks-route.ensures.most_bound,
    )

pub best_of-best-requires : goal.best_of-best-requires
best_of-best-requires c =
    omega (
      arith,
      delays_range (good_of c.args.self.net.good) c.delays-d.ensures,
      c.gaps_of.ensures.most,
      c.frame_ticks-frame.ensures.least_bound,
      c.route_ticks-route.ensures.least_bound,
    )

pub overflow_add-jitter : goal.overflow_add-jitter
overflow_add-jitter c =
    omega (
      arith,
      stream_range (good_of c.args.self.net.good) c.stream-stream.ensures c.requires.stream,
      c.less.ensures,
      c.worst_of-worst.ensures.most,
    )

pub returns : goal.returns
returns c =
    let a = c.args in
    let net = network_on a.self.net.sheet.now in
    let stream = c.stream-stream.ensures in
    let delays = c.delays-d.ensures in
    let on = ap (λ (x : Stream). x.vl) stream in
    let frame = c.frame_ticks-frame.ensures in
    let way = c.route_ticks-route.ensures in
    let queue = c.queue_of-queue.ensures.is in
    row_read net a.s a.h _ _ _ _ _ queue
    (c.worst_of-worst.ensures.is ∙ worst_read net a.s a.h _ _ _ _ _ _ delays on queue (waited a.self stream c.requires.stream).0 frame way)
    (c.best_of-best.ensures ∙ best_read net a.s a.h _ _ _ _ _ delays on c.gaps_of.ensures.is frame way)
    (ap (λ (x : Stream). x.jitter) stream)
    c.less.ensures

-- `analysis::results::Known::queue_of` meets its contract: the figure of the stream's sub-link stands at its place.
-- Assumes nothing.
use mathlib.Core.Path.{ap, ap₂, ◌∙◌}
use native.Mathlib.Omega.{arith}
use Rattle.network.specs.declared.Stream.{Stream}
use Rattle.network.specs.Network.{stream_at}
use Rattle.rows.specs.Queues.{queue_figure}
use Rattle.rows.specs.Rows.{queue_of}
use Rattle.sheet.specs.Sheet.{network_on}
use Rattle.sheet.proofs.GoodLaws.{good_of}
use Rattle.figures.proofs.BoundLaws.{queue_figure_bound}
use Rattle.figures.proofs.KnownLaws.{queue_there}
use Rattle.figures.proofs.RangeLaws.{stream_vl, stream_sub_link}
use Rattle.analysis.proofs.results.Known.queue_of.Goals as goal

pub returns : goal.returns
unfolding queue_of
returns c =
    let self = c.args.self in
    let net = network_on self.net.sheet.now in
    let good = good_of self.net.good in
    let stream = c.stream-stream in
    let is =
    queue_there net self.found.now self.computed good.ranges stream.result.vl stream.result.sublink (stream_vl good stream.ensures c.requires) (stream_sub_link good stream.ensures c.requires).0
    ∙ ap₂ (queue_figure net) (ap (λ (x : Stream). x.vl) stream.ensures) (ap (λ (x : Stream). x.sublink) stream.ensures) in
    record {
      is = is;
      most = omega (arith, is, queue_figure_bound net good.ranges good.references (stream_at net c.args.s).vl (stream_at net c.args.s).sublink);
    }

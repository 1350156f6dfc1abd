-- `analysis::results::Known::gaps_of` meets its contract: a message has at least one packet and not many.
-- Assumes nothing.
use Prim.Native.Nat.{ℕ, ◌-◌, ◌*◌, ◌≤◌, ◌<◌}
use mathlib.Core.Path.{◌≡◌, ap}
use native.Mathlib.Nat.{mul-le-mul}
use native.Mathlib.Omega.{arith}
use lib.ListN.{length}
use Rattle.network.specs.declared.Vl.{Vl}
use Rattle.network.specs.declared.Stream.{Stream}
use Rattle.network.specs.Network.{stream_at, vl_at}
use Rattle.base.specs.Tests.{number_or0}
use Rattle.frame.specs.Offered.{packets_of}
use Rattle.frame.specs.Packets.{packets}
use Rattle.frame.proofs.PacketLaws.{most_packets}
use Rattle.sheet.specs.declared.Sheet.{Sheet}
use Rattle.sheet.specs.Sheet.{network_on, Good}
use Rattle.sheet.proofs.GoodLaws.{good_of}
use Rattle.figures.proofs.GivenLaws.{packets_are}
use Rattle.figures.proofs.RangeLaws.{vl_range, stream_range, stream_vl}
use Rattle.analysis.proofs.RowLaws.{gaps_read}
use Rattle.analysis.proofs.results.Known.gaps_of.Goals as goal

-- the packets of stream s's least message, and the gaps between them
few : {sheet : Sheet} → ∥ Good sheet ∥₁ → {s n : ℕ} {stream : Stream} {vl : Vl} → stream ≡ stream_at (network_on sheet) s → s < length (network_on sheet).streams
    → vl ≡ vl_at (network_on sheet) stream.vl → n ≡ number_or0 (packets_of stream.least vl.lmax)
    → (n ≡ packets stream.least vl.lmax) × (1 ≤ n) × ((n - 1) * vl.gap ≤ 545600000)
few held {s} {n} is row on e =
    let good = good_of held in
    let size = stream_range good is row in
    let link = vl_range good on (stream_vl good is row) in
    let are = packets_are _ _ n size.least_size_least (omega (arith, size)) link.lmax_least link.lmax_greatest e in
    (are.0, are.1, mul-le-mul {n₁ = n - 1} {n₂ = most_packets - 1} (omega (arith, are.2)) link.gap_greatest)

pub overflow_sub-result : goal.overflow_sub-result
overflow_sub-result c = (few c.args.self.net.good c.stream-stream.ensures c.requires c.vl-vl.ensures c.packets.ensures).1

pub overflow_mul-result : goal.overflow_mul-result
overflow_mul-result c = omega (arith, few c.args.self.net.good c.stream-stream.ensures c.requires c.vl-vl.ensures c.packets.ensures)

pub returns : goal.returns
returns c =
    let stream = c.stream-stream.ensures in
    let vl = c.vl-vl.ensures in
    let is = few c.args.self.net.good stream c.requires vl c.packets.ensures in
    record {
      is =
          gaps_read _ _ _ _ _ _ _ (ap (λ (x : Stream). x.vl) stream) is.0 (ap (λ (x : Stream). x.least) stream)
          (ap (λ (x : Vl). x.lmax) vl) (ap (λ (x : Vl). x.gap) vl);
      most = is.2;
    }

-- `figures::queues::queue_flow` meets its contract: the flow is made of the stream's, the VL's and the delays' numbers, which are so small that nothing overflows.
-- Assumes nothing.
use Prim.Native.Nat.{ℕ, ◌+◌, ◌-◌, ◌*◌, ◌≤◌}
use mathlib.Core.Path.{◌≡◌, ap}
use native.Mathlib.Nat.{mul-le-mul}
use native.Mathlib.Omega.{arith}
use Rattle.base.specs.Tests.{number_or0}
use Rattle.frame.specs.Offered.{packets_of}
use Rattle.frame.specs.Packets.{packets}
use Rattle.frame.proofs.PacketLaws.{most_packets}
use Rattle.network.specs.declared.Vl.{Vl}
use Rattle.network.specs.declared.Stream.{Stream}
use Rattle.sheet.specs.declared.Delays.{Delays}
use Rattle.figures.specs.Computing.{QueueRange}
use Rattle.figures.proofs.GivenLaws.{packets_are}
use Rattle.figures.proofs.queues.queue_flow.Goals as goal

module _ (d : Delays) (stream : Stream) (vl : Vl) (ranges : QueueRange d stream vl) (count : ℕ) (e : count ≡ number_or0 (packets_of stream.size vl.lmax)) where
  few : (count ≡ packets stream.size vl.lmax) × (1 ≤ count) × (count ≤ most_packets)
  few =
      let size = ranges.stream_range in
      let on = ranges.vl_range in
      packets_are stream.size vl.lmax count (omega (arith, size)) size.size_greatest on.lmax_least on.lmax_greatest e

  links : count * vl.sublinks ≤ most_packets * 4
  links = mul-le-mul few.2 ranges.vl_range.sub_links_greatest

pub overflow_mul-result : goal.overflow_mul-result
overflow_mul-result c = omega (arith, links _ _ _ c.requires _ c.packets.ensures, few _ _ _ c.requires _ c.packets.ensures)

pub overflow_mul-result-2 : goal.overflow_mul-result-2
overflow_mul-result-2 c =
    let gap = c.requires.vl_range.gap_greatest in
    omega (arith, mul-le-mul (links _ _ _ c.requires _ c.packets.ensures) gap, mul-le-mul (few _ _ _ c.requires _ c.packets.ensures).2 gap)

pub returns : goal.returns
returns c =
    ap (λ (p : ℕ). record {
      period = c.args.stream.period;
      jitter = c.args.stream.jitter + (c.args.d.send_greatest - c.args.d.send_least);
      cost = p * c.args.vl.sublinks * c.args.vl.gap;
    }) (few _ _ _ c.requires _ c.packets.ensures).0

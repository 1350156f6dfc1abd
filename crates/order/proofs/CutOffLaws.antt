-- 01's differences are never cut off in a sound network whose busy lengths exist: a station's figure covers the span of 0, in which each flow brings one cost, and a cost is what is taken off or more.
-- Assumes nothing.
use Prim.Native.Nat.{ℕ, ◌+◌, ◌*◌, ◌-◌, ◌≤◌, ◌<◌}
use mathlib.Core.Bool.{◌&&◌}
use mathlib.Core.Path.{◌≡◌, ap}
use native.Mathlib.Nat.{mul-le-mul_left, mul-le-mul_right}
use native.Mathlib.Omega.{arith}
use lib.Dec.{eqb, eqb_refl}
use lib.ListN.{length}
use Rattle.frame.specs.Packets.{packets}
use Rattle.frame.proofs.FrameLaws.{largest_line_bounds}
use Rattle.network.specs.Network.{Network, vl_at, stream_at, hop_at}
use Rattle.network.specs.Views.{streams_on}
use Rattle.rows.specs.Queues.{queue_flow, queue_flows}
use Rattle.rows.specs.Rows.{worst, best}
use Rattle.machine.specs.Sound.{Sound, Busy}
use Rattle.machine.proofs.Lists.Cases.{both}
use Rattle.machine.proofs.Stage.Select.{is_passing}
use Rattle.machine.proofs.Network.Told.{packets_mono, packets_pos}
use Rattle.machine.proofs.Network.Windows.{queue_station}
use Rattle.machine.proofs.Network.Covers.{cost_covered, queue_covers, figure_least}
use Rattle.machine.proofs.Network.Arrivals.{flow_cost}
use Rattle.machine.proofs.OverNetworks.{demand_3_over_networks as machines}
use Rattle.machine.proofs.Network.Routes.{windows, worst_is, best_is}
use Rattle.order.specs.Demand2.{NothingCutOff}

module _ (net : Network) (sound : Sound net) (busy : Busy net) where
  least_packets : (s : ℕ) → s < length net.streams → 1 ≤ packets (stream_at net s).least (vl_at net (stream_at net s).vl).lmax
  least_packets s h =
      packets_pos (vl_at net (stream_at net s).vl).lmax (stream_at net s).least (sound.lmax_least (stream_at net s).vl (sound.references.stream_vl s h)) (sound.least_size s h)

  -- the least message's packets, a gap each, are no more than the cost of the stream's flow
  queue_station_lem : (s : ℕ) → s < length net.streams
      → packets (stream_at net s).least (vl_at net (stream_at net s).vl).lmax * (vl_at net (stream_at net s).vl).gap ≤ queue_station net (stream_at net s).vl (stream_at net s).sublink
  unfolding queue_flows streams_on
  queue_station_lem s h =
      let v = (stream_at net s).vl in
      let k = (stream_at net s).sublink in
      let gap = (vl_at net v).gap in
      let p = packets (stream_at net s).least (vl_at net v).lmax in
      let q = packets (stream_at net s).size (vl_at net v).lmax in
      let listed = is_passing (λ z. eqb (stream_at net z).vl v && eqb (stream_at net z).sublink k) (length net.streams) s h (both (eqb v v) (eqb k k) (eqb_refl v) (eqb_refl k)) in
      let c = cost_covered (queue_flow net) s (queue_station net v k) (streams_on net v k) listed (queue_covers net sound busy v k 0) in
      let more : p ≤ q = packets_mono (vl_at net v).lmax (stream_at net s).least (stream_at net s).size (sound.lmax_least v (sound.references.stream_vl s h)) (sound.size s h) in
      let a : 1 * gap ≤ (vl_at net v).sublinks * gap = mul-le-mul_right gap (omega (arith, sound.references.stream_sub_link s h)) in
      let b : p * gap ≤ q * gap = mul-le-mul_right gap more in
      let d : q * gap ≤ q * ((vl_at net v).sublinks * gap) = mul-le-mul_left q (omega (arith, a)) in
      omega (arith, c, b, d, flow_cost net s)

  row_jitter_says : (s h : ℕ) → s < length net.streams → h < length net.hops → (hop_at net h).vl ≡ (stream_at net s).vl → best net s h ≤ worst net s h
  row_jitter_says s h hs hh of =
      let gap = (vl_at net (stream_at net s).vl).gap in
      let p = packets (stream_at net s).least (vl_at net (stream_at net s).vl).lmax in
      let one : p ≡ 1 + (p - 1) = omega (arith, least_packets s hs) in
      let g : p * gap ≡ (1 + (p - 1)) * gap = ap (λ (n : ℕ). n * gap) one in
      omega (
        arith,
        g,
        worst_is net sound busy s h hs hh of,
        best_is net sound busy s h hs hh of,
        (windows net sound busy).spread h hh,
        figure_least net sound busy h hh,
        queue_station_lem s hs,
        sound.send,
        sound.receive,
      )

  pub nothing_cut_off : NothingCutOff net
  nothing_cut_off = record {
    fragment = λ v h. omega (arith, sound.lmax_least v h);
    send_delay = sound.send;
    queue = (machines net sound busy).nothing_cut_off;
    line = λ v h. (largest_line_bounds (vl_at net v).lmax (sound.lmax_least v h) (sound.lmax_greatest v h)).0;
    switch_delay = sound.port_delay;
    child_jitter_says = λ g h. omega (arith, figure_least net sound busy g h);
    least_packets = least_packets;
    row_jitter_says = row_jitter_says;
  }

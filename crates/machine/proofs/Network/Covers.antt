-- The stations' figures cover what any span brings, at every sub-link and every port: where there is no flow nothing comes, and where there is one the busy length exists.
-- Assumes nothing.
use Prim.Native.Nat.{ℕ, ◌+◌, ◌*◌, ◌≤◌, ◌<◌}
use mathlib.Core.Bool.{◌&&◌}
use mathlib.Core.List.{List, [], ◌∷◌, map, Memᴰ}
use mathlib.Core.Path.{◌≡◌, refl}
use native.Mathlib.Nat.{mul-le-mul_right}
use native.Mathlib.Omega.{arith}
use lib.Dec.{eqb}
use lib.ListN.{length}
use Rattle.base.specs.Tests.{number_or0}
use Rattle.base.proofs.TestLaws.{number_is}
use Rattle.frame.proofs.FrameLaws.{largest_line_bounds}
use Rattle.network.specs.Network.{Network, vl_at, stream_at, hop_at}
use Rattle.network.specs.Views.{hops_on, streams_on}
use Rattle.network.specs.Link.{port_link}
use Rattle.network.proofs.LinkLaws.{most_is}
use Rattle.network.proofs.PortLaws.{on_port_lem, member_on_port}
use Rattle.rows.specs.Links.{hop_most, hop_line}
use Rattle.rows.specs.Ports.{hop_flow, port_flows, port_length, port_figure, jitter_of, figure_of}
use Rattle.rows.specs.Queues.{queue_flow, queue_flows, queue_length}
use Rattle.rows.proofs.PortLaws.{figure_of_port}
use Rattle.station.specs.Facts.{Periodic}
use Rattle.station.specs.Station.{Flow, most, brought, busy_length_to, figure}
use Rattle.station.proofs.Facts.{covers_every_span_to}
use Rattle.machine.specs.Sound.{Sound, Has, Busy}
use Rattle.machine.proofs.Lists.Cases.{both_eq}
use Rattle.machine.proofs.Lists.Sums.{weigh_part}
use Rattle.machine.proofs.Stage.Flows.{brought_is}
use Rattle.machine.proofs.Stage.Select.{was_passing}
use Rattle.machine.proofs.Network.Windows.{queue_station}

-- one arrival of a flow comes in any span, so a figure that covers is no less than its cost
pub cost_covered : (f : ℕ → Flow) (s q : ℕ) (ns : List ℕ) → Memᴰ s ns → brought (map f ns) 0 ≤ q + 0 → (f s).cost ≤ q
unfolding most
cost_covered f s q ns m h =
    let one : 1 * (f s).cost ≤ most (f s) 0 * (f s).cost = mul-le-mul_right (f s).cost (omega arith) in
    omega (arith, brought_is f 0 ns, weigh_part (λ z. most (f z) 0 * (f z).cost) s ns m)

periodic_map : (f : ℕ → Flow) (l : List ℕ) → ((s : ℕ) → Memᴰ s l → 0 < (f s).period) → Periodic (map f l)
unfolding Periodic
periodic_map f [] h = tt
periodic_map f (s ∷ l) h = (h s (Memᴰ.head refl), periodic_map f l (λ n k. h n (Memᴰ.tail k)))

-- where there is no flow nothing comes; where there is one the busy length exists, and the figure of that length covers every span
station_covers : (lim : ℕ) (f : ℕ → Flow) (ns : List ℕ)
    → ((s : ℕ) → Memᴰ s ns → (0 < (f s).period) × Has (busy_length_to lim (map f ns))) → (d : ℕ)
    → brought (map f ns) d ≤ figure (map f ns) (number_or0 (busy_length_to lim (map f ns))) + d
unfolding brought
station_covers lim f [] h d = omega arith
station_covers lim f (s ∷ ns) h d =
    let all = map f (s ∷ ns) in
    let has = (h s (Memᴰ.head refl)).1 in
    rw (number_is (busy_length_to lim all) has.length has.is)
    (covers_every_span_to lim all has.length (periodic_map f (s ∷ ns) (λ i m. (h i m).0)) has.is d)

module _ (net : Network) (sound : Sound net) (busy : Busy net) where
  -- ---- queues
  pub on_sub_link_lem : (v k s : ℕ) → Memᴰ s (streams_on net v k) → (s < length net.streams) × ((stream_at net s).vl ≡ v) × ((stream_at net s).sublink ≡ k)
  unfolding streams_on
  on_sub_link_lem v k s m =
      let w = was_passing (λ s. eqb (stream_at net s).vl v && eqb (stream_at net s).sublink k) (length net.streams) s m in
      let e = both_eq (stream_at net s).vl v (stream_at net s).sublink k w.1 in
      (w.0, e.0, e.1)

  pub queue_covers : (v k d : ℕ) → brought (queue_flows net v k) d ≤ queue_station net v k + d
  unfolding queue_flows queue_flow queue_station queue_length
  queue_covers v k = station_covers net.tick.longest (queue_flow net) (streams_on net v k)
      (λ s m. let on = on_sub_link_lem v k s m in (sound.period s on.0, rw (on.1, on.2) at (busy.queue s on.0)))

  -- ---- ports
  pub port_covers : (p d : ℕ) → brought (port_flows net (jitter_of net) p) d ≤ port_figure net (jitter_of net) p + d
  unfolding port_flows hop_flow port_figure port_length
  port_covers p = station_covers net.tick.longest (hop_flow net (jitter_of net)) (hops_on net p)
      (λ h m. let on = on_port_lem net p h m in
      (sound.gap (hop_at net h).vl (sound.references.hop_vl h on.0), rw on.1 at (busy.port h on.0)))

  -- a hop's figure is at least a least frame of it
  pub figure_least : (h : ℕ) → h < length net.hops → hop_line net h ≤ figure_of net h
  unfolding port_flows hop_flow hop_most hop_line
  figure_least h l =
      let p = (hop_at net h).port in
      let v = (hop_at net h).vl in
      let hv = sound.references.hop_vl h l in
      let a = cost_covered (hop_flow net (jitter_of net)) h (port_figure net (jitter_of net) p) (hops_on net p) (member_on_port net p h l refl) (port_covers p 0) in
      let c = most_is (port_link net p) (vl_at net v).lmax (largest_line_bounds (vl_at net v).lmax (sound.lmax_least v hv) (sound.lmax_greatest v hv)).0 in
      omega (arith, a, c, figure_of_port net h)

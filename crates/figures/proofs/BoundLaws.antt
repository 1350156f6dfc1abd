-- What the ranges and references of a table bound: queue and port figures, jitters of hops, and so that the station takes the flows of every queue and port.
-- Assumes nothing.
use Prim.Native.Nat.{ℕ, zero, suc, ◌+◌, ◌*◌, ◌≤◌, ◌<◌}
use mathlib.Core.Bool.{true, false, true≢false, ◌&&◌}
use mathlib.Core.List.{List, map, Memᴰ}
use mathlib.Core.Logic.{⊎_elim}
use Rattle.std.specs.Prelude.{Option, None, Some}
use mathlib.Core.Path.{◌≡◌, refl, sym, ap, ◌∙◌}
use native.Mathlib.Nat.{le_trans, mul-le-mul}
use native.Mathlib.Omega.{arith}
use borrow.Author.Tests.{le-leb}
use lib.Dec.{leb, eqb}
use lib.ListN.{length, get_or, length-map}
use Rattle.base.specs.Tests.{number_or0}
use Rattle.base.proofs.LeastLaws.{greatest_le}
use Rattle.base.proofs.TabulateLaws.{passing_member, length_passing}
use Rattle.base.proofs.TestLaws.{number_is, number_of_none}
use Rattle.frame.specs.Frame.{least_line, largest_line}
use Rattle.frame.specs.Tick.{TickRules}
use Rattle.frame.proofs.TickLaws.{longest_is}
use Rattle.frame.proofs.FrameLaws.{largest_line_bounds}
use Rattle.frame.proofs.PacketLaws.{most_packets}
use Rattle.layout.specs.Limits.{limits}
use Rattle.network.specs.Link.{system_link, port_link}
use Rattle.network.proofs.LinkLaws.{most_some, most_bound}
use Rattle.network.specs.Network.{Network, vl_at, system_at, stream_at, port_at, hop_at, parent_at}
use Rattle.network.specs.ReferenceFacts.{References}
use Rattle.network.specs.Views.{hops_on, streams_on}
use Rattle.network.specs.References.{route_longer}
use Rattle.network.specs.Ranges.{Ranges, VlRange, SpeedRange}
use Rattle.network.proofs.PortLaws.{on_port_lem, few_hops_on_a_port}
use Rattle.network.proofs.RouteLaws.{child_longer}
use Rattle.station.specs.Station.{Flow, busy_length_to, figure}
use Rattle.station.specs.Offered.{most_flows, all_in_range, offered}
use Rattle.station.specs.Facts.{Periodic}
use Rattle.station.proofs.FlowLaws.{InRange, and_true, periodic}
use Rattle.station.proofs.Facts.{figure_within_length_to, busy_length_to_lem}
use Rattle.rows.specs.Links.{send_most, send_line, send_spread, mux_wait, hop_most, hop_spread}
use Rattle.rows.specs.Queues.{queue_flow, queue_flows, queue_length, queue_figure}
use Rattle.rows.specs.Ports.{hop_flow, port_flows, port_length, port_figure, jitter_of, figure_of}
use Rattle.rows.proofs.PortLaws.{figure_of_port, figures_of}
use Rattle.table.specs.Sections.{lent}
use Rattle.figures.specs.Figures.{waits_of}
use Rattle.figures.specs.Computing.{sum_without}
use Rattle.figures.proofs.FillLaws.{noted_at}
use Rattle.figures.proofs.SumLaws.{passing_most, map_in_range, map_periodic}
use Rattle.figures.proofs.LinkLaws.{counts, send_parts, hop_spread_is, root_jitter_is, child_jitter_is, mux_wait_is}
use Rattle.figures.proofs.GivenLaws.{packets_bounds}

-- ---- any flows
-- the station takes a list that is short enough, of flows in range
taken : (f : ℕ → Flow) (l : List ℕ) → length l ≤ most_flows → ((i : ℕ) → Memᴰ i l → InRange (f i)) → offered (map f l) ≡ true
unfolding offered
taken f l few all = rw (le-leb (length (map f l)) most_flows (omega (arith, length-map l f)), map_in_range f l all)

-- a figure is at most the busy length, and 0 where there is none
figure_limit : (lim : ℕ) (fs : List Flow) → Periodic fs → figure fs (number_or0 (busy_length_to lim fs)) ≤ lim
unfolding figure
figure_limit lim fs p = go (busy_length_to lim fs) refl
  where
    go : (o : Option ℕ) → busy_length_to lim fs ≡ o → figure fs (number_or0 (busy_length_to lim fs)) ≤ lim
    go None e = rw (number_of_none (busy_length_to lim fs) e) (greatest_le _ 0 lim (λ d l. absurd (omega arith)))
    go (Some l) e =
        rw (number_is (busy_length_to lim fs) l e) (omega (arith, figure_within_length_to lim fs l p e, ((busy_length_to_lem lim fs l).0 e).in_limit))

pub offered_periodic : (fs : List Flow) → offered fs ≡ true → Periodic fs
unfolding offered
offered_periodic fs ok = periodic fs (and_true (leb (length fs) most_flows) (all_in_range fs) ok).1

-- ---- frames on links
pub per_byte_bounds : (n : ℕ) → SpeedRange n → (1 ≤ n) × (n ≤ 10)
per_byte_bounds n = ⊎_elim (λ (e : n ≡ 1). (omega arith, omega arith)) (λ (e : n ≡ 10). (omega arith, omega arith))

module _ (net : Network) (ranges : Ranges net) (refs : References net) where
  line_least : (v : ℕ) → v < length net.vls → least_line ≤ largest_line (vl_at net v).lmax
  line_least v l = let vl = ranges.vl v l in (largest_line_bounds (vl_at net v).lmax vl.lmax_least vl.lmax_greatest).0

  pub send_most_bound : (v : ℕ) → v < length net.vls → send_most net v ≤ 15380
  unfolding send_most
  send_most_bound v l =
      let e = (vl_at net v).system in
      let per = per_byte_bounds (system_at net e).perbyte (ranges.system e (refs.vl_system v l)) in
      most_bound (system_link net e) per.1 (vl_at net v).lmax (ranges.vl v l).lmax_greatest

  pub spread_of_vl : (v : ℕ) → v < length net.vls → (send_most net v ≡ send_line net v + send_spread net v) × (send_spread net v ≤ 15380)
  spread_of_vl v l = let parts = send_parts net v (line_least v l) in (parts, omega (arith, parts, send_most_bound v l))

  hop_most_bounds : (h : ℕ) → h < length net.hops → (1 ≤ hop_most net h) × (hop_most net h ≤ 15380)
  unfolding hop_most
  hop_most_bounds h l =
      let v = (hop_at net h).vl in
      let p = (hop_at net h).port in
      let there = refs.hop_vl h l in
      let per = per_byte_bounds (port_at net p).perbyte (ranges.port p (refs.hop_port h l)).per_byte_says in (
        most_some (port_link net p) per.0 (vl_at net v).lmax (line_least v there),
        most_bound (port_link net p) per.1 (vl_at net v).lmax
            (ranges.vl v there).lmax_greatest,
      )

  hop_spread_bound : (h : ℕ) → h < length net.hops → hop_spread net h ≤ 1250
  hop_spread_bound h l = omega (arith, hop_spread_is net h, (ranges.port (hop_at net h).port (refs.hop_port h l)).delay_greatest)

  pub sum_without_bound : (e : ℕ) (but : Option ℕ) (n : ℕ) → n ≤ length net.vls → sum_without net e but n ≤ n * 15380
  unfolding sum_without
  sum_without_bound e but n l =
      passing_most (send_most net) (counts net e but) n 15380 (λ v h. send_most_bound v (omega arith))

  pub mux_wait_bound : (v : ℕ) → mux_wait net v ≤ 4095 * 15380
  mux_wait_bound v =
      omega (arith, mux_wait_is net v, sum_without_bound (vl_at net v).system (Some v) (length net.vls) (omega arith), ranges.few_vls)

  -- a mux wait that is noted
  pub wait_noted : (waits : List ℕ) → waits ≡ lent limits.vls (waits_of net) → (v : ℕ) → v < length net.vls
      → (get_or waits v 0 ≡ mux_wait net v) × (get_or waits v 0 ≤ 4095 * 15380)
  unfolding waits_of
  wait_noted waits e v l =
      let is = ap (λ (ws : List ℕ). get_or ws v 0) e ∙ noted_at (mux_wait net) limits.vls (length net.vls) v l in
      (is, omega (arith, is, mux_wait_bound v))

  -- no busy length is longer
  longest_bound : net.tick.longest ≡ 125000000
  longest_bound = ap (λ (t : TickRules). t.longest) ranges.in_force_says ∙ longest_is

  -- ---- queues
  stream_on : (v k s : ℕ) → Memᴰ s (streams_on net v k) → s < length net.streams
  unfolding streams_on
  stream_on v k s m =
      (passing_member (λ s. eqb (stream_at net s).vl v && eqb (stream_at net s).sublink k) (length net.streams) s m).0

  queue_flow_in_range : (s : ℕ) → s < length net.streams → InRange (queue_flow net s)
  unfolding queue_flow
  queue_flow_in_range s l =
      let v = (stream_at net s).vl in
      let stream = ranges.stream s l in
      let vl = ranges.vl v (refs.stream_vl s l) in
      let p = packets_bounds (stream_at net s).size (vl_at net v).lmax (omega arith) stream.size_greatest vl.lmax_least in
      record {
        period_low = stream.period_least;
        period_high = stream.period_greatest;
        jitter_high = omega (arith, stream.jitter_greatest, ranges.send_greatest_lem);
        cost_low = mul-le-mul {n₁ = 1} {m₁ = 1} (mul-le-mul {n₁ = 1} {m₁ = 1} p.0 vl.sub_links_least) (omega (arith, vl.gap_least));
        cost_high = le_trans (mul-le-mul {n₂ = most_packets * 4} {m₂ = 1600000} (mul-le-mul {n₂ = most_packets} {m₂ = 4} p.1 vl.sub_links_greatest) vl.gap_greatest) (omega arith);
      }

  pub queue_offered : (v k : ℕ) → offered (queue_flows net v k) ≡ true
  unfolding queue_flows streams_on most_flows
  queue_offered v k =
      taken (queue_flow net) (streams_on net v k)
      (omega (arith, length_passing (λ s. eqb (stream_at net s).vl v && eqb (stream_at net s).sublink k) (length net.streams), ranges.few_streams))
      (λ s m. queue_flow_in_range s (stream_on v k s m))

  pub queue_figure_bound : (v k : ℕ) → queue_figure net v k ≤ 125000000
  unfolding queue_figure queue_length
  queue_figure_bound v k = omega (arith, figure_limit net.tick.longest (queue_flows net v k) (offered_periodic (queue_flows net v k) (queue_offered v k)), longest_bound)

  -- ---- ports
  gap_of_hop : (h : ℕ) → h < length net.hops → VlRange (vl_at net (hop_at net h).vl)
  gap_of_hop h l = ranges.vl (hop_at net h).vl (refs.hop_vl h l)

  pub port_figure_bound : (jitter : ℕ → ℕ) (p : ℕ) → port_figure net jitter p ≤ 125000000
  unfolding port_figure port_length port_flows hop_flow
  port_figure_bound jitter p =
      let some-gap = map_periodic (hop_flow net jitter) (hops_on net p) (λ h m. omega (arith, (gap_of_hop h (on_port_lem net p h m).0).gap_least)) in
      omega (arith, figure_limit net.tick.longest (port_flows net jitter p) some-gap, longest_bound)

  pub hop_figure_bound : (h : ℕ) → h < length net.hops → figure_of net h ≤ 125000000
  hop_figure_bound h l = rw (figure_of_port net h) (port_figure_bound (jitter_of net) (hop_at net h).port)

  -- a root's jitter, and what each hop behind it adds at most
  jitter_by_route : (n h : ℕ) → h < length net.hops → route_longer net n h ≡ false → jitter_of net h ≤ 63000000 + n * 125001250
  unfolding route_longer
  jitter_by_route zero h l e = absurd (true≢false e)
  jitter_by_route (suc n) h l e = go (λ g. jitter_by_route n g) (parent_at net h) refl
    where
      go : ((g : ℕ) → g < length net.hops → route_longer net n g ≡ false → jitter_of net g ≤ 63000000 + n * 125001250)
          → (o : Option ℕ) → parent_at net h ≡ o → jitter_of net h ≤ 63000000 + suc n * 125001250
      go ih None k =
          omega (arith, (figures_of net refs).root_is h l k, root_jitter_is net h, mux_wait_bound (hop_at net h).vl, (spread_of_vl (hop_at net h).vl (refs.hop_vl h l)).1, hop_spread_bound h l)
      go ih (Some g) k =
          let row : g < length net.hops = omega (arith, refs.parent_earlier_says h g l k) in
          omega (
            arith,
            (figures_of net refs).child_is h g l k,
            child_jitter_is net h g (jitter_of net g) (figure_of net g),
            ih g row (sym (child_longer net n h g k) ∙ e),
            hop_figure_bound g row,
            hop_spread_bound h l,
          )

  pub jitter_bound : (h : ℕ) → h < length net.hops → jitter_of net h ≤ 1100000000
  jitter_bound h l = omega (arith, jitter_by_route 8 h l (refs.not_deep h l))

  pub port_offered : (p : ℕ) → offered (port_flows net (jitter_of net) p) ≡ true
  unfolding port_flows hop_flow most_flows
  port_offered p =
      taken (hop_flow net (jitter_of net)) (hops_on net p) (omega (arith, few_hops_on_a_port net refs p, ranges.few_vls))
      (λ h m.
      let row = (on_port_lem net p h m).0 in
      let gap = gap_of_hop h row in
      let cost = hop_most_bounds h row in
      record {
        period_low = gap.gap_least;
        period_high = omega (arith, gap.gap_greatest);
        jitter_high = omega (arith, jitter_bound h row);
        cost_low = cost.0;
        cost_high = omega (arith, cost.1);
      })

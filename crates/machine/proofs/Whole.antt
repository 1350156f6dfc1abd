-- 01's whole case: it is a sound network whose busy lengths exist, and queue, worst, best and jitter of its rows are 01's numbers, by computation; so demand 3 says something of it.
-- Assumes nothing.
use Prim.Native.Nat.{ℕ, zero, suc, ◌-◌, ◌<◌}
use mathlib.Core.Bool.{true, false}
use mathlib.Core.List.{List, [], ◌∷◌}
use Rattle.std.specs.Prelude.{Option, Some, None}
use mathlib.Core.Path.{◌≡◌, refl, ap, ◌∙◌}
use native.Mathlib.Omega.{arith}
use lib.Dec.{leb, leb→le}
use Rattle.base.specs.Least.{least_from}
use Rattle.base.specs.Tabulate.{passing, total}
use Rattle.base.specs.Tests.{is_some, number_or0, first_failing}
use Rattle.base.proofs.Every.{at}
use Rattle.frame.specs.Frame.{line_overhead, least_frame, least_line, largest_line}
use Rattle.frame.specs.Packets.{udp_header, most_fragment, full_fragment, carried, packets}
use Rattle.frame.specs.Tick.{in_force}
use Rattle.network.specs.Network.{Network, system_at, vl_at, stream_at, port_at, hop_at}
use Rattle.network.specs.References.{names_system, has_hop, stream_names_vl, names_sub_link, hop_names_vl, names_port, of_parent, parent_earlier, parent_same_vl, parent_lower_port, twin_of, no_earlier_twin, route_longer, not_too_deep, vl_tests, stream_tests, hop_tests, ref_fault, bad_reference}
use Rattle.network.specs.Link.{on_line, line_ticks, least_ticks, most_ticks, spread_ticks}
use Rattle.network.specs.Views.{hops_on, route_of, vls_of, streams_on, is_parent, leaf, leaves_of, route}
use Rattle.network.specs.ReferenceFacts.{References}
use Rattle.network.specs.References as References
use Rattle.network.proofs.ReferenceLaws.{references_exactly}
use Rattle.rows.specs.Links.{send_most, send_line, send_spread, send_sum, mux_wait, hop_most, hop_line, hop_spread}
use Rattle.rows.specs.Ports.{hop_flow, port_flows, port_length, root_jitter, jitter_below, jitter_of, figure_of}
use Rattle.rows.specs.Queues.{queue_flow, queue_flows, queue_length}
use Rattle.rows.specs.Rows.{two_each, queue_of, worst_parts, worst, best_parts, best, row_jitter, row_of, rows_to, rows_of}
use Rattle.station.specs.Searching.{last_in}
use Rattle.rows.proofs.PortLaws.{figure_of_port}
use Rattle.rows.proofs.TickLaws.{queue_length_is, queue_figure_is, port_length_is, port_figure_is}
use Rattle.station.specs.Station.{Flow, most, brought, limit, busy_length, figure}
use Rattle.station.specs.Offered.{in_range, all_in_range}
use Rattle.station.proofs.Computed.{last_of, improved, climb, descend, computed_length, computed_figure}
use Rattle.machine.specs.Sound.{Sound, Has, Busy}
use Rattle.machine.specs.OverNetworks.{Holds}
use Rattle.machine.proofs.OverNetworks.{demand_3_over_networks}

-- "Send delay 500 to 1,000, receive 500 to 500; one 100 Mbit/s end system; VL 0: 1 ms, Lmax 1,518; VL 1: 2 ms, Lmax 516; one sub-link each. Stream 0: VL 0, queuing, M 2,000, least 1,000, T 250,000, J 0. Stream 1: VL 1, sampling, M 469, least 10, T 500,000, J 1,000. One port, 100 Mbit/s, 875 to 1,250; hop 0 VL 0, hop 1 VL 1, no parents."
abbrev pub whole : Network
whole = record {
  tick = in_force;
  send_least = 500;
  send_greatest = 1000;
  receive_least = 500;
  receive_greatest = 500;
  systems = record { perbyte = 1 } ∷ [];
  vls = record { system = 0; gap = 12500; sublinks = 1; lmax = 1518 } ∷ record { system = 0; gap = 25000; sublinks = 1; lmax = 516 } ∷ [];
  streams =
      record { vl = 0; sublink = 0; sampling = false; size = 2000; least = 1000; period = 250000; jitter = 0 }
      ∷ record { vl = 1; sublink = 0; sampling = true; size = 469; least = 10; period = 500000; jitter = 1000 } ∷ [];
  ports = record { perbyte = 1; least = 875; greatest = 1250 } ∷ [];
  hops = record { vl = 0; port = 0; parent = None } ∷ record { vl = 1; port = 0; parent = None } ∷ [];
}

references : References whole
unfolding bad_reference References.naming_rows ref_fault vl_tests stream_tests hop_tests names_system has_hop stream_names_vl names_sub_link hop_names_vl names_port parent_earlier parent_same_vl parent_lower_port of_parent no_earlier_twin twin_of not_too_deep route_longer least_from is_some first_failing
references = (references_exactly whole).1 (refl, refl, refl)

sound : Sound whole
unfolding send_sum vls_of send_most most_ticks line_ticks on_line largest_line line_overhead total passing
sound = record {
  references = references;
  send = leb→le 500 1000 tt;
  receive = leb→le 500 500 tt;
  system_speed = λ e h. leb→le 1 (system_at whole e).perbyte (at (λ e. leb 1 (system_at whole e).perbyte) 1 tt e h);
  gap = λ v h. leb→le 1 (vl_at whole v).gap (at (λ v. leb 1 (vl_at whole v).gap) 2 tt v h);
  lmax_least = λ v h. leb→le 64 (vl_at whole v).lmax (at (λ v. leb 64 (vl_at whole v).lmax) 2 tt v h);
  lmax_greatest = λ v h. leb→le (vl_at whole v).lmax 1518 (at (λ v. leb (vl_at whole v).lmax 1518) 2 tt v h);
  least_size = λ s h. leb→le 1 (stream_at whole s).least (at (λ s. leb 1 (stream_at whole s).least) 2 tt s h);
  size = λ s h. leb→le (stream_at whole s).least (stream_at whole s).size (at (λ s. leb (stream_at whole s).least (stream_at whole s).size) 2 tt s h);
  period = λ s h. leb→le 1 (stream_at whole s).period (at (λ s. leb 1 (stream_at whole s).period) 2 tt s h);
  port_speed = λ p h. leb→le 1 (port_at whole p).perbyte (at (λ p. leb 1 (port_at whole p).perbyte) 1 tt p h);
  port_delay = λ p h. leb→le (port_at whole p).least (port_at whole p).greatest (at (λ p. leb (port_at whole p).least (port_at whole p).greatest) 1 tt p h);
  sends_in_a_gap = λ v h. leb→le (send_sum whole (vl_at whole v).system) (vl_at whole v).gap (at (λ v. leb (send_sum whole (vl_at whole v).system) (vl_at whole v).gap) 2 tt v h);
}

-- ---- the stations: flows, length and figure of the two queues and of the port
abbrev flow_0 : List Flow
flow_0 = record { period = 250000; jitter = 500; cost = 25000 } ∷ []

abbrev flow_1 : List Flow
flow_1 = record { period = 500000; jitter = 1500; cost = 25000 } ∷ []

abbrev flows : List Flow
flows = record { period = 12500; jitter = 2365; cost = 1538 } ∷ record { period = 25000; jitter = 2365; cost = 536 } ∷ []

queue_flows_lem : (queue_flows whole 0 0 ≡ flow_0) × (queue_flows whole 1 0 ≡ flow_1)
unfolding queue_flows queue_flow streams_on passing packets number_or0 least_from carried most_fragment full_fragment udp_header
queue_flows_lem = (refl, refl)

port_flows_lem : port_flows whole (jitter_of whole) 0 ≡ flows
unfolding port_flows hop_flow hops_on hop_most jitter_of jitter_below root_jitter mux_wait send_most send_spread hop_spread most_ticks spread_ticks line_ticks on_line largest_line least_line least_frame line_overhead total passing
port_flows_lem = refl

lengths : (busy_length flow_0 ≡ Some 25000) × (busy_length flow_1 ≡ Some 25000) × (busy_length flows ≡ Some 2074)
unfolding climb all_in_range in_range brought most limit
lengths = (computed_length flow_0 refl 9 25000 refl, computed_length flow_1 refl 9 25000 refl, computed_length flows refl 9 2074 refl)

figures : (figure flow_0 25000 ≡ 25000) × (figure flow_1 25000 ≡ 25000) × (figure flows 2074 ≡ 2074)
unfolding descend all_in_range in_range brought most last_in improved last_of
figures = (
  computed_figure flow_0 refl 9 24999 (record { figure = 25000; span = 0 }) refl,
  computed_figure flow_1 refl 9 24999 (record { figure = 25000; span = 0 }) refl,
  computed_figure flows refl 9 2073 (record { figure = 2074; span = 0 }) refl,
)

queue_lengths : (queue_length whole 0 0 ≡ Some 25000) × (queue_length whole 1 0 ≡ Some 25000)
queue_lengths = (queue_length_is whole refl 0 0 ∙ ap busy_length queue_flows_lem.0 ∙ lengths.0, queue_length_is whole refl 1 0 ∙ ap busy_length queue_flows_lem.1 ∙ lengths.1)

port_length_lem : port_length whole (jitter_of whole) 0 ≡ Some 2074
port_length_lem = port_length_is whole refl (jitter_of whole) 0 ∙ ap busy_length port_flows_lem ∙ lengths.2

pub busy : Busy whole
busy = record { queue = queue; port = port }
  where
    queue : (s : ℕ) → s < 2 → Has (queue_length whole (stream_at whole s).vl (stream_at whole s).sublink)
    queue zero h = record { length = 25000; is = queue_lengths.0 }
    queue (suc zero) h = record { length = 25000; is = queue_lengths.1 }
    queue (suc (suc s)) h = absurd (omega arith)

    port : (h : ℕ) → h < 2 → Has (port_length whole (jitter_of whole) (hop_at whole h).port)
    port zero h = record { length = 2074; is = port_length_lem }
    port (suc zero) h = record { length = 2074; is = port_length_lem }
    port (suc (suc g)) h = absurd (omega arith)

-- ---- the rows
queue_figure_lem : (fs gs : List Flow) (l f : ℕ) → fs ≡ gs → busy_length gs ≡ Some l → figure gs l ≡ f → figure fs (number_or0 (busy_length fs)) ≡ f
unfolding number_or0
queue_figure_lem fs gs l f e b g =
    ap (λ (z : List Flow). figure z (number_or0 (busy_length z))) e ∙ ap (λ (o : Option ℕ). figure gs (number_or0 o)) b ∙ g

queues : (queue_of whole 0 ≡ 12500) × (queue_of whole 1 ≡ 0)
unfolding queue_of
queues = (
  queue_figure_is whole refl 0 0 ∙ ap (λ (z : ℕ). z - 12500) (queue_figure_lem (queue_flows whole 0 0) flow_0 25000 25000 queue_flows_lem.0 lengths.0 figures.0),
  queue_figure_is whole refl 1 0 ∙ ap (λ (z : ℕ). z - 25000) (queue_figure_lem (queue_flows whole 1 0) flow_1 25000 25000 queue_flows_lem.1 lengths.1 figures.1),
)

port_figure_lem : (figure_of whole 0 ≡ 2074) × (figure_of whole 1 ≡ 2074)
port_figure_lem =
    let e = port_figure_is whole refl (jitter_of whole) 0 ∙ queue_figure_lem (port_flows whole (jitter_of whole) 0) flows 2074 2074 port_flows_lem lengths.2 figures.2 in
    (figure_of_port whole 0 ∙ e, figure_of_port whole 1 ∙ e)

worsts : (worst whole 0 0 ≡ 19398) × (worst whole 1 1 ≡ 6898)
unfolding worst worst_parts two_each route route_of mux_wait send_most most_ticks line_ticks on_line largest_line line_overhead total passing
worsts = (omega (arith, queues.0, port_figure_lem.0), omega (arith, queues.1, port_figure_lem.1))

bests : (best whole 0 0 ≡ 2043) × (best whole 1 1 ≡ 2043)
unfolding best best_parts two_each route route_of send_line hop_line least_ticks line_ticks on_line least_line least_frame line_overhead packets number_or0 least_from carried most_fragment full_fragment udp_header total
bests = (refl, refl)

-- "0 0 12500 19398 2043 17355" and "1 1 0 6898 2043 5855"
pub row_0 : row_of whole 0 0 ≡ 0 ∷ 0 ∷ 12500 ∷ 19398 ∷ 2043 ∷ 17355 ∷ []
unfolding row_of row_jitter
row_0 = rw (queues.0, worsts.0, bests.0)

pub row_1 : row_of whole 1 1 ≡ 1 ∷ 1 ∷ 0 ∷ 6898 ∷ 2043 ∷ 5855 ∷ []
unfolding row_of row_jitter
row_1 = rw (queues.1, worsts.1, bests.1)

-- and there are no others
pub rows : rows_of whole ≡ (0 ∷ 0 ∷ 12500 ∷ 19398 ∷ 2043 ∷ 17355 ∷ []) ∷ (1 ∷ 1 ∷ 0 ∷ 6898 ∷ 2043 ∷ 5855 ∷ []) ∷ []
unfolding rows_of rows_to leaves_of leaf is_parent is_some least_from passing
rows = rw (row_0, row_1)

-- so demand 3 says something of it
pub holds : Holds whole
holds = demand_3_over_networks whole sound busy

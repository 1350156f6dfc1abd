-- 01's starred numbers hold: the stations of 3 to 8 by the searches with fuel, one line each; the flows of the networks and all else are computed.
-- Assumes nothing.
use Prim.Native.Nat.{ℕ, zero, suc, ◌-◌, ◌≤◌, ◌<◌}
use mathlib.Core.Bool.{true, false, not}
use mathlib.Core.List.{List, [], ◌∷◌}
use Rattle.std.specs.Prelude.{None, Some}
use mathlib.Core.Path.{◌≡◌, refl, sym}
use native.Mathlib.Omega.{arith}
use Rattle.base.specs.Least.{least_from}
use Rattle.base.specs.Said.{accepted, refused, ruled}
use Rattle.base.specs.Tabulate.{tabulate, passing, total}
use Rattle.base.specs.Tests.{is_some, number_or0}
use Rattle.base.proofs.LeastLaws.{least_none}
use Rattle.frame.specs.Frame.{line_of, line_overhead, least_frame, greatest_frame, largest_line}
use Rattle.frame.specs.Packets.{udp_header, most_fragment, full_fragment, carried, packets}
use Rattle.frame.specs.Offered.{greatest_message, packets_of}
use Rattle.frame.specs.Tick.{per_byte, send_base, send_limit, in_time}
use Rattle.network.specs.declared.Stream.{Stream}
use Rattle.network.specs.Link.{on_line, line_ticks, most_ticks}
use Rattle.network.specs.Views.{hops_on, vls_of, streams_on}
use Rattle.rows.specs.Links.{send_most, send_sum, hop_most}
use Rattle.rows.specs.Queues.{queue_flow, queue_flows, queue_length}
use Rattle.rows.specs.Ports.{hop_flow, port_flows}
use Rattle.rows.specs.Refusals.{sends_late, late_system, endless_sub_link, endless_vl}
use Rattle.rows.proofs.TickLaws.{queue_length_is, queue_figure_is, port_length_is, port_figure_is}
use Rattle.station.specs.Answer.{said}
use Rattle.station.specs.Station.{Flow, most, brought, limit, busy_length, figure}
use Rattle.station.specs.Offered.{most_flows, in_range, all_in_range, offered, station_says}
use Rattle.station.specs.Searching.{last_in}
use Rattle.station.proofs.AnswerLaws.{served_was, endless_was}
use Rattle.station.proofs.Computed.{last_of, improved, climb, descend, computed_served, computed_none}
use Rattle.station.proofs.Facts.{no_flows}
use Rattle.numbers.specs.Numbers.{queue_net, stream, port_net, refused_at, unless, queue_says, port_says, send_says, numbers, NumbersHold}

-- ---- from what the station says of the flows to what is said of the queue or the port
module _ (fs : List Flow) (ok : offered fs ≡ true) where
  module _ {l v : ℕ} (e : station_says fs ≡ accepted (l ∷ v ∷ [])) where
    found : (busy_length fs ≡ Some l) × (v ≡ figure fs l)
    unfolding said
    found = served_was fs ok l v (sym e)

    -- the queue of the first of at most two sub-links, the second without a stream: the station's figure less one BAG
    queue_served :
        (n : ℕ) (streams : List Stream) → n ≤ 2 → queue_flows (queue_net n streams) 0 0 ≡ fs → queue_flows (queue_net n streams) 0 1 ≡ []
        → queue_says (queue_net n streams) 0 0 ≡ accepted (l ∷ (v - 12500) ∷ [])
    unfolding queue_says unless endless_vl endless_sub_link is_some number_or0 least_from
    queue_served n streams few first second = rw (no_endless, queue_figure_is (queue_net n streams) refl 0 0, queue_length_is (queue_net n streams) refl 0 0, first, found.0, found.1)
      where
        has_length : (k : ℕ) → k < n → not (is_some (queue_length (queue_net n streams) 0 k)) ≡ false
        has_length zero h = rw (queue_length_is (queue_net n streams) refl 0 0, first, found.0)
        has_length (suc zero) h = rw (queue_length_is (queue_net n streams) refl 0 1, second, no_flows.0)
        has_length (suc (suc k)) h = absurd (omega arith)

        no_endless : least_from (λ k. not (is_some (queue_length (queue_net n streams) 0 k))) 0 n ≡ None
        no_endless = least_none _ 0 n (λ k a b. has_length k (omega arith))

    port_served : (jitter : ℕ → ℕ) → port_flows port_net jitter 0 ≡ fs → port_says port_net jitter 0 ≡ accepted (l ∷ v ∷ [])
    unfolding port_says number_or0
    port_served jitter flows = rw (port_says, port_length_is port_net refl jitter 0, flows, found.0) (rw (port_figure_is port_net refl jitter 0, flows, found.0, found.1))

  queue_refused : station_says fs ≡ refused 10 (0 ∷ 0 ∷ []) → (streams : List Stream) → queue_flows (queue_net 1 streams) 0 0 ≡ fs → queue_says (queue_net 1 streams) 0 0 ≡ refused_at 9 2 0
  unfolding queue_says unless endless_vl endless_sub_link least_from is_some said
  queue_refused e streams flows = rw (endless_vl, endless_sub_link, least_from, queue_length_is (queue_net 1 streams) refl 0 0, flows, endless_was fs ok (sym e))

-- ---- the list
abbrev flow : ℕ → ℕ → ℕ → Flow
flow t j c = record { period = t; jitter = j; cost = c }

pub numbers_hold : NumbersHold
unfolding numbers ruled line_of least_frame greatest_frame udp_header most_fragment full_fragment carried packets number_or0 greatest_message packets_of offered most brought limit most_flows in_range all_in_range last_of last_in improved climb descend queue_flows queue_flow streams_on passing port_flows hop_flow hops_on hop_most most_ticks line_ticks on_line largest_line line_overhead per_byte tabulate send_says unless late_system least_from sends_late in_time send_base send_limit send_sum send_most vls_of total
numbers_hold = rw (
  -- 3
  queue_served (flow 50000 0 37500 ∷ []) refl (computed_served _ refl refl 9 37499 (record { figure = 37500; span = 0 }) refl refl) 1 (stream 3 50000 0 ∷ []) (omega arith) refl refl,
  -- 4
  queue_served (flow 25000 25000 12500 ∷ []) refl (computed_served _ refl refl 9 24999 (record { figure = 25000; span = 0 }) refl refl) 1 (stream 1 25000 25000 ∷ []) (omega arith) refl refl,
  queue_served (flow 25000 24999 12500 ∷ []) refl (computed_served _ refl refl 9 24999 (record { figure = 24999; span = 1 }) refl refl) 1 (stream 1 25000 24999 ∷ []) (omega arith) refl refl,
  -- 5
  queue_served (flow 25000 0 12500 ∷ flow 50000 0 25000 ∷ []) refl (computed_served _ refl refl 9 49999 (record { figure = 37500; span = 0 }) refl refl) 1 (stream 1 25000 0 ∷ stream 2 50000 0 ∷ []) (omega arith) refl refl,
  -- 6
  queue_refused (flow 25000 1 12500 ∷ flow 50000 0 25000 ∷ []) refl (computed_none _ refl refl 10001 refl) (stream 1 25000 1 ∷ stream 2 50000 0 ∷ []) refl,
  -- 7
  queue_served (flow 50000 0 25000 ∷ []) refl (computed_served _ refl refl 9 24999 (record { figure = 25000; span = 0 }) refl refl) 2 (stream 1 50000 0 ∷ []) (omega arith) refl refl,
  -- 8
  port_served (flow 12500 12500 1538 ∷ []) refl (computed_served _ refl refl 9 3075 (record { figure = 3076; span = 0 }) refl refl) (λ h. 12500) refl,
  port_served (flow 12500 12499 1538 ∷ []) refl (computed_served _ refl refl 9 3075 (record { figure = 3075; span = 1 }) refl refl) (λ h. 12499) refl,
) refl

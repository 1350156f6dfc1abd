-- Where the rules in force are the network's, the busy lengths of its queues and ports are looked for within the station's own limit: what
-- the station says of their flows is what the rows say. Assumes nothing.
use Prim.Native.Nat.{ℕ, ◌-◌}
use mathlib.Core.Bool.{not}
use mathlib.Core.Path.{◌≡◌, ap}
use Rattle.base.specs.Tests.{number_or0}
use Rattle.frame.specs.Tick.{TickRules, longest, in_force, in_time, sends_in_time}
use Rattle.network.specs.Network.{Network, vl_at}
use Rattle.station.specs.Station.{limit, busy_length_to, busy_length, figure}
use Rattle.rows.specs.Links.{send_sum}
use Rattle.rows.specs.Queues.{queue_flows, queue_length, queue_figure}
use Rattle.rows.specs.Ports.{port_flows, port_length, port_figure}
use Rattle.rows.specs.Refusals.{sends_late}

module _ (net : Network) (rules : net.tick ≡ in_force) where
  longest_here : net.tick.longest ≡ limit
  unfolding longest limit
  longest_here = ap (λ (t : TickRules). t.longest) rules

  pub queue_length_is : (v k : ℕ) → queue_length net v k ≡ busy_length (queue_flows net v k)
  unfolding queue_length
  queue_length_is v k = ap (λ (l : ℕ). busy_length_to l (queue_flows net v k)) longest_here

  pub queue_figure_is : (v k : ℕ) → queue_figure net v k ≡ figure (queue_flows net v k) (number_or0 (busy_length (queue_flows net v k))) - (vl_at net v).gap
  unfolding queue_figure
  queue_figure_is v k = rw (queue_length_is v k)

  pub port_length_is : (jitter : ℕ → ℕ) (p : ℕ) → port_length net jitter p ≡ busy_length (port_flows net jitter p)
  unfolding port_length
  port_length_is jitter p = ap (λ (l : ℕ). busy_length_to l (port_flows net jitter p)) longest_here

  pub port_figure_is : (jitter : ℕ → ℕ) (p : ℕ) → port_figure net jitter p ≡ figure (port_flows net jitter p) (number_or0 (busy_length (port_flows net jitter p)))
  unfolding port_figure
  port_figure_is jitter p = rw (port_length_is jitter p)

  pub late_by_rules : (e : ℕ) → sends_late net e ≡ not (sends_in_time (send_sum net e))
  unfolding sends_late
  late_by_rules e = ap (λ (t : TickRules). not (in_time t (send_sum net e))) rules

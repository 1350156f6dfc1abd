-- The figures in the form that the lemmas use: of each hop the least and the most from hand-over to arrival at its port, and that the stations' figures cover what any span brings.
-- Assumes nothing.
use Prim.Native.Nat.{ℕ, ◌+◌, ◌*◌, ◌-◌, ◌≤◌, ◌<◌}
use Rattle.std.specs.Prelude.{Option, None, Some}
use mathlib.Core.Path.{◌≡◌, refl}
use lib.ListN.{length}
use Rattle.base.specs.Tests.{number_or0}
use Rattle.frame.specs.Packets.{packets}
use Rattle.network.specs.Network.{Network, vl_at, stream_at, port_at, hop_at, parent_at}
use Rattle.rows.specs.Links.{send_line, send_sum, hop_line}
use Rattle.rows.specs.Ports.{port_flows, port_figure, jitter_of, figure_of}
use Rattle.rows.specs.Queues.{queue_flows, queue_length, queue_figure}
use Rattle.rows.specs.Rows.{queue_of}
use Rattle.station.specs.Station.{brought, figure}

module _ (net : Network) where
  -- the station's figure of a sub-link's queue: the queue figure is it less one gap
  unfoldable pub queue_station : ℕ → ℕ → ℕ
  queue_station v k = figure (queue_flows net v k) (number_or0 (queue_length net v k))

  pub queue_is : (s : ℕ) → queue_station (stream_at net s).vl (stream_at net s).sublink - (vl_at net (stream_at net s).vl).gap ≡ queue_of net s
  unfolding queue_of queue_figure queue_station
  queue_is s = refl

  abbrev pub soon_by : (ℕ → ℕ) → ℕ → Option ℕ → ℕ
  soon_by soon h None = send_line net (hop_at net h).vl + (port_at net (hop_at net h).port).least
  soon_by soon h (Some g) = soon g + hop_line net g + (port_at net (hop_at net h).port).least

  abbrev pub late_by : (ℕ → ℕ) → ℕ → Option ℕ → ℕ
  late_by late h None = send_sum net (vl_at net (hop_at net h).vl).system + (port_at net (hop_at net h).port).greatest
  late_by late h (Some g) = late g + figure_of net g + (port_at net (hop_at net h).port).greatest

  -- `soon h` and `late h`: the least and the most from hand-over to arrival at the port of hop h; 01's jitter of the hop is their difference
  pub record Windows : Type 0 where
    pub soon : ℕ → ℕ
    pub late : ℕ → ℕ
    pub soon_is : (h : ℕ) → h < length net.hops → soon h ≡ soon_by soon h (parent_at net h)
    pub late_is : (h : ℕ) → h < length net.hops → late h ≡ late_by late h (parent_at net h)
    pub spread : (h : ℕ) → h < length net.hops → late h ≡ soon h + jitter_of net h
    pub queue_covers : (v k d : ℕ) → brought (queue_flows net v k) d ≤ queue_station v k + d
    pub port_covers : (p d : ℕ) → brought (port_flows net (jitter_of net) p) d ≤ port_figure net (jitter_of net) p + d

  -- the row of stream s and hop h
  abbrev pub latest : Windows → ℕ → ℕ → ℕ
  latest win s h =
      net.send_greatest + (queue_station (stream_at net s).vl (stream_at net s).sublink - (vl_at net (stream_at net s).vl).gap)
      + win.late h + figure_of net h + net.receive_greatest

  abbrev pub soonest : Windows → ℕ → ℕ → ℕ
  soonest win s h =
      net.send_least + (packets (stream_at net s).least (vl_at net (stream_at net s).vl).lmax - 1) * (vl_at net (stream_at net s).vl).gap
      + win.soon h + hop_line net h + net.receive_least

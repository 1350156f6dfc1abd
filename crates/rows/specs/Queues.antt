-- 01, Queue figure of a sub-link with a stream: "flows are its streams, J raised by (greatest − least send delay),
-- C = p × n × BAG where n is the VL's number of sub-links; the station figure less one BAG." Assumes nothing.
use Rattle.std.specs.Prelude.{ℕ, ◌+◌, ◌-◌, ◌*◌, List, map, Option}
use Rattle.base.specs.Tests.{number_or0}
use Rattle.frame.specs.Packets.{packets}
use Rattle.network.specs.Network.{Network, vl_at, stream_at}
use Rattle.network.specs.Views.{streams_on}
use Rattle.station.specs.Station.{Flow, busy_length_to, figure}

-- "J raised by (greatest − least send delay), C = p × n × BAG"
unfoldable pub queue_flow : Network → ℕ → Flow
queue_flow net s =
    let v = (stream_at net s).vl in
    record {
      period = (stream_at net s).period;
      jitter = (stream_at net s).jitter + (net.send_greatest - net.send_least);
      cost = packets (stream_at net s).size (vl_at net v).lmax * (vl_at net v).sublinks * (vl_at net v).gap;
    }

unfoldable pub queue_flows : Network → ℕ → ℕ → List Flow
queue_flows net v k = map (queue_flow net) (streams_on net v k)

-- the queue's busy length, if it has one
unfoldable pub queue_length : Network → ℕ → ℕ → Option ℕ
queue_length net v k = busy_length_to net.tick.longest (queue_flows net v k)

-- "the station figure less one BAG"
unfoldable pub queue_figure : Network → ℕ → ℕ → ℕ
queue_figure net v k = figure (queue_flows net v k) (number_or0 (queue_length net v k)) - (vl_at net v).gap

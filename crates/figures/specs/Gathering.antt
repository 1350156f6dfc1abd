-- The flow of a stream, and the figure of the flows of a queue or a port. Nothing here has to be believed.
-- Assumes nothing.
use Rattle.std.specs.Prelude.{ℕ, ◌+◌, ◌-◌, ◌*◌, List, Option, None, Some}
use Rattle.base.specs.Tests.{number_or0}
use Rattle.frame.specs.Packets.{packets}
use Rattle.network.specs.declared.Vl.{Vl}
use Rattle.network.specs.declared.Stream.{Stream}
use Rattle.station.specs.Station.{Flow, busy_length, figure}
use Rattle.sheet.specs.declared.Delays.{Delays}

-- the flow of a stream of a VL
abbrev pub flow_of : Delays → Stream → Vl → Flow
flow_of d stream vl = record {
  period = stream.period;
  jitter = stream.jitter + (d.send_greatest - d.send_least);
  cost = packets stream.size vl.lmax * vl.sublinks * vl.gap;
}

-- a figure where there is a busy length, and none where there is none
unfoldable pub if_busy : Option ℕ → ℕ → Option ℕ
if_busy None f = None
if_busy (Some l) f = Some f

-- the figure of flows, where they have a busy length
unfoldable pub figure_in : List Flow → Option ℕ
figure_in fs = if_busy (busy_length fs) (figure fs (number_or0 (busy_length fs)))

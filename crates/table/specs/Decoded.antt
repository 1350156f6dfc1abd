-- The network that lists of numbers describe, by the rules of a tick: milliseconds, Mbit/s and the table's units become ticks, and a
-- parent's row + 1 becomes its row. Assumes nothing.
use Rattle.std.specs.Prelude.{ℕ, zero, suc, ◌*◌, List, eqb, Option, None, Some}
use Rattle.base.specs.Pick.{pick}
use Rattle.base.specs.Tabulate.{tabulate}
use Rattle.frame.specs.Tick.{TickRules, in_force}
use Rattle.frame.specs.declared.Speed.TheVariants.{Mbit100, Mbit10}
use Rattle.layout.specs.declared.Name.TheVariants as name
use Rattle.layout.specs.Rows.{named}
use Rattle.network.specs.declared.EndSystem.{EndSystem}
use Rattle.network.specs.declared.Vl.{Vl}
use Rattle.network.specs.declared.Stream.{Stream}
use Rattle.network.specs.declared.Port.{Port}
use Rattle.network.specs.declared.Hop.{Hop}
use Rattle.network.specs.Network.{Network}
use Rattle.table.specs.Lists.{Lists, records_in, record_at, header_at}

-- the ticks that a byte takes at a speed of 100 or 10 Mbit/s
unfoldable pub ticks_at : TickRules → ℕ → ℕ
ticks_at tick mbit = pick (eqb mbit 100) (tick.per_byte Mbit100) (tick.per_byte Mbit10)

-- a parent as it is stored: 0 for none, else its row + 1
unfoldable pub parent_of : ℕ → Option ℕ
parent_of zero = None
parent_of (suc g) = Some g

-- ---- a record from its numbers
unfoldable pub system_in : TickRules → List ℕ → EndSystem
system_in tick r = record { perbyte = ticks_at tick (named 1 r name.Speed) }

unfoldable pub vl_in : TickRules → List ℕ → Vl
vl_in tick r = record {
  system = named 2 r name.EndSystem;
  gap = tick.per_ms * named 2 r name.Gap;
  sublinks = named 2 r name.SubLinks;
  lmax = named 2 r name.Lmax;
}

unfoldable pub stream_in : TickRules → List ℕ → Stream
stream_in tick r = record {
  vl = named 3 r name.Vl;
  sublink = named 3 r name.SubLink;
  -- "kind 1 (1: sampling)"
  sampling = eqb (named 3 r name.Kind) 1;
  size = named 3 r name.Size;
  least = named 3 r name.LeastSize;
  period = tick.per_unit * named 3 r name.Period;
  jitter = tick.per_unit * named 3 r name.Jitter;
}

unfoldable pub port_in : TickRules → List ℕ → Port
port_in tick r = record {
  perbyte = ticks_at tick (named 4 r name.Speed);
  least = tick.per_unit * named 4 r name.SwitchLeast;
  greatest = tick.per_unit * named 4 r name.SwitchGreatest;
}

unfoldable pub hop_in : List ℕ → Hop
hop_in r = record { vl = named 5 r name.Vl; port = named 5 r name.Port; parent = parent_of (named 5 r name.Parent) }

-- ---- the network of all records
unfoldable pub network_at : TickRules → Lists → Network
network_at tick ls = record {
  tick = tick;
  send_least = tick.per_unit * header_at ls name.SendLeast;
  send_greatest = tick.per_unit * header_at ls name.SendGreatest;
  receive_least = tick.per_unit * header_at ls name.ReceiveLeast;
  receive_greatest = tick.per_unit * header_at ls name.ReceiveGreatest;
  systems = tabulate (λ i. system_in tick (record_at ls 1 i)) (records_in ls 1);
  vls = tabulate (λ i. vl_in tick (record_at ls 2 i)) (records_in ls 2);
  streams = tabulate (λ i. stream_in tick (record_at ls 3 i)) (records_in ls 3);
  ports = tabulate (λ i. port_in tick (record_at ls 4 i)) (records_in ls 4);
  hops = tabulate (λ i. hop_in (record_at ls 5 i)) (records_in ls 5);
}

-- by the rules in force
abbrev pub network_of : Lists → Network
network_of ls = network_at in_force ls

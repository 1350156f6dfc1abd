-- A network as a value: what a packed table says once it is decoded. Every time is in ticks, by the rules of the tick that it carries; rows
-- are numbered from 0; there are no bytes here. Its records are those that the code declares (src/). Table, rows and the tick machine all
-- speak of this one. Assumes nothing.
use Rattle.std.specs.Prelude.{ℕ, false, List, get_or, Option, None}
use Rattle.frame.specs.Tick.{TickRules}
use Rattle.network.specs.declared.EndSystem.{EndSystem}
use Rattle.network.specs.declared.Vl.{Vl}
use Rattle.network.specs.declared.Stream.{Stream}
use Rattle.network.specs.declared.Port.{Port}
use Rattle.network.specs.declared.Hop.{Hop}

pub record Network : Type 0 where
  pub tick : TickRules
  pub send_least : ℕ
  pub send_greatest : ℕ
  pub receive_least : ℕ
  pub receive_greatest : ℕ
  pub systems : List EndSystem
  pub vls : List Vl
  pub streams : List Stream
  pub ports : List Port
  pub hops : List Hop

-- ---- the record at a row; past the last row a record of zeros
abbrev pub no_system : EndSystem
no_system = record { perbyte = 0 }

abbrev pub no_vl : Vl
no_vl = record { system = 0; gap = 0; sublinks = 0; lmax = 0 }

abbrev pub no_stream : Stream
no_stream = record { vl = 0; sublink = 0; sampling = false; size = 0; least = 0; period = 0; jitter = 0 }

abbrev pub no_port : Port
no_port = record { perbyte = 0; least = 0; greatest = 0 }

abbrev pub no_hop : Hop
no_hop = record { vl = 0; port = 0; parent = None }

abbrev pub system_at : Network → ℕ → EndSystem
system_at net i = get_or net.systems i no_system

abbrev pub vl_at : Network → ℕ → Vl
vl_at net i = get_or net.vls i no_vl

abbrev pub stream_at : Network → ℕ → Stream
stream_at net i = get_or net.streams i no_stream

abbrev pub port_at : Network → ℕ → Port
port_at net i = get_or net.ports i no_port

abbrev pub hop_at : Network → ℕ → Hop
hop_at net i = get_or net.hops i no_hop

-- the row of a hop's parent
abbrev pub parent_at : Network → ℕ → Option ℕ
parent_at net i = (hop_at net i).parent

-- 01's ranges as plain facts of a network: what every number of an accepted table's network keeps to, in ticks and bytes. (That each
-- reference is good is `References`.) No demand is stated by them; proofs above stand on them. Assumes nothing.
use Rattle.std.specs.Prelude.{ℕ, ◌≤◌, ◌<◌, ◌⊎◌, ◌≡◌, length, Some}
use Rattle.frame.specs.Gap.{gap_of}
use Rattle.frame.specs.Tick.{in_force}
use Rattle.layout.specs.Limits.{limits}
use Rattle.network.specs.declared.Vl.{Vl}
use Rattle.network.specs.declared.Stream.{Stream}
use Rattle.network.specs.declared.Port.{Port}
use Rattle.network.specs.Network.{Network, system_at, vl_at, stream_at, port_at}

-- "A byte takes 1 tick at 100 Mbit/s and 10 ticks at 10 Mbit/s."
abbrev pub SpeedRange : ℕ → Type 0
SpeedRange perbyte = (perbyte ≡ 1) ⊎ (perbyte ≡ 10)

-- a gap of the table of gaps, one to four sub-links, "Lmax 64 to 1,518"
pub record VlRange (vl : Vl) : Type 0 where
  pub code : ℕ
  pub gap : gap_of code ≡ Some vl.gap
  pub gap_least : 12500 ≤ vl.gap
  pub gap_greatest : vl.gap ≤ 1600000
  pub sub_links_least : 1 ≤ vl.sublinks
  pub sub_links_greatest : vl.sublinks ≤ 4
  pub lmax_least : 64 ≤ vl.lmax
  pub lmax_greatest : vl.lmax ≤ 1518

-- "M 1 to 8,192; least M 1 to M; period 12,500 to 125,000,000; jitter 0 to 125,000,000"
pub record StreamRange (stream : Stream) : Type 0 where
  pub least_size_least : 1 ≤ stream.least
  pub least_size_greatest : stream.least ≤ stream.size
  pub size_greatest : stream.size ≤ 8192
  pub period_least : 12500 ≤ stream.period
  pub period_greatest : stream.period ≤ 125000000
  pub jitter_greatest : stream.jitter ≤ 125000000

-- "switch delay at most 1,250; each least at most its greatest"
pub record PortRange (port : Port) : Type 0 where
  pub per_byte_says : SpeedRange port.perbyte
  pub delay_least : port.least ≤ port.greatest
  pub delay_greatest : port.greatest ≤ 1250

pub record Ranges (net : Network) : Type 0 where
  -- the numbers are of the tick in force
  pub in_force_says : net.tick ≡ in_force
  -- "At most 64 end systems, 256 VLs, 512 streams, 128 ports, 1,024 hops"
  pub few_systems : length net.systems ≤ limits.systems
  pub few_vls : length net.vls ≤ limits.vls
  pub few_streams : length net.streams ≤ limits.streams
  pub few_ports : length net.ports ≤ limits.ports
  pub few_hops : length net.hops ≤ limits.hops
  -- "send and receive delays at most 1,875"
  pub send_least_lem : net.send_least ≤ net.send_greatest
  pub send_greatest_lem : net.send_greatest ≤ 1875
  pub receive_least_lem : net.receive_least ≤ net.receive_greatest
  pub receive_greatest_lem : net.receive_greatest ≤ 1875
  pub system : (i : ℕ) → i < length net.systems → SpeedRange (system_at net i).perbyte
  pub vl : (v : ℕ) → v < length net.vls → VlRange (vl_at net v)
  pub stream : (s : ℕ) → s < length net.streams → StreamRange (stream_at net s)
  pub port : (p : ℕ) → p < length net.ports → PortRange (port_at net p)

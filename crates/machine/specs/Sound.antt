-- What the machine's own theorem (OverNetworks) asks of a network: references as 01 has them, records in range, end systems that send a
-- frame of each of their VLs within a gap; and that the busy lengths exist. The order's demand 3 asks only that the table is accepted,
-- which gives all this (order/proofs/SoundLaws), so nobody has to believe it. Assumes nothing.
use Rattle.std.specs.Prelude.{ℕ, ◌≤◌, ◌<◌, ◌≡◌, length, Option, Some}
use Rattle.network.specs.Network.{Network, system_at, vl_at, stream_at, port_at, hop_at}
use Rattle.network.specs.ReferenceFacts.{References}
use Rattle.rows.specs.Links.{send_sum}
use Rattle.rows.specs.Ports.{port_length, jitter_of}
use Rattle.rows.specs.Queues.{queue_length}

pub record Sound (net : Network) : Type 0 where
  pub references : References net
  pub send : net.send_least ≤ net.send_greatest
  pub receive : net.receive_least ≤ net.receive_greatest
  pub system_speed : (e : ℕ) → e < length net.systems → 0 < (system_at net e).perbyte
  pub gap : (v : ℕ) → v < length net.vls → 0 < (vl_at net v).gap
  pub lmax_least : (v : ℕ) → v < length net.vls → 64 ≤ (vl_at net v).lmax
  pub lmax_greatest : (v : ℕ) → v < length net.vls → (vl_at net v).lmax ≤ 1518
  pub least_size : (s : ℕ) → s < length net.streams → 0 < (stream_at net s).least
  pub size : (s : ℕ) → s < length net.streams → (stream_at net s).least ≤ (stream_at net s).size
  pub period : (s : ℕ) → s < length net.streams → 0 < (stream_at net s).period
  pub port_speed : (p : ℕ) → p < length net.ports → 0 < (port_at net p).perbyte
  pub port_delay : (p : ℕ) → p < length net.ports → (port_at net p).least ≤ (port_at net p).greatest
  -- 7 allows an end system 5,750 ticks for a frame of each of its VLs, which is less than the least gap
  pub sends_in_a_gap : (v : ℕ) → v < length net.vls → send_sum net (vl_at net v).system ≤ (vl_at net v).gap

-- there is a busy length
pub record Has (o : Option ℕ) : Type 0 where
  pub length : ℕ
  pub is : o ≡ Some length

-- every sub-link with a stream has one, and every port with a hop
pub record Busy (net : Network) : Type 0 where
  pub queue : (s : ℕ) → s < length net.streams → Has (queue_length net (stream_at net s).vl (stream_at net s).sublink)
  pub port : (h : ℕ) → h < length net.hops → Has (port_length net (jitter_of net) (hop_at net h).port)

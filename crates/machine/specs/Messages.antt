-- Releases, messages, packets and frames: what goes through the network.
-- Assumes nothing.
use Rattle.std.specs.Prelude.{ℕ, suc, cond, ◌&&◌, List, [], ◌∷◌, ◌++◌, eqb, Option, None, Some}
use Rattle.frame.specs.Packets.{packet_lines}
use Rattle.network.specs.Link.{system_link, port_link, line_ticks}
use Rattle.network.specs.Network.{Network, vl_at, stream_at}
use Rattle.machine.specs.Lists.{chosen}

-- what a stream releases: a message of so many bytes. The tick is that of the list in which it stands.
pub record Release : Type 0 where
  pub stream : ℕ
  pub size : ℕ

-- a message is told by the tick of its release and its place in that tick's list, so no two are the same
pub record Message : Type 0 where
  pub released : ℕ
  pub place : ℕ
  pub stream : ℕ
  pub size : ℕ

-- a packet is told by its message and its number in it, from 0
pub record Packet : Type 0 where
  pub message : Message
  pub index : ℕ
  pub bytes : ℕ

-- a packet that is handed over; `born` is the tick of its hand-over, and no rule looks at it
pub record Frame : Type 0 where
  pub packet : Packet
  pub vl : ℕ
  pub born : ℕ

-- a frame at the port of a hop
pub record Copy : Type 0 where
  pub frame : Frame
  pub hop : ℕ

-- the messages of tick t's releases, their places from i on
abbrev pub messages : ℕ → ℕ → List Release → List Message
messages t i [] = []
messages t i (x ∷ xs) = record { released = t; place = i; stream = x.stream; size = x.size } ∷ messages t (suc i) xs

abbrev pub number : Message → ℕ → List ℕ → List Packet
number m i [] = []
number m i (b ∷ bs) = record { message = m; index = i; bytes = b } ∷ number m (suc i) bs

-- a packet handed over in tick t is a frame from then on
abbrev pub framed : ℕ → ℕ → Option Packet → List Frame
framed v t None = []
framed v t (Some x) = record { packet = x; vl = v; born = t } ∷ []

abbrev pub copy : ℕ → Frame → Copy
copy h f = record { frame = f; hop = h }

abbrev pub of_vl : ℕ → List Frame → List Frame
of_vl v = chosen (λ f. eqb f.vl v) (λ f. f)

abbrev pub of_hop : ℕ → List Copy → List Frame
of_hop h = chosen (λ c. eqb c.hop h) (λ c. c.frame)

module _ (net : Network) where
  abbrev pub vl_of : Message → ℕ
  vl_of m = (stream_at net m.stream).vl

  -- "A message is cut by equations 4 and 7: every packet but the last is full"; M-103: "a full one has C"
  abbrev pub packets_in : Message → List Packet
  packets_in m = number m 0 (packet_lines m.size (vl_at net (vl_of m)).lmax)

  -- the packets that messages bring to sub-link k of VL v, each message whole
  abbrev pub to_lane : ℕ → ℕ → List Message → List Packet
  to_lane v k [] = []
  to_lane v k (m ∷ ms) = cond (eqb (vl_of m) v && eqb (stream_at net m.stream).sublink k) (packets_in m) [] ++ to_lane v k ms

  -- "b × ticks per byte" on the link of an end system and of a port
  abbrev pub end_cost : ℕ → Frame → ℕ
  end_cost e f = line_ticks (system_link net e) f.packet.bytes

  abbrev pub port_cost : ℕ → Copy → ℕ
  port_cost p c = line_ticks (port_link net p) c.frame.packet.bytes

-- What is said of runs: when a message is complete, how long a packet waited, that a wait is reached, that there are runs, and that they go
-- on. The order's demand 3 is said in these words (order/specs/Demand3). Assumes nothing.
use Rattle.std.specs.Prelude.{ℕ, suc, ◌+◌, ◌≤◌, ◌<◌, ◌≡◌, length, Some}
use mathlib.Core.List.{List, Memᴰ}
use Rattle.network.specs.Network.{Network, stream_at, port_at, hop_at}
use Rattle.station.specs.Station.{most}
use Rattle.machine.specs.Sum.{span}
use Rattle.machine.specs.Messages.{Release, Message, Packet, Frame, packets_in}
use Rattle.machine.specs.Machine.{Run, state, hands, complete}
use Rattle.machine.specs.Permitted.{Sized, released_by, stream_flow, PermittedBelow, InTurn, Permitted}

module _ (net : Network) where
  -- packet k of the message has come to the destination of hop h by tick u
  pub record Came (r : Run) (m : Message) (h k u : ℕ) : Type 0 where
    pub frame : Frame
    pub at : ℕ
    pub there : Memᴰ frame (complete net at (r.choice at) (state net r at) h)
    pub message : frame.packet.message ≡ m
    pub index : frame.packet.index ≡ k
    pub by_then : at ≤ u

  -- "A message is complete at a destination when all its packets are": by tick u
  abbrev pub Complete : Run → Message → ℕ → ℕ → Type 0
  Complete r m h u = (k : ℕ) → k < length (packets_in net m) → Came r m h k u

  -- VL v hands over packet x in tick t
  abbrev pub Hands : Run → ℕ → ℕ → Packet → Type 0
  Hands r v t x = (hands net t (r.choice t) (state net r t) v).got ≡ Some x

  -- "The wait is hand-over less arrival": packet x, handed over in tick t, waited at most w ticks since it came to its queue, in that tick
  -- below n and in no other
  pub record Waited (r : Run) (n : ℕ) (x : Packet) (t w : ℕ) : Type 0 where
    pub came : ℕ
    pub reach : Memᴰ x.message (r.choice came).reach
    pub only : (u : ℕ) → u < n → Memᴰ x.message (r.choice u).reach → u ≡ came
    pub not_before : came ≤ t
    pub at_most : t ≤ came + w

  -- in some run that is permitted and in turn, however long it goes on, the last packet of a message of stream s waits exactly w ticks
  pub record Reaches (s w : ℕ) : Type 0 where
    pub run : Run
    pub permitted : Permitted net run
    pub in_turn : (n : ℕ) → InTurn net run n
    pub message : Message
    pub stream : message.stream ≡ s
    pub came : ℕ
    pub reach : Memᴰ message (run.choice came).reach
    pub only : (u : ℕ) → Memᴰ message (run.choice u).reach → u ≡ came
    pub packet : Packet
    pub of : packet.message ≡ message
    pub last : suc packet.index ≡ length (packets_in net message)
    pub at : ℕ
    pub over : Hands run (stream_at net s).vl at packet
    pub wait : at ≡ came + w

  -- ---- there are runs: for releases that keep the rule, delays within their bounds and first turns, whatever they are
  pub record Planned (releases : ℕ → List Release) (send : ℕ → Message → ℕ) (flight receive : ℕ → ℕ → Frame → ℕ) : Type 0 where
    pub sized : (t : ℕ) (x : Release) → Memᴰ x (releases t) → Sized net x
    pub rule : (s : ℕ) → s < length net.streams → (x d : ℕ) → span (released_by releases s) x d ≤ most (stream_flow net s) d
    pub send_least_lem : (t : ℕ) (m : Message) → net.send_least ≤ send t m
    pub send_greatest_lem : (t : ℕ) (m : Message) → send t m ≤ net.send_greatest
    pub flight_least : (t h : ℕ) (f : Frame) → h < length net.hops → (port_at net (hop_at net h).port).least ≤ flight t h f
    pub flight_greatest : (t h : ℕ) (f : Frame) → h < length net.hops → flight t h f ≤ (port_at net (hop_at net h).port).greatest
    pub receive_least_lem : (t h : ℕ) (f : Frame) → net.receive_least ≤ receive t h f
    pub receive_greatest_lem : (t h : ℕ) (f : Frame) → receive t h f ≤ net.receive_greatest

  -- permitted and in turn, however long it goes on
  pub record RunsAs
      (releases : ℕ → List Release) (send : ℕ → Message → ℕ) (flight receive : ℕ → ℕ → Frame → ℕ) (first_sub first_vl : ℕ → ℕ) : Type 0 where
    pub run : Run
    pub permitted : Permitted net run
    pub in_turn : (n : ℕ) → InTurn net run n
    pub releases_are : run.releases ≡ releases
    pub first_sub_is : run.first_sub ≡ first_sub
    pub first_vl_is : run.first_vl ≡ first_vl
    pub send_is : (t : ℕ) → (run.choice t).send ≡ send t
    pub flight_is : (t : ℕ) → (run.choice t).flight ≡ flight t
    pub receive_is : (t : ℕ) → (run.choice t).receive ≡ receive t

  abbrev pub Runs : Type 0
  Runs =
      (releases : ℕ → List Release) (send : ℕ → Message → ℕ) (flight receive : ℕ → ℕ → Frame → ℕ) (first_sub first_vl : ℕ → ℕ)
      → Planned releases send flight receive → RunsAs releases send flight receive first_sub first_vl

  -- ---- no run is at an end: what is permitted in the ticks below n goes on, permitted however long, and in turn if it was
  pub record Continued (r : Run) (n : ℕ) : Type 0 where
    pub run : Run
    pub permitted : Permitted net run
    pub in_turn : InTurn net r n → (m : ℕ) → InTurn net run m
    pub same_first_sub : run.first_sub ≡ r.first_sub
    pub same_first_vl : run.first_vl ≡ r.first_vl
    pub same_releases : (t : ℕ) → t < n → run.releases t ≡ r.releases t
    pub same_choice : (t : ℕ) → t < n → run.choice t ≡ r.choice t
    -- and so
    pub same_state : (t : ℕ) → t ≤ n → state net run t ≡ state net r t

  abbrev pub Continues : Type 0
  Continues = (r : Run) (n : ℕ) → PermittedBelow net r n → Continued r n

-- The tick machine of demand 3: what a network may do, tick by tick. A sentence in quotes is 01's, except where it is said to be the
-- order's. Lists are queues, their heads first; none is bounded and nothing is dropped. Assumes nothing.
use Rattle.std.specs.Prelude.{ℕ, zero, suc, true, cond, List, [], ◌++◌, Option, None, Some}
use Rattle.base.specs.Tabulate.{passing}
use Rattle.network.specs.Network.{Network, vl_at, hop_at, parent_at}
use Rattle.network.specs.Views.{hops_on, vls_of, leaf}
use Rattle.machine.specs.Lists.{chosen, gather}
use Rattle.machine.specs.Turn.{Lane, lanes_of, from_turn}
use Rattle.machine.specs.Pool.{Due, set_out, landed, later}
use Rattle.machine.specs.Queue.{Queue, Handed}
use Rattle.machine.specs.Queue as Queue
use Rattle.machine.specs.Mux.{Mux}
use Rattle.machine.specs.Mux as Mux
use Rattle.machine.specs.Fifo.{Fifo, ended}
use Rattle.machine.specs.Fifo as Fifo
use Rattle.machine.specs.Messages.{Release, Message, Packet, Frame, Copy, messages, framed, copy, of_vl, of_hop, to_lane}
use Rattle.machine.specs.Messages.{end_cost, port_cost}

-- ---- the state before a tick
pub record State : Type 0 where
  -- messages on the way to their queues; the queues of each VL; each end system
  pub sending : List (Due Message)
  pub queue : ℕ → Queue Packet
  pub end : ℕ → Mux Frame
  -- frames on the way to each hop's port; each port; frames on the way from each hop to its destination
  pub flying : ℕ → List (Due Frame)
  pub port : ℕ → Fifo Copy
  pub receiving : ℕ → List (Due Frame)

-- ---- what is free in a tick
-- (at most one frame sets out to a hop in it and at most one leaves it, so a delay for each hop and frame is one for each frame that
-- there is)
pub record Choice : Type 0 where
  -- the send delay of each message released, and the messages that reach their queues, in order
  pub send : Message → ℕ
  pub reach : List Message
  -- the switch delay of each frame that sets out to a hop, and the copies that reach each port, in order
  pub flight : ℕ → Frame → ℕ
  pub enter : ℕ → List Copy
  -- the VLs of each end system with what waits in them, in the order in which its link looks at them
  pub turns : ℕ → List (Lane Frame)
  -- the receive delay of each frame that leaves a hop
  pub receive : ℕ → Frame → ℕ

-- ---- a run: what the streams release in each tick, which turn comes first (of the sub-links of each VL, of the VLs of each end
-- system), and what is free in each tick. The releases stand by themselves: runs of two networks can have the same.
pub record Run : Type 0 where
  pub releases : ℕ → List Release
  pub first_sub : ℕ → ℕ
  pub first_vl : ℕ → ℕ
  pub choice : ℕ → Choice

-- the messages released in tick t
abbrev pub released : Run → ℕ → List Message
released r t = messages t 0 (r.releases t)

module _ (net : Network) where
  -- ---- a tick, from the state before it: "In a tick come ends of sending, arrivals, hand-overs, starts"
  module _ (t : ℕ) (c : Choice) (s : State) where
    -- ---- ends of sending
    -- the frames that leave hop h, sent whole by its port
    abbrev pub delivered : ℕ → List Frame
    delivered h = of_hop h (ended t (s.port (hop_at net h).port).link)

    -- "A frame sent whole by the end system goes to every hop of its VL without parent, one sent whole by a port to every hop whose
    -- parent is that hop."
    abbrev pub sets_from : ℕ → Option ℕ → List Frame
    sets_from v None = of_vl v (ended t (s.end (vl_at net v).system).link)
    sets_from v (Some g) = delivered g

    abbrev pub sets_out : ℕ → List Frame
    sets_out h = sets_from (hop_at net h).vl (parent_at net h)

    -- ---- arrivals
    -- all that is on the way to hop h in this tick, and from it
    abbrev pub all_flying : ℕ → List (Due Frame)
    all_flying h = s.flying h ++ set_out t (c.flight h) (sets_out h)

    abbrev pub all_receiving : ℕ → List (Due Frame)
    all_receiving h = s.receiving h ++ set_out t (c.receive h) (cond (leaf net h) (delivered h) [])

    -- "It reaches each such port's FIFO after a permitted switch delay of its own": what reaches port p, from each hop on it
    abbrev pub reaches : ℕ → List Copy
    reaches p = gather (λ h. chosen (λ f. true) (copy h) (landed t (all_flying h))) (hops_on net p)

    -- what port p holds after the arrivals of this tick, before its start
    abbrev pub port_arrived : ℕ → Fifo Copy
    port_arrived p = Fifo.arrived t (c.enter p) (s.port p)

    -- "A hop that is nobody's parent leads to the receive delay.": the frames that come to the destination of hop h
    abbrev pub complete : ℕ → List Frame
    complete h = landed t (all_receiving h)

    -- "Each message reaches its sub-link queue whole": what the queues of VL v hold after the arrivals of this tick
    abbrev pub queue_arrived : ℕ → Queue Packet
    queue_arrived v = Queue.arrived (λ k. to_lane net v k c.reach) (s.queue v)

    -- ---- hand-overs
    -- "Then, in that tick, each VL whose last hand-over is at least one BAG old (or never was) hands over one packet, sub-links in
    -- turn, empty ones passed"
    abbrev pub hands : ℕ → Handed Packet
    hands v = Queue.hand_over (vl_at net v).gap t (queue_arrived v)

    -- what end system e holds after them, before its start
    abbrev pub end_joined : ℕ → Mux Frame
    end_joined e = Mux.joined t (λ v. framed v t (hands v).got) (s.end e)

    -- ---- starts
    -- "An idle end-system link sends the next VL's waiting packet, in turn.": the choice has the order in which it looks at its VLs
    abbrev pub end_started : ℕ → Mux Frame
    end_started e = Mux.started (end_cost net e) t (c.turns e) (end_joined e)

    -- "An idle port sends the head of its FIFO."
    abbrev pub port_started : ℕ → Fifo Copy
    port_started p = Fifo.started (port_cost net p) t (port_arrived p)

  -- all messages on the way in tick t, with those that are released in it: "Each message reaches its sub-link queue whole after a permitted
  -- send delay"
  abbrev pub all_sending : ℕ → List Message → Choice → State → List (Due Message)
  all_sending t ms c s = s.sending ++ set_out t c.send ms

  -- the state after tick t, in which ms are released
  abbrev pub step : ℕ → List Message → Choice → State → State
  step t ms c s = record {
    sending = later t (all_sending t ms c s);
    queue = λ v. (hands t c s v).queue;
    end = end_started t c s;
    flying = λ h. later t (all_flying t c s h);
    port = port_started t c s;
    receiving = λ h. later t (all_receiving t c s h);
  }

  -- ---- runs: in the order's words, "a network that starts empty and runs tick by tick"
  abbrev pub start : Run → State
  start r = record {
    sending = [];
    queue = λ v. record { lanes = lanes_of (from_turn (r.first_sub v) (passing (λ k. true) (vl_at net v).sublinks)); next = 0 };
    end = λ e. record { lanes = lanes_of (from_turn (r.first_vl e) (vls_of net e)); link = None };
    flying = λ h. [];
    port = λ p. Fifo.empty;
    receiving = λ h. [];
  }

  -- the state before tick t
  unfoldable pub state : Run → ℕ → State
  state r zero = start r
  state r (suc t) = step t (released r t) (r.choice t) (state r t)

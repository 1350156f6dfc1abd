-- The machine by computation: a few ticks of each part, then four small networks. Each rule of it shows here in a number or a list of its own.
-- Assumes nothing.
use Prim.Native.Nat.{ℕ, zero, suc, ◌+◌}
use mathlib.Core.Bool.{false, cond, ◌&&◌}
use mathlib.Core.List.Memᴰ
use mathlib.Core.List.{List, [], ◌∷◌}
use Rattle.std.specs.Prelude.{Option, None, Some}
use mathlib.Core.Path.{◌≡◌, refl}
use native.Mathlib.Omega.{arith}
use lib.Dec.{eqb}
use Rattle.base.specs.Least.{least_from}
use Rattle.base.specs.Tabulate.{passing}
use Rattle.base.specs.Tests.{is_some, number_or0}
use Rattle.frame.specs.Frame.{line_overhead, least_frame, least_line}
use Rattle.frame.specs.Packets.{udp_header, most_fragment, full_fragment, carried, packets, cut, fragment_line, packet_lines}
use Rattle.frame.specs.Tick.{in_force}
use Rattle.network.specs.Link.{on_line, line_ticks}
use Rattle.network.specs.declared.Vl.{Vl}
use Rattle.network.specs.declared.Stream.{Stream}
use Rattle.network.specs.declared.Port.{Port}
use Rattle.network.specs.declared.Hop.{Hop}
use Rattle.network.specs.Network.{Network}
use Rattle.network.specs.Views.{hops_on, vls_of, is_parent, leaf}
use Rattle.machine.specs.Sum.{span}
use Rattle.machine.specs.Pool.{landed}
use Rattle.machine.specs.Turn.{Lane}
use Rattle.machine.specs.Queue.{Queue}
use Rattle.machine.specs.Fifo as Fifo
use Rattle.machine.specs.Messages.{Release, Message, Packet, Frame, Copy, messages}
use Rattle.machine.specs.Machine.{State, Run, released, delivered, sets_out, reaches, complete, hands, all_sending, state}
use Rattle.machine.specs.Permitted.{PermittedBelow}
use Rattle.machine.proofs.Stage.Parts.{queue, handed, fifo, fifo_out, pool, lands}

-- ---- a span of 2 ticks from tick 3, both end ticks counted: 3 + 4 + 5
pub span_of_2 : span (λ t. t) 3 2 ≡ 12
unfolding span
span_of_2 = refl

-- ---- two releases of tick 3: their messages differ in their places
abbrev pub release : Release
release = record { stream = 0; size = 10 }

abbrev pub message_of : ℕ → ℕ → Message
message_of t i = record { released = t; place = i; stream = 0; size = 10 }

pub places : messages 3 0 (release ∷ release ∷ []) ≡ message_of 3 0 ∷ message_of 3 1 ∷ []
places = refl

-- ---- two sub-links, a gap of 5: in tick 0 packets 1 and 2 come to sub-link 0, packet 7 to sub-link 1
abbrev pub from_0 : Queue ℕ
from_0 = record { lanes = record { name = 0; line = [] } ∷ record { name = 1; line = [] } ∷ []; next = 0 }

abbrev pub from_1 : Queue ℕ
from_1 = record { lanes = record { name = 1; line = [] } ∷ record { name = 0; line = [] } ∷ []; next = 0 }

abbrev pub lane_news : ℕ → List ℕ
lane_news zero = 1 ∷ 2 ∷ []
lane_news (suc i) = 7 ∷ []

abbrev pub news : ℕ → ℕ → List ℕ
news zero i = lane_news i
news (suc t) i = []

abbrev pub at_0_4_5_9_10_15 : Queue ℕ → List (Option ℕ)
at_0_4_5_9_10_15 s = handed 5 s news 0 ∷ handed 5 s news 4 ∷ handed 5 s news 5 ∷ handed 5 s news 9 ∷ handed 5 s news 10 ∷ handed 5 s news 15 ∷ []

pub turns_0 : at_0_4_5_9_10_15 from_0 ≡ Some 1 ∷ None ∷ Some 7 ∷ None ∷ Some 2 ∷ None ∷ []
unfolding handed queue
turns_0 = refl

pub turns_1 : at_0_4_5_9_10_15 from_1 ≡ Some 7 ∷ None ∷ Some 1 ∷ None ∷ Some 2 ∷ None ∷ []
unfolding handed queue
turns_1 = refl

-- ---- a port, each job named by its cost: 3 and 2 come in tick 0, 4 in tick 1; they are sent whole in ticks 3, 5 and 9
abbrev pub jobs : ℕ → List ℕ
jobs zero = 3 ∷ 2 ∷ []
jobs (suc zero) = 4 ∷ []
jobs (suc (suc t)) = []

abbrev pub sent : ℕ → List ℕ
sent t = fifo_out (λ j. j) jobs t

pub in_line_lem : sent 2 ∷ sent 3 ∷ sent 4 ∷ sent 5 ∷ sent 8 ∷ sent 9 ∷ [] ≡ [] ∷ (3 ∷ []) ∷ [] ∷ (2 ∷ []) ∷ [] ∷ (4 ∷ []) ∷ []
unfolding fifo_out fifo
in_line_lem = refl

-- ---- a way, each thing named by its delay: 0 and 2 set out in tick 0, and come in ticks 0 and 2
abbrev pub sets_out_lem : ℕ → List ℕ
sets_out_lem zero = 0 ∷ 2 ∷ []
sets_out_lem (suc t) = []

abbrev pub comes : ℕ → List ℕ
comes t = lands (λ u x. x) sets_out_lem t

pub on_the_way : comes 0 ∷ comes 1 ∷ comes 2 ∷ comes 3 ∷ [] ≡ (0 ∷ []) ∷ [] ∷ (2 ∷ []) ∷ [] ∷ []
unfolding lands pool
on_the_way = refl

-- ---- four networks of one end system, of VLs with one sub-link and a stream of messages of 10 bytes each, and with delays from 0 to d
abbrev pub vl : Vl
vl = record { system = 0; gap = 12500; sublinks = 1; lmax = 64 }

abbrev pub stream_on : ℕ → Stream
stream_on v = record { vl = v; sublink = 0; sampling = false; size = 10; least = 10; period = 12500; jitter = 0 }

abbrev pub network : ℕ → List Vl → List Stream → List Port → List Hop → Network
network d vls streams ports hops = record {
  tick = in_force;
  send_least = 0;
  send_greatest = d;
  receive_least = 0;
  receive_greatest = d;
  systems = record { perbyte = 1 } ∷ [];
  vls = vls;
  streams = streams;
  ports = ports;
  hops = hops;
}

abbrev pub port_to : ℕ → Port
port_to d = record { perbyte = 1; least = 0; greatest = d }

-- a run of them: the first turns are the first, and in each tick the delays are these
abbrev pub run_of : (ℕ → List Release) → ℕ → (ℕ → ℕ) → ℕ → (ℕ → List Message) → (ℕ → ℕ → List Copy) → (ℕ → ℕ → List (Lane Frame)) → Run
run_of releases send flight receive reach enter turns = record {
  releases = releases;
  first_sub = λ v. 0;
  first_vl = λ e. 0;
  choice = λ t. record {
    send = λ m. send;
    reach = reach t;
    flight = λ h g. flight h;
    enter = enter t;
    turns = turns t;
    receive = λ h g. receive;
  };
}

-- ---- two VLs for one link, and no port: each hands over a packet in tick 0, and the link takes that which it looks at first
abbrev pub pair : Network
pair = network 0 (vl ∷ vl ∷ []) (stream_on 0 ∷ stream_on 1 ∷ []) [] []

abbrev pub message_on : ℕ → Message
message_on s = record { released = 0; place = s; stream = s; size = 10 }

abbrev pub frame_on : ℕ → Frame
frame_on v = record { packet = record { message = message_on v; index = 0; bytes = 84 }; vl = v; born = 0 }

abbrev pub waiting : ℕ → Lane Frame
waiting v = record { name = v; line = frame_on v ∷ [] }

-- both VLs are of end system 0: any other has none to look at
abbrev pub looking_at : List (Lane Frame) → Run
looking_at order = run_of
    (λ t. cond (eqb t 0) (record { stream = 0; size = 10 } ∷ record { stream = 1; size = 10 } ∷ []) []) 0 (λ h. 0) 0
    (λ t. cond (eqb t 0) (message_on 0 ∷ message_on 1 ∷ []) []) (λ t p. []) (λ t e. cond (eqb 0 e) order [])

abbrev pub turn_kept : Run
turn_kept = looking_at (waiting 0 ∷ waiting 1 ∷ [])

abbrev pub turn_passed : Run
turn_passed = looking_at (waiting 1 ∷ waiting 0 ∷ [])

-- what the link sends after tick 0
pub first_0 : ((state pair turn_kept 1).end 0).link ≡ Some (record { job = frame_on 0; ends = 84 })
unfolding state line_ticks on_line
first_0 = refl

pub first_1 : ((state pair turn_passed 1).end 0).link ≡ Some (record { job = frame_on 1; ends = 84 })
unfolding state line_ticks on_line
first_1 = refl

-- ---- one message of 10 bytes over one port, 84 ticks on each link: it is complete in tick 168, and not before
abbrev pub small : Network
small = network 0 (vl ∷ []) (stream_on 0 ∷ []) (port_to 0 ∷ []) (record { vl = 0; port = 0; parent = None } ∷ [])

-- its packet, handed over in tick t
abbrev pub packet : Packet
packet = record { message = message_of 0 0; index = 0; bytes = 84 }

abbrev pub frame : ℕ → Frame
frame t = record { packet = packet; vl = 0; born = t }

-- the only VL, with the frame in the tick of its hand-over
abbrev pub lane_in : ℕ → ℕ → ℕ → List (Lane Frame)
lane_in u t e = cond (eqb e 0) (record { name = 0; line = cond (eqb t u) (frame u ∷ []) [] } ∷ []) []

abbrev pub one_release : ℕ → List Release
one_release t = cond (eqb t 0) (release ∷ []) []

abbrev pub at_once : Run
at_once = run_of one_release 0 (λ h. 0) 0 (λ t. cond (eqb t 0) (message_of 0 0 ∷ []) [])
    (λ t p. cond (eqb t 84) (record { frame = frame 0; hop = 0 } ∷ []) []) (lane_in 0)

-- a packet is handed over in the tick in which it comes to its queue
pub in_its_tick : (hands small 0 (at_once.choice 0) (state small at_once 0) 0).got ≡ Some packet
unfolding state line_ticks on_line passing packet_lines cut packets number_or0 least_from carried most_fragment full_fragment udp_header fragment_line least_line line_overhead least_frame
in_its_tick = refl

pub there : complete small 168 (at_once.choice 168) (state small at_once 168) 0 ≡ frame 0 ∷ []
unfolding state line_ticks on_line leaf is_parent is_some least_from
there = refl

pub not_there : complete small 167 (at_once.choice 167) (state small at_once 167) 0 ≡ []
unfolding state line_ticks on_line leaf is_parent is_some least_from
not_there = refl

-- ---- one message of 10 bytes: send delay 2, end system to 86, switch 1, port 0 to 171, switch 2, port 1 to 257, receive 3; what lands is
-- what the run says enters
abbrev pub two : Network
two = network 9 (vl ∷ []) (stream_on 0 ∷ []) (port_to 9 ∷ port_to 9 ∷ [])
    (record { vl = 0; port = 0; parent = None } ∷ record { vl = 0; port = 1; parent = Some 0 } ∷ [])

-- with a switch delay of d before port 0
abbrev pub over_two : ℕ → Run
over_two d = run_of one_release 2 (λ h. d + h) 3 (λ t. cond (eqb t 2) (message_of 0 0 ∷ []) [])
    (λ t p. cond (eqb t 87 && eqb p 0) (record { frame = frame 2; hop = 0 } ∷ [])
    (cond (eqb t 173 && eqb p 1) (record { frame = frame 2; hop = 1 } ∷ []) [])) (lane_in 2)

abbrev pub r : Run
r = over_two 1

pub queue_lands : landed 2 (all_sending two 2 (released r 2) (r.choice 2) (state two r 2)) ≡ message_of 0 0 ∷ []
unfolding state line_ticks on_line
queue_lands = refl

pub port_0_lands : reaches two 87 (r.choice 87) (state two r 87) 0 ≡ record { frame = frame 2; hop = 0 } ∷ []
unfolding state line_ticks on_line hops_on passing vls_of packet_lines cut packets number_or0 least_from carried most_fragment full_fragment udp_header fragment_line least_line line_overhead least_frame
port_0_lands = refl

-- hop 0 is a parent: what leaves it goes to hop 1, and to no destination
pub port_1_lands : reaches two 173 (r.choice 173) (state two r 173) 1 ≡ record { frame = frame 2; hop = 1 } ∷ []
unfolding state line_ticks on_line hops_on passing
port_1_lands = refl

pub delivered_by_hop_1 : delivered two 257 (r.choice 257) (state two r 257) 1 ≡ frame 2 ∷ []
unfolding state line_ticks on_line
delivered_by_hop_1 = refl

-- a switch delay of 10 ticks, where 9 is the greatest, is not permitted
pub not_10 : PermittedBelow two (over_two 10) 87 → ⊥
unfolding state line_ticks on_line passing vls_of packet_lines cut packets number_or0 least_from carried most_fragment full_fragment udp_header fragment_line least_line line_overhead least_frame
not_10 p = omega (arith, p.flight_greatest 86 0 (frame 2) (omega arith) (omega arith) (Memᴰ.head refl))

-- ---- one VL with two hops without parent: a frame that its end system has sent whole goes to both
abbrev pub fork : Network
fork = network 0 (vl ∷ []) (stream_on 0 ∷ []) (port_to 0 ∷ port_to 0 ∷ [])
    (record { vl = 0; port = 0; parent = None } ∷ record { vl = 0; port = 1; parent = None } ∷ [])

abbrev pub sending : State
sending = record {
  sending = [];
  queue = λ v. record { lanes = []; next = 0 };
  end = λ e. record { lanes = []; link = Some (record { job = frame 0; ends = 84 }) };
  flying = λ h. [];
  port = λ p. Fifo.empty;
  receiving = λ h. [];
}

pub both_hops : (sets_out fork 84 (at_once.choice 84) sending 0 ≡ frame 0 ∷ []) × (sets_out fork 84 (at_once.choice 84) sending 1 ≡ frame 0 ∷ [])
both_hops = (refl, refl)

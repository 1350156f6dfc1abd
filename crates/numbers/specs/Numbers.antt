-- 01, Numbers to hold against: "Marked * are proved of the rules themselves, as one checked list under a single statement."
-- Each is said of 01's own rule: 1 and 2 of the frame rule; of small networks 3 to 7 of the queue figure and answer 9, 8 of the port, 9 of
-- answer 7. Assumes nothing.
use Rattle.std.specs.Prelude.{ℕ, ◌-◌, false, List, [], ◌∷◌, map, ◌≡◌, length, Option, None, Some}
use Rattle.base.specs.Said.{Said, accepted, refused, ruled}
use Rattle.base.specs.Tabulate.{tabulate}
use Rattle.base.specs.Tests.{number_or0}
use Rattle.frame.specs.declared.Speed.TheVariants.{Mbit100}
use Rattle.frame.specs.Frame.{line_of}
use Rattle.frame.specs.Packets.{udp_header, carried}
use Rattle.frame.specs.Offered.{packets_of}
use Rattle.frame.specs.Tick.{per_byte, in_force}
use Rattle.network.specs.declared.Stream.{Stream}
use Rattle.network.specs.Network.{Network}
use Rattle.rows.specs.Links.{send_sum}
use Rattle.rows.specs.Queues.{queue_length, queue_figure}
use Rattle.rows.specs.Ports.{port_length, port_figure}
use Rattle.rows.specs.Refusals.{late_system, endless_vl}

-- ---- small networks
-- one end system and one port, both at 100 Mbit/s, every delay 0; a VL for each Lmax, of BAG 12,500 with n sub-links and one hop; these
-- streams
abbrev pub small : ℕ → List ℕ → List Stream → Network
small n lmaxes streams = record {
  tick = in_force;
  send_least = 0;
  send_greatest = 0;
  receive_least = 0;
  receive_greatest = 0;
  systems = record { perbyte = per_byte Mbit100 } ∷ [];
  vls = map (λ lmax. record { system = 0; gap = 12500; sublinks = n; lmax = lmax }) lmaxes;
  streams = streams;
  ports = record { perbyte = per_byte Mbit100; least = 0; greatest = 0 } ∷ [];
  hops = tabulate (λ v. record { vl = v; port = 0; parent = None }) (length lmaxes);
}

-- for 3 to 7: one VL, of Lmax 1,518, with n sub-links
abbrev pub queue_net : ℕ → List Stream → Network
queue_net n streams = small n (1518 ∷ []) streams

-- a stream on its first sub-link, by p, T and J: a message is the longest of p packets
abbrev pub stream : ℕ → ℕ → ℕ → Stream
stream p t j =
    let size = carried p 1518 - udp_header in
    record { vl = 0; sublink = 0; sampling = false; size = size; least = size; period = t; jitter = j }

-- for 8: one hop, of cost 20 + 1,518
abbrev pub port_net : Network
port_net = small 1 (1518 ∷ []) []

-- for 9: three VLs of line size 20 + 1,518, and one of 20 + lmax
abbrev pub send_net : ℕ → Network
send_net lmax = small 1 (1518 ∷ 1518 ∷ 1518 ∷ lmax ∷ []) []

-- ---- what the rules say of a network
-- a refusal by number that stands for a row of a section
abbrev pub refused_at : ℕ → ℕ → ℕ → Said
refused_at number section row = record { number = number; section = section; row = row; values = [] }

-- the refusal where there is a row for it, and else the values
unfoldable pub unless : ℕ → ℕ → Option ℕ → List ℕ → Said
unless number section None values = accepted values
unless number section (Some row) values = refused_at number section row

-- answer 9 ("2, VL"), or L and queue of sub-link k of VL v
unfoldable pub queue_says : Network → ℕ → ℕ → Said
queue_says net v k = unless 9 2 (endless_vl net) (number_or0 (queue_length net v k) ∷ queue_figure net v k ∷ [])

-- answer 10 ("4, port"), or L and figure of port p, where the hops have these jitters
unfoldable pub port_says : Network → (ℕ → ℕ) → ℕ → Said
port_says net jitter p = elim (port_length net jitter p) [
  | None ↦ refused_at 10 4 p
  | Some l ↦ accepted (l ∷ port_figure net jitter p ∷ [])
]

-- answer 7 ("1, end system"), or that it is passed
unfoldable pub send_says : Network → Said
send_says net = unless 7 1 (late_system net) []

-- ---- the list
-- what a rule says, beside what 01 says
pub record Number : Type 0 where
  pub given : Said
  pub wanted : Said

abbrev pub holds : Said → Said → Number
holds given wanted = record { given = given; wanted = wanted }

-- a queue and a port are given with L, also where 01 does not name it (4, 7 and 8)
unfoldable pub numbers : List Number
numbers =
    -- 1. payload 17: 84 bytes; 18: 85; 1,471: 1,538; 0 and 1,472 refused
    holds (ruled (line_of 17)) (accepted (84 ∷ []))
    ∷ holds (ruled (line_of 18)) (accepted (85 ∷ []))
    ∷ holds (ruled (line_of 1471)) (accepted (1538 ∷ []))
    ∷ holds (ruled (line_of 0)) (refused 4 (0 ∷ []))
    ∷ holds (ruled (line_of 1472)) (refused 4 (0 ∷ []))
    -- 2. M 1,471 at Lmax 1,518: 1 packet; 1,472: 2; M 100 at Lmax 64: 5, as M-103 corrects it
    ∷ holds (ruled (packets_of 1471 1518)) (accepted (1 ∷ []))
    ∷ holds (ruled (packets_of 1472 1518)) (accepted (2 ∷ []))
    ∷ holds (ruled (packets_of 100 64)) (accepted (5 ∷ []))
    -- 3. BAG 12,500, one stream p 3, T 50,000, J 0: L 37,500, queue 25,000
    ∷ holds (queue_says (queue_net 1 (stream 3 50000 0 ∷ [])) 0 0) (accepted (37500 ∷ 25000 ∷ []))
    -- 4. p 1, T 25,000, J 25,000: queue 12,500; J 24,999: 12,499
    ∷ holds (queue_says (queue_net 1 (stream 1 25000 25000 ∷ [])) 0 0) (accepted (25000 ∷ 12500 ∷ []))
    ∷ holds (queue_says (queue_net 1 (stream 1 25000 24999 ∷ [])) 0 0) (accepted (25000 ∷ 12499 ∷ []))
    -- 5. p 1, T 25,000 with p 2, T 50,000, both J 0: L 50,000, queue 25,000
    ∷ holds (queue_says (queue_net 1 (stream 1 25000 0 ∷ stream 2 50000 0 ∷ [])) 0 0) (accepted (50000 ∷ 25000 ∷ []))
    -- 6. the same with J 1 on the first: refused 9
    ∷ holds (queue_says (queue_net 1 (stream 1 25000 1 ∷ stream 2 50000 0 ∷ [])) 0 0) (refused_at 9 2 0)
    -- 7. two sub-links, p 1, T 50,000, J 0: queue 12,500
    ∷ holds (queue_says (queue_net 2 (stream 1 50000 0 ∷ [])) 0 0) (accepted (25000 ∷ 12500 ∷ []))
    -- 8. port, one flow of cost 1,538, T 12,500, J 12,500: figure 3,076; J 12,499: 3,075
    ∷ holds (port_says port_net (λ h. 12500) 0) (accepted (3076 ∷ 3076 ∷ []))
    ∷ holds (port_says port_net (λ h. 12499) 0) (accepted (3076 ∷ 3075 ∷ []))
    -- 9. line sizes adding to 5,750 on a 100 Mbit/s end system pass 7; 5,751 refused
    ∷ holds (accepted (send_sum (send_net 1116) 0 ∷ [])) (accepted (5750 ∷ []))
    ∷ holds (send_says (send_net 1116)) (accepted [])
    ∷ holds (accepted (send_sum (send_net 1117) 0 ∷ [])) (accepted (5751 ∷ []))
    ∷ holds (send_says (send_net 1117)) (refused_at 7 1 0)
    ∷ []

-- each rule says what 01 says
abbrev pub NumbersHold : Type 0
NumbersHold = map (λ n. n.given) numbers ≡ map (λ n. n.wanted) numbers

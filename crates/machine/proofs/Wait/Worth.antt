-- What the releases that fill a queue bring to it: packets that are worth the station's figure and d, none before the greatest send delay and none later than d after it; so few hand-overs come so soon, and all come in the end.
-- Assumes nothing.
use Prim.Native.Nat.{ℕ, zero, suc, ◌+◌, ◌*◌, ◌-◌, ◌/◌, ◌≤◌, ◌<◌}
use mathlib.Core.Bool.{◌&&◌}
use mathlib.Core.List.{List, map, Memᴰ}
use mathlib.Core.Path.{◌≡◌, refl, sym, ap, ◌∙◌, subst, fun_ext}
use native.Mathlib.Nat.{le_refl, le_trans, div-lt_iff_lt-mul, mul-pos}
use native.Mathlib.Omega.{arith}
use lib.Dec.{eqb, T}
use lib.ListN.{length}
use Rattle.frame.specs.Packets.{packets, packet_lines}
use Rattle.network.specs.Network.{Network, vl_at, stream_at}
use Rattle.network.specs.Views.{streams_on}
use Rattle.rows.specs.Queues.{queue_flow, queue_flows}
use Rattle.station.specs.Station.{brought}
use Rattle.machine.specs.Sum.{weigh}
use Rattle.machine.specs.Pool.{landed}
use Rattle.machine.specs.Queue.{Queue}
use Rattle.machine.specs.Messages.{Release, Message, Packet, packets_in}
use Rattle.machine.specs.Machine.{Run, released, start, state, all_sending}
use Rattle.machine.specs.Permitted.{Permitted}
use Rattle.machine.specs.Sound.{Sound}
use Rattle.machine.proofs.Lists.Orders.{perm_weigh, none_in}
use Rattle.machine.proofs.Lists.Cases.{both_eq, eq_both}
use Rattle.machine.proofs.Stage.Parts.{queue, handed}
use Rattle.machine.proofs.Lists.Sums.{upto, upto_mono, grows, weigh_part, weigh_none, upto_none}
use Rattle.machine.proofs.Stage.Flows.{most_pos, brought_is}
use Rattle.machine.proofs.Lists.Lanes.{flat, names}
use Rattle.machine.proofs.Stage.QueueSteps.{tally_of, hand_count, origin, queue_kept}
use Rattle.machine.proofs.Stage.Delay.{all_landed}
use Rattle.machine.proofs.Stage.Envelope.{upto_split}
use Rattle.machine.proofs.Stage.Select.{is_passing, was_passing, chosen_all}
use Rattle.machine.proofs.Network.Told.{arrival, was_message, weigh_messages, length_lines, length_number}
use Rattle.machine.proofs.Network.Trace.{ch, st, news}
use Rattle.machine.proofs.Network.Windows.{queue_station, Windows}
use Rattle.machine.proofs.Network.Arrivals.{gap_in_cost, test, lane_weight, flow_cost, reach_at, reach_delay}
use Rattle.machine.proofs.Network.Queues.{Origin, brought_facts, empty₀, named₀, left_due}
use Rattle.machine.proofs.Wait.Critical.{all_brought}
use Rattle.machine.proofs.Wait.Fill.{Aim, tests, ns, n, ρ, rel, fill, send, filled, released_by_lem, arrives, known}

module _ (net : Network) (sound : Sound net) (win : Windows net) (aim : Aim net) where
  open aim use {vl as v, row as hv, one_sub_link as one, stream as s₁, stream_row_lem as on, on_vl as of, span as d}

  abbrev pub r : Run
  r = (filled net sound aim).run

  abbrev pub per : Permitted net r
  per = (filled net sound aim).permitted

  pub rels_are : (t : ℕ) → r.releases t ≡ fill net sound aim t
  rels_are t = ap (λ (f : ℕ → List Release). f t) (filled net sound aim).releases_are

  pub send_is : (t : ℕ) (m : Message) → (ch net r t).send m ≡ send net sound aim t m
  send_is t m = ap (λ (f : Message → ℕ). f m) ((filled net sound aim).send_is t)

  abbrev nb : ℕ
  nb = (vl_at net v).sublinks * (vl_at net v).gap

  nb_is : nb ≡ (vl_at net v).gap
  nb_is = ap (λ (z : ℕ). z * (vl_at net v).gap) one ∙ (omega arith)

  abbrev pub last : ℕ
  last = net.send_greatest + d

  -- ---- each message reaches its queue from the greatest send delay to d after it
  record Sent (t : ℕ) (m : Message) : Type 0 where
    from : net.send_greatest ≤ t + (ch net r t).send m
    by_last : t + (ch net r t).send m ≤ last
    here : T (test net v 0 m)

  sent : (t : ℕ) (m : Message) → Memᴰ m (released r t) → Sent t m
  sent t m i =
      let a = was_message t 0 (r.releases t) m i in
      let w = known net sound aim t a.release (subst (λ (l : List Release). Memᴰ a.release l) (rels_are t) a.there) in
      let e : w.s ≡ m.stream = ap (λ (z : Release). z.stream) w.is ∙ a.stream in
      let u = released_by_lem net sound aim w.s w.k w.stream w.number in
      record {
        from = omega (arith, send_is t m, arrives net sound aim t m);
        by_last = omega (arith, send_is t m, arrives net sound aim t m, u, w.now);
        here = subst (λ (z : ℕ). T (eqb (stream_at net z).vl v && eqb (stream_at net z).sublink 0)) e w.passes;
      }

  pub reach_time : (t : ℕ) (m : Message) → Memᴰ m (ch net r t).reach → (net.send_greatest ≤ t) × (t ≤ last) × T (test net v 0 m)
  reach_time t m i =
      let a = reach_at net sound r per t m i in
      let b = (reach_delay net sound r per).backward t m i in
      let g : m.released ≡ b.at = (was_message b.at 0 (r.releases b.at) m b.there).released in
      let w = sent b.at m b.there in
      let e : arrival r m ≡ b.at + (ch net r b.at).send m = ap (λ (u : ℕ). u + (ch net r u).send m) g in
      (omega (arith, a.0, e, w.from), omega (arith, a.0, e, w.by_last), w.here)

  -- ---- the packets that come are worth what the station's flows bring
  abbrev cost : Message → ℕ
  cost m = length (packets_in net m) * nb

  abbrev pub came : ℕ → ℕ
  came t = length (news net r v t 0)

  came_weight : (t : ℕ) → came t * nb ≡ weigh cost (ch net r t).reach
  came_weight t = lane_weight net v 0 nb (ch net r t).reach ∙ ap (weigh cost) (chosen_all (test net v 0) (ch net r t).reach (λ m i. (reach_time t m i).2))

  upto_mul : (f : ℕ → ℕ) (c t : ℕ) → upto f t * c ≡ upto (λ u. f u * c) t
  unfolding upto
  upto_mul f c zero = omega arith
  upto_mul f c (suc t) = omega (arith, upto_mul f c t)

  abbrev lands : ℕ → List Message
  lands t = landed t (all_sending net t (released r t) (ch net r t) (st net r t))

  landed_weight : (t : ℕ) → weigh cost (ch net r t).reach ≡ weigh cost (lands t)
  landed_weight t = sym (perm_weigh cost ((per (suc t)).reach t (le_refl (suc t))))

  abbrev weight : Release → ℕ
  weight x = length (packet_lines x.size (vl_at net (stream_at net x.stream).vl).lmax) * nb

  released_weight : (t : ℕ) → weigh cost (released r t) ≡ weigh weight (fill net sound aim t)
  released_weight t =
      weigh_messages cost weight
      (λ u i x. ap (λ (k : ℕ). k * nb) (length_number (record { released = u; place = i; stream = x.stream; size = x.size }) 0 (packet_lines x.size (vl_at net (stream_at net x.stream).vl).lmax)))
      t 0 (r.releases t)
      ∙ ap (weigh weight) (rels_are t)

  same_cost : (s k : ℕ) → Memᴰ s (ns net sound aim) → weight (rel net sound aim s k) ≡ (queue_flow net s).cost
  same_cost s k m =
      let w = was_passing (tests net sound aim) (length net.streams) s m in
      let e : (stream_at net s).vl ≡ v = (both_eq (stream_at net s).vl v (stream_at net s).sublink 0 w.1).0 in
      let hw = sound.references.stream_vl s w.0 in
      ap (λ (z : ℕ). z * nb) (length_lines (vl_at net (stream_at net s).vl).lmax (stream_at net s).size (sound.lmax_least (stream_at net s).vl hw) (omega (arith, sound.least_size s w.0, sound.size s w.0)))
      ∙ ap (λ (z : ℕ). packets (stream_at net s).size (vl_at net (stream_at net s).vl).lmax * ((vl_at net z).sublinks * (vl_at net z).gap)) (sym e)
      ∙ sym (flow_cost net s)

  -- P packets come
  abbrev pub P : ℕ
  P = upto came (suc last)

  flows_are : brought (map (queue_flow net) (ns net sound aim)) d ≡ queue_station net v 0 + d
  unfolding queue_flows streams_on
  flows_are = aim.attains

  worth : P * nb ≡ queue_station net v 0 + d
  unfolding fill state
  worth =
      upto_mul came nb (suc last)
      ∙ ap (λ (f : ℕ → ℕ). upto f (suc last)) (fun_ext (λ t. came_weight t ∙ landed_weight t))
      ∙ all_landed (λ u. (ch net r u).send) (released r) (λ t. (st net r t).sending) refl (λ t. refl) cost (suc last)
      (λ u m i. omega (arith, (sent u m i).by_last))
      ∙ ap (λ (f : ℕ → ℕ). upto f (suc last)) (fun_ext released_weight)
      ∙ all_brought weight (rel net sound aim) (ρ net sound aim) (n net sound aim) (λ s. (queue_flow net s).cost) (suc last)
      (ns net sound aim)
      (λ s k m i. let w = was_passing (tests net sound aim) (length net.streams) s m in
      omega (arith, released_by_lem net sound aim s k w.0 i, sound.send))
      same_cost
      ∙ sym (brought_is (queue_flow net) d (ns net sound aim))
      ∙ flows_are

  pub worth_gap : P * (vl_at net v).gap ≡ queue_station net v 0 + d
  worth_gap = ap (λ (z : ℕ). P * z) (sym nb_is) ∙ worth

  pub pos : 0 < (vl_at net v).gap
  pos = sound.gap v hv

  -- there is a stream, so P is not 0
  pub listed : Memᴰ s₁ (ns net sound aim)
  listed = is_passing (tests net sound aim) (length net.streams) s₁ on
      (eq_both (stream_at net s₁).vl v (stream_at net s₁).sublink 0 of
      (omega (arith, sound.references.stream_sub_link s₁ on, ap (λ (z : ℕ). (vl_at net z).sublinks) of, one)))

  pub P_pos : 0 < P
  P_pos = go P worth_gap
    where
      go : (q : ℕ) → q * (vl_at net v).gap ≡ queue_station net v 0 + d → 0 < q
      go zero e =
          let part = weigh_part (λ s. n net sound aim s * (queue_flow net s).cost) s₁ (ns net sound aim) listed in
          let c : 0 < (queue_flow net s₁).cost = omega (arith, gap_in_cost net sound s₁ on, ap (λ (z : ℕ). (vl_at net z).gap) of, pos) in
          absurd (omega (arith, flows_are, brought_is (queue_flow net) d (ns net sound aim), mul-pos (most_pos (queue_flow net s₁) d) c))
      go (suc q) e = omega arith

  -- ---- hand-overs
  abbrev pub s₀ : Queue Packet
  s₀ = (start net r).queue v

  abbrev pub c : ℕ → ℕ
  c t = tally_of (handed (vl_at net v).gap s₀ (news net r v) t)

  -- what a tick brings to the lanes
  abbrev pub comes : ℕ → ℕ
  comes u = weigh (λ i. length (news net r v u i)) (names s₀.lanes)

  pub conserved : (t : ℕ) → upto c t + length (flat (queue (vl_at net v).gap s₀ (news net r v) t).lanes) ≡ upto comes t
  conserved = queue_kept (vl_at net v).gap s₀ (news net r v) (empty₀ net sound r per v)

  -- none before the greatest send delay
  early : upto c net.send_greatest ≡ zero
  early = omega (
    arith,
    conserved net.send_greatest,
    upto_none comes net.send_greatest (λ t h. weigh_none (λ i. length (news net r v t i)) (names s₀.lanes)
        (λ i j. ap length (none_in (news net r v t i) (λ x k.
        let b = brought_facts net sound r per v t i x k in
        omega (arith, b.1, (reach_time (arrival r x.message) x.message b.0.reached).0))))),
  )

  abbrev pub goal : ℕ
  goal = net.send_greatest + (P - 1) * (vl_at net v).gap

  -- the P-th is no earlier than P − 1 gaps after it
  pub few : upto c goal < P
  few = go (P - 1) refl
    where
      go : (q : ℕ) → P - 1 ≡ q → upto c goal < P
      go zero e = let g : goal ≡ net.send_greatest = omega (arith, ap (λ (z : ℕ). z * (vl_at net v).gap) e) in omega (arith, ap (upto c) g, early, P_pos)
      go (suc q) e =
          let b = (vl_at net v).gap in
          let k : ℕ = suc q * b - 1 in
          let i₁ : goal ≡ suc (net.send_greatest + k) = omega (arith, ap (λ (z : ℕ). z * b) e, pos) in
          let i₂ = upto_split c net.send_greatest k in
          let i₃ = hand_count b s₀ (news net r v) refl pos net.send_greatest k in
          let i₄ : k / b < suc q = (div-lt_iff_lt-mul {k = b} {x = k} {y = suc q} pos).1 (omega (arith, pos)) in
          omega (arith, ap (upto c) i₁, i₂, i₃, i₄, early, e)

  -- all are handed over in the end
  abbrev pub far : ℕ
  far = suc (last + queue_station net v 0)

  come : P ≤ upto comes (suc far)
  come = le_trans (grows came (suc last) (suc far) (omega arith)) (upto_mono came comes
      (λ u. weigh_part (λ i. length (news net r v u i)) 0 (names s₀.lanes) (named₀ net sound r per v 0 (omega arith))) (suc far))

  facts : (t i : ℕ) (x : Packet) → Memᴰ x (news net r v t i) → Origin net sound r per v x
  facts t i x k = (brought_facts net sound r per v t i x k).0

  in_lane : (x : Packet) → Origin net sound r per v x → (stream_at net x.message.stream).sublink ≡ 0
  in_lane x o = omega (arith, sound.references.stream_sub_link x.message.stream o.message.stream, ap (λ (z : ℕ). (vl_at net z).sublinks) o.vl, one)

  gone : (x : Packet) → Memᴰ x (flat (queue (vl_at net v).gap s₀ (news net r v) (suc far)).lanes) → ⊥
  gone x w =
      let l = left_due net sound r per v win hv far x w in
      let o = origin (vl_at net v).gap s₀ (news net r v) (empty₀ net sound r per v) (Origin net sound r per v) facts (suc far) x w in
      omega (arith, l, (reach_time (arrival r x.message) x.message o.reached).1, ap (queue_station net v) (in_lane x o))

  pub all_gone : P ≤ upto c (suc far)
  all_gone =
      let none_left = ap length (none_in (flat (queue (vl_at net v).gap s₀ (news net r v) (suc far)).lanes) gone) in
      omega (arith, conserved (suc far), come)

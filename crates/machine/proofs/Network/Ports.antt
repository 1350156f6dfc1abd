-- From the hand-over of a frame to its arrival at each port, and on to its destinations. By induction on the port number: what reaches a port comes from the end system or from a lower port.
-- Assumes nothing.
use Prim.Native.Nat.{ℕ, zero, suc, ◌+◌, ◌-◌, ◌≤◌, ◌<◌}
use mathlib.Core.Bool.{Bool, true, cond}
use mathlib.Core.List.Permᴰ
use mathlib.Core.List.{List, [], Memᴰ}
use Rattle.std.specs.Prelude.{Option, None, Some}
use mathlib.Core.Path.{◌≡◌, refl, sym, ap, ◌∙◌, subst}
use native.Mathlib.Nat.{le_refl, le_of_eq, add-zero}
use native.Mathlib.Omega.{arith}
use lib.Dec.{eqb, eqb_refl}
use lib.ListN.{length}
use Rattle.frame.specs.Frame.{least_line, largest_line}
use Rattle.network.specs.Network.{Network, vl_at, port_at, hop_at, parent_at}
use Rattle.network.specs.Views.{hops_on, leaf}
use Rattle.network.specs.Link.{port_link, least_ticks}
use Rattle.network.proofs.LinkLaws.{ticks_some, ticks_least, ticks_most}
use Rattle.network.proofs.PortLaws.{on_port_lem}
use Rattle.rows.specs.Links.{hop_most, hop_line}
use Rattle.rows.specs.Ports.{hop_flow, port_flows, port_figure, jitter_of, figure_of}
use Rattle.rows.proofs.PortLaws.{figure_of_port}
use Rattle.station.specs.Station.{Flow, most, brought}
use Rattle.machine.specs.Sum.{span, count, weigh}
use Rattle.machine.specs.Lists.{chosen}
use Rattle.machine.specs.Messages.{Copy, copy, port_cost}
use Rattle.machine.specs.Machine.{Run, sets_from, port_arrived, state}
use Rattle.machine.specs.Permitted.{Permitted}
use Rattle.machine.specs.Sound.{Sound}
use Rattle.machine.proofs.Stage.Parts.{fifo_out}
use Rattle.machine.proofs.Stage.LinkLaws.{free}
use Rattle.machine.proofs.Stage.FifoLaws.{fifo_delay, work_within}
use Rattle.machine.proofs.Stage.Flows.{Covered, works_bound}
use Rattle.machine.proofs.Stage.Delay.{Delay, ◌then◌, reordered, on_the_way, delay_chosen, delay_same, looser}
use Rattle.machine.proofs.Stage.Envelope.{envelope}
use Rattle.machine.proofs.Stage.Select.{was_chosen, is_chosen, chosen_any, hops_at}
use Rattle.machine.proofs.Lists.Orders.{perm_mem, was_gathered}
use Rattle.machine.proofs.Network.Trace.{ch, st, port_is, hand, source, lands_at, into, left, left_is, done}
use Rattle.machine.proofs.Network.Windows.{Windows, soon_by, late_by}
use Rattle.machine.proofs.Network.Queues.{hand_fact, hand_rate}
use Rattle.machine.proofs.Network.Ends.{end_delay}

module _ (net : Network) (sound : Sound net) (r : Run) (per : Permitted net r) (win : Windows net) where
  abbrev port_of : ℕ → ℕ
  port_of h = (hop_at net h).port

  -- from what sets out to a hop to what reaches its port of it
  flight : (h : ℕ) → h < length net.hops → Delay (source net r h) (into net r h) (port_at net (port_of h)).least (port_at net (port_of h)).greatest
  unfolding hops_on state
  flight h hh = looser (omega arith) (omega arith)
      (on_the_way (λ u. (ch net r u).flight h) (source net r h) (λ t. (st net r t).flying h) refl (λ t. refl)
      (port_at net (port_of h)).least (port_at net (port_of h)).greatest
      (λ t f m. let p = per (suc t) in let l = le_refl (suc t) in (p.flight_least t h f l hh m, p.flight_greatest t h f l hh m))
      then delay_same (λ t. hops_at h (λ g. eqb (port_of g) (port_of h)) (λ g. lands_at net r g t) (eqb_refl (port_of h)) (length net.hops) hh) (λ t. refl)
      (delay_chosen (λ c. eqb c.hop h) (λ c. c.frame) (reordered (λ t. (per (suc t)).enter t (port_of h) (le_refl (suc t))))))

  -- all that port p holds after the arrivals of tick t, before its start, is sent whole within its figure
  abbrev pub HeldWithin : ℕ → ℕ → Type 0
  HeldWithin p t =
      let q = port_arrived net t (ch net r t) (st net r t) p in
      free (port_cost net p) t q.link + weigh (port_cost net p) q.line ≤ t + port_figure net (jitter_of net) p

  -- ---- one port, if what reaches it keeps its times
  module _ (p : ℕ) (arrive : (h : ℕ) → h < length net.hops → port_of h ≡ p → Delay (hand net r (hop_at net h).vl) (into net r h) (win.soon h) (win.late h)) where
    abbrev ns : List ℕ
    ns = hops_on net p

    abbrev ins : ℕ → List Copy
    ins t = (ch net r t).enter p

    record Known (t : ℕ) (c : Copy) : Type 0 where
      hop : c.hop < length net.hops
      here : port_of c.hop ≡ p
      there : Memᴰ c.frame (into net r c.hop t)
      listed : Memᴰ c.hop ns
      bytes_least : least_line ≤ c.frame.packet.bytes
      bytes_most : c.frame.packet.bytes ≤ largest_line (vl_at net (hop_at net c.hop).vl).lmax

    known : (t : ℕ) (c : Copy) → Memᴰ c (ins t) → Known t c
    known t c m =
        let w = was_gathered (λ h. chosen (λ f. true) (copy h) (lands_at net r h t)) ns c
        (perm_mem (Permᴰ.symm ((per (suc t)).enter t p (le_refl (suc t)))) m) in
        let q = on_port_lem net p w.0 w.1 in
        let o = was_chosen (λ f. true) (copy w.0) (lands_at net r w.0 t) c w.2 in
        let e : w.0 ≡ c.hop = ap (λ (z : Copy). z.hop) o.is in
        let hop' : c.hop < length net.hops = subst (λ (n : ℕ). n < length net.hops) e q.0 in
        let here' : port_of c.hop ≡ p = ap port_of (sym e) ∙ q.1 in
        let there' : Memᴰ c.frame (into net r c.hop t) =
        is_chosen (λ z. eqb z.hop c.hop) (λ z. z.frame) ((ch net r t).enter (port_of c.hop)) c (subst (λ (n : ℕ). Memᴰ c ((ch net r t).enter n)) (sym here') m) (eqb_refl c.hop) in
        let b = (arrive c.hop hop' here').backward t c.frame there' in
        let f = (hand_fact net sound r per (hop_at net c.hop).vl win (sound.references.hop_vl c.hop hop') b.at c.frame b.there).1 in
        record { hop = hop'; here = here'; there = there'; listed = subst (λ (n : ℕ). Memᴰ n ns) e w.1; bytes_least = f.bytes_least; bytes_most = f.bytes_most }

    abbrev lo : ℕ
    lo = least_ticks (port_link net p)

    costs : (t : ℕ) (c : Copy) → Memᴰ c (ins t) → (0 < port_cost net p c) × (lo ≤ port_cost net p c)
    costs t c m =
        let k = known t c m in (
          ticks_some (port_link net p) (subst (λ (n : ℕ). 0 < (port_at net n).perbyte) k.here (sound.port_speed (port_of c.hop) (sound.references.hop_port c.hop k.hop))) c.frame.packet.bytes k.bytes_least,
          ticks_least (port_link net p) c.frame.packet.bytes k.bytes_least,
        )

    covered : (t : ℕ) → Covered (port_cost net p) (λ c. c.hop) (hop_flow net (jitter_of net)) ns (ins t)
    unfolding hop_flow hop_most
    covered t c m =
        let k = known t c m in
        let lmax = (vl_at net (hop_at net c.hop).vl).lmax in
        (k.listed, rw k.here (ticks_most (port_link net p) c.frame.packet.bytes lmax k.bytes_most))

    hop_rate : (h : ℕ) → h < length net.hops → port_of h ≡ p → (x d : ℕ)
        → span (λ t. count (λ c. eqb c.hop h) (ins t)) x d ≤ most (hop_flow net (jitter_of net) h) d
    unfolding most hop_flow
    hop_rate h hh e x d =
        let v = (hop_at net h).vl in
        let hv = sound.references.hop_vl h hh in
        let gap : Flow = record { period = (vl_at net v).gap; jitter = 0; cost = 0 } in
        let wide : 0 + (win.late h - win.soon h) ≡ jitter_of net h = omega (arith, win.spread h hh) in
        let q = envelope (hand net r v) (into net r h) (win.soon h) (win.late h) (arrive h hh e) (λ f. f.born)
        (λ t f m. (hand_fact net sound r per v win hv t f m).0) gap (sound.gap v hv)
        (λ y c. rw (add-zero c) (hand_rate net sound r per v win hv y c)) x d in
        rw (e, wide) at (simp (chosen_any (λ (c : Copy). eqb c.hop h) (λ c. c.frame)) at q)

    bound : (x d : ℕ) → span (λ t. weigh (port_cost net p) (ins t)) x d ≤ brought (port_flows net (jitter_of net) p) d
    unfolding port_flows
    bound = works_bound (port_cost net p) (λ c. c.hop) (hop_flow net (jitter_of net)) ns ins covered
        (λ h m. let i = on_port_lem net p h m in hop_rate h i.0 i.1)

    port_delay : Delay ins (fifo_out (port_cost net p) ins) lo (port_figure net (jitter_of net) p)
    port_delay = fifo_delay (port_cost net p) ins (λ t c m. (costs t c m).0) (brought (port_flows net (jitter_of net) p))
        (port_figure net (jitter_of net) p)
        bound (win.port_covers p) lo (λ t c m. (costs t c m).1)

    held : (t : ℕ) → HeldWithin p t
    held t = rw (port_is net r p t) (work_within (port_cost net p) ins (λ u c m. (costs u c m).0)
        (brought (port_flows net (jitter_of net) p)) (port_figure net (jitter_of net) p) bound (win.port_covers p) t)

    pub hop_delay : (h : ℕ) → port_of h ≡ p → Delay (into net r h) (left net r h) (hop_line net h) (figure_of net h)
    unfolding hop_line
    hop_delay h e = rw (figure_of_port net h) (delay_same (λ t. refl) (λ t. left_is net r h t)
        (delay_chosen (λ c. eqb c.hop h) (λ c. c.frame)
        (subst (λ (q : ℕ). Delay (λ t. (ch net r t).enter q) (fifo_out (port_cost net q) (λ t. (ch net r t).enter q)) (least_ticks (port_link net q)) (port_figure net (jitter_of net) q)) (sym e) port_delay)))

  -- ---- all ports, from the lowest number on
  abbrev Arrive : ℕ → Type 0
  Arrive p = (h : ℕ) → h < length net.hops → port_of h ≡ p → Delay (hand net r (hop_at net h).vl) (into net r h) (win.soon h) (win.late h)

  reach_hop : (p : ℕ) → ((q : ℕ) → q < p → Arrive q) → Arrive p
  reach_hop p below h hh e = go (parent_at net h) refl
    where
      go : (o : Option ℕ) → parent_at net h ≡ o → Delay (hand net r (hop_at net h).vl) (into net r h) (win.soon h) (win.late h)
      go None k =
          let s = win.soon_is h hh ∙ ap (soon_by net win.soon h) k in
          let l = win.late_is h hh ∙ ap (late_by net win.late h) k in
          looser (le_of_eq s) (le_of_eq (sym l))
          (delay_same (λ t. refl) (λ t. ap (sets_from net t (ch net r t) (st net r t) (hop_at net h).vl) (sym k)) (end_delay net sound r per win (hop_at net h).vl (sound.references.hop_vl h hh))
          then flight h hh)
      go (Some g) k =
          let refs = sound.references in
          let s = win.soon_is h hh ∙ ap (soon_by net win.soon h) k in
          let l = win.late_is h hh ∙ ap (late_by net win.late h) k in
          let q = port_of g in
          let lower : q < p = subst (λ (n : ℕ). q < n) e (refs.parent_port h g hh k) in
          let a = below q lower in
          let gh : g < length net.hops = omega (arith, refs.parent_earlier_says h g hh k) in
          looser (le_of_eq s) (le_of_eq (sym l))
          (subst (λ (v : ℕ). Delay (hand net r v) (into net r g) (win.soon g) (win.late g)) (refs.parent_vl h g hh k) (a g gh refl)
          then delay_same (λ t. refl) (λ t. ap (sets_from net t (ch net r t) (st net r t) (hop_at net h).vl) (sym k)) (hop_delay q a g refl)
          then flight h hh)

  all_below : (n p : ℕ) → p < n → Arrive p
  all_below zero p h = absurd (omega arith)
  all_below (suc n) p h = reach_hop p (λ q k. all_below n q (omega arith))

  pub arrive : (p : ℕ) → Arrive p
  arrive p = all_below (suc p) p (le_refl (suc p))

  -- what waits at a port is at most its figure: for 02, M-106 (how much memory a port needs); cited by nobody yet
  pub held_within : (p t : ℕ) → HeldWithin p t
  held_within p t = held p (arrive p) t

  -- ---- destinations
  pub done_delay : (h : ℕ) → h < length net.hops → leaf net h ≡ true
      → Delay (hand net r (hop_at net h).vl) (done net r h) (win.soon h + hop_line net h + net.receive_least) (win.late h + figure_of net h + net.receive_greatest)
  unfolding state
  done_delay h hh k =
      arrive (port_of h) h hh refl
      then hop_delay (port_of h) (arrive (port_of h)) h refl
      then delay_same (λ t. ap (λ (b : Bool). cond b (left net r h t) []) k) (λ t. refl)
      (on_the_way (λ u. (ch net r u).receive h) (λ u. cond (leaf net h) (left net r h u) []) (λ t. (st net r t).receiving h) refl (λ t. refl)
      net.receive_least net.receive_greatest
      (λ t f m. let i = subst (λ (b : Bool). Memᴰ f (cond b (left net r h t) [])) k m in
      let p = per (suc t) in let l = le_refl (suc t) in (p.receive_least_lem t h f l k i, p.receive_greatest_lem t h f l k i)))

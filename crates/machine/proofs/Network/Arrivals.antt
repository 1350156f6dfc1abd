-- From the release of a message to its sub-link queue: it comes after its own send delay, so a stream's jitter is raised by the spread of the delays; and what comes is worth its packets.
-- Assumes nothing.
use Prim.Native.Nat.{ℕ, suc, ◌+◌, ◌*◌, ◌≤◌, ◌<◌}
use mathlib.Core.Bool.{Bool, true, false, cond, ◌&&◌}
use mathlib.Core.List.{List, [], ◌∷◌, ◌++◌, Memᴰ}
use mathlib.Core.List.Permᴰ
use mathlib.Core.Logic.{⊎_elim}
use mathlib.Core.Path.{◌≡◌, refl, sym, ap, subst}
use native.Mathlib.Nat.{mul_assoc, mul-le-mul_right, le_refl}
use native.Mathlib.Omega.{arith}
use lib.Dec.{eqb, T}
use lib.ListN.{length, length-append}
use Rattle.base.specs.Tabulate.{total}
use Rattle.base.proofs.Every.{is_true}
use Rattle.frame.specs.Packets.{packets}
use Rattle.network.specs.Network.{Network, vl_at, stream_at}
use Rattle.rows.specs.Queues.{queue_flow}
use Rattle.station.specs.Station.{most}
use Rattle.machine.specs.Sum.{span, count, weigh, tally}
use Rattle.machine.specs.Lists.{chosen}
use Rattle.machine.specs.Messages.{Message, Packet, vl_of, packets_in, to_lane}
use Rattle.machine.specs.Machine.{Run, released, state}
use Rattle.machine.specs.Permitted.{stream_flow, released_by, Permitted}
use Rattle.machine.specs.Sound.{Sound}
use Rattle.machine.proofs.Lists.Orders.{perm_mem}
use Rattle.machine.proofs.Lists.Cases.{by_test}
use Rattle.machine.proofs.Stage.Delay.{Delay, ◌then◌, reordered, on_the_way, landed_from, delay_chosen, looser}
use Rattle.machine.proofs.Stage.Envelope.{envelope}
use Rattle.machine.proofs.Stage.Select.{chosen_any, was_chosen}
use Rattle.machine.proofs.Network.Told.{packets_pos, arrival, Good, good, weigh_messages}
use Rattle.machine.proofs.Network.Trace.{ch, st}

-- lists that messages bring to a lane
module _ (net : Network) (v i : ℕ) where
  abbrev pub test : Message → Bool
  test m = eqb (vl_of net m) v && eqb (stream_at net m.stream).sublink i

  pub record Brought (ms : List Message) (x : Packet) : Type 0 where
    pub message : Message
    pub there : Memᴰ message ms
    pub passes : T (test message)
    pub is : Memᴰ x (packets_in net message)

  pub was_brought : (ms : List Message) (x : Packet) → Memᴰ x (to_lane net v i ms) → Brought ms x
  was_brought [] x k = absurd (mathlib.Core.List.Memᴰ.not-nil k)
  was_brought (m ∷ ms) x k = ⊎_elim
      (by_test (test m) (λ (l : List Packet). Memᴰ x l → Brought (m ∷ ms) x)
      (λ h j. record { message = m; there = mathlib.Core.List.Memᴰ.head refl; passes = h; is = j }) (λ h j. absurd (mathlib.Core.List.Memᴰ.not-nil j)))
      (λ j. let b = was_brought ms x j in record { message = b.message; there = mathlib.Core.List.Memᴰ.tail b.there; passes = b.passes; is = b.is })
      (mathlib.Core.List.Memᴰ.append_cases (cond (test m) (packets_in net m) []) k)

  pub is_brought : (ms : List Message) (m : Message) (x : Packet) → Memᴰ m ms → T (test m) → Memᴰ x (packets_in net m)
      → Memᴰ x (to_lane net v i ms)
  is_brought [] m x x5 h k = elim x5 [ ]
  is_brought (n ∷ ms) m x (mathlib.Core.List.Memᴰ.head e) h k =
      let there : Memᴰ x (cond (test n) (packets_in net n) []) = rw (← e, is_true (test m) h) k in
      mathlib.Core.List.Memᴰ.append_left (to_lane net v i ms) there
  is_brought (n ∷ ms) m x (mathlib.Core.List.Memᴰ.tail j) h k = mathlib.Core.List.Memᴰ.append_right (cond (test n) (packets_in net n) []) (is_brought ms m x j h k)

  -- the cost of a message to the virtual server that spends c on each packet
  pub lane_weight : (c : ℕ) (ms : List Message) → length (to_lane net v i ms) * c ≡ weigh (λ m. length (packets_in net m) * c) (chosen test (λ m. m) ms)
  unfolding total
  lane_weight c [] = omega arith
  lane_weight c (m ∷ ms) =
      let w : Message → ℕ = λ n. length (packets_in net n) * c in
      let e = lane_weight c ms in
      elim (test m) as
      (λ b. length (cond b (packets_in net m) [] ++ to_lane net v i ms) * c ≡ weigh w (cond b (m ∷ []) [] ++ chosen test (λ n. n) ms))
      [ true ↦ omega (arith, ap (λ (n : ℕ). n * c) (length-append (packets_in net m) (to_lane net v i ms))) | false ↦ e ]

-- the cost of a stream's flow, as packets times what the virtual server spends on each
pub flow_cost : (net : Network) (s : ℕ)
    → (queue_flow net s).cost ≡ packets (stream_at net s).size (vl_at net (stream_at net s).vl).lmax * ((vl_at net (stream_at net s).vl).sublinks * (vl_at net (stream_at net s).vl).gap)
unfolding queue_flow
flow_cost net s = mul_assoc (packets (stream_at net s).size (vl_at net (stream_at net s).vl).lmax) (vl_at net (stream_at net s).vl).sublinks (vl_at net (stream_at net s).vl).gap

-- one message of a stream is at least a packet, and each costs at least a gap
pub gap_in_cost : (net : Network) → Sound net → (s : ℕ) → s < length net.streams
    → (vl_at net (stream_at net s).vl).gap ≤ (queue_flow net s).cost
gap_in_cost net sound s h =
    let v = (stream_at net s).vl in
    let hv = sound.references.stream_vl s h in
    let size : 0 < (stream_at net s).size = omega (arith, sound.least_size s h, sound.size s h) in
    let p = packets_pos (vl_at net v).lmax (stream_at net s).size (sound.lmax_least v hv) size in
    let n : 1 ≤ (vl_at net v).sublinks = omega (arith, sound.references.stream_sub_link s h) in
    let a = mul-le-mul_right (vl_at net v).gap n in
    let b = mul-le-mul_right ((vl_at net v).sublinks * (vl_at net v).gap) p in
    omega (arith, flow_cost net s)

module _ (net : Network) (sound : Sound net) (r : Run) (per : Permitted net r) where
  -- every message reaches its queue after its own delay
  pub reach_delay : Delay (released r) (λ t. (ch net r t).reach) net.send_least net.send_greatest
  unfolding state
  reach_delay = looser (omega arith) (omega arith)
      (on_the_way (λ u. (ch net r u).send) (released r) (λ t. (st net r t).sending) refl (λ t. refl) net.send_least net.send_greatest
      (λ t m k. let p = per (suc t) in let l = le_refl (suc t) in (p.send_least_lem t m l k, p.send_greatest_lem t m l k))
      then reordered (λ t. (per (suc t)).reach t (le_refl (suc t))))

  pub reach_at : (t : ℕ) (m : Message) → Memᴰ m (ch net r t).reach → (arrival r m ≡ t) × Good net r m.released m
  unfolding state
  reach_at t m k =
      let l = perm_mem (Permᴰ.symm ((per (suc t)).reach t (le_refl (suc t)))) k in
      let f = landed_from (λ u. (ch net r u).send) (released r) (λ t. (st net r t).sending) refl (λ t. refl) t m l in
      let g = good net r per f.0 m f.1 in
      (omega (arith, g.released, f.2, ap (λ (u : ℕ). (ch net r u).send m) g.released), subst (λ (u : ℕ). Good net r u m) (sym g.released) g)

  -- a stream's messages at the queues: the jitter is raised by the spread of the send delay
  pub stream_rate : (s : ℕ) → s < length net.streams → (x d : ℕ)
      → span (λ t. count (λ m. eqb m.stream s) (ch net r t).reach) x d ≤ most (queue_flow net s) d
  unfolding most queue_flow
  stream_rate s h x d =
      let p : Message → Bool = λ m. eqb m.stream s in
      let by-release : (t : ℕ) → count p (released r t) ≡ released_by r.releases s t =
      λ t. weigh_messages (λ m. tally (p m)) (λ z. tally (eqb z.stream s)) (λ u i z. refl) t 0 (r.releases t) in
      simp (chosen_any p (λ m. m)) at (envelope (λ t. chosen p (λ m. m) (released r t)) (λ t. chosen p (λ m. m) (ch net r t).reach)
      net.send_least net.send_greatest (delay_chosen p (λ m. m) reach_delay) (λ m. m.released)
      (λ t m k. let o = was_chosen p (λ n. n) (released r t) m k in rw (← o.is) (good net r per t o.from o.there).released)
      (stream_flow net s) (sound.period s h)
      (λ y c. simp (chosen_any p (λ m. m), by-release) ((per (suc (y + c))).rule s h y c (le_refl (suc (y + c))))) x d)

-- From the hand-over of a frame to its end on the end system's link: one frame of each VL takes no longer than a gap, so no VL brings a second one while the link is busy, and each frame is sent within 7's sum.
-- Assumes nothing.
use Prim.Native.Nat.{ℕ, zero, suc, ◌*◌, ◌≤◌, ◌<◌, max}
use mathlib.Core.Bool.{cond, Bool}
use mathlib.Core.List.{List, [], ◌∷◌, Memᴰ, Permᴰ}
use Rattle.std.specs.Prelude.{Option}
use mathlib.Core.Path.{◌≡◌, refl, sym, ap, ◌∙◌, subst, subst₂}
use native.Mathlib.Nat.{le_refl, le_trans, mul-le-mul_right, div-eq_of_lt}
use native.Mathlib.Omega.{arith}
use lib.Dec.{eqb, eqb→eq}
use lib.ListN.{length}
use Rattle.base.specs.Tabulate.{total}
use Rattle.frame.specs.Frame.{least_line, largest_line}
use Rattle.network.specs.Link.{system_link}
use Rattle.network.proofs.LinkLaws.{ticks_some, ticks_least, ticks_most}
use Rattle.network.specs.Network.{Network, vl_at}
use Rattle.rows.specs.Links.{send_most, send_line, send_sum}
use Rattle.network.specs.Views.{vls_of}
use Rattle.machine.specs.Sum.{span, count, weigh}
use Rattle.machine.specs.Turn.{Lane, from_turn}
use Rattle.machine.specs.Fifo.{Sent, ended}
use Rattle.machine.specs.Messages.{Frame, end_cost}
use Rattle.machine.specs.Machine.{Run, state}
use Rattle.machine.specs.Permitted.{Permitted}
use Rattle.machine.specs.Sound.{Sound}
use Rattle.machine.proofs.Lists.Cases.{eq→eqb, by_test}
use Rattle.machine.proofs.Lists.Sums.{span_mono, span_mul, span_sum, weigh_none, upto_mono}
use Rattle.machine.proofs.Lists.Orders.{was_gathered}
use Rattle.machine.proofs.Lists.Lanes.{flat, flat_empty, names, brought, brought_weigh, is_brought}
use Rattle.machine.proofs.Stage.Moves.{out_origin, weighed}
use Rattle.machine.proofs.Stage.LinkLaws.{Sending}
use Rattle.machine.proofs.Stage.LinkLaws as Link
use Rattle.machine.proofs.Stage.MuxLaws.{mux_starts, mux_names}
use Rattle.machine.proofs.Stage.Delay.{Delay}
use Rattle.machine.proofs.Stage.Select.{was_chosen, is_chosen, chosen_weigh, is_passing, was_passing, weigh_one, any, part_weigh}
use Rattle.machine.proofs.Lists.Start.{lanes_empty, lanes_names, turn_mem, turn_weigh}
use Rattle.machine.proofs.Network.Trace.{ch, st, hand, sent}
use Rattle.machine.proofs.Network.Windows.{Windows}
use Rattle.machine.proofs.Network.Queues.{Fact, hand_fact, hand_vl, hand_rate}

weigh_count : {X : Type 0} (cost : X → ℕ) (c : ℕ) (l : List X) → ((x : X) → Memᴰ x l → cost x ≤ c) → weigh cost l ≤ count any l * c
unfolding total
weigh_count cost c [] h = omega arith
weigh_count cost c (x ∷ l) h = omega (arith, h x (mathlib.Core.List.Memᴰ.head refl), weigh_count cost c l (λ y m. h y (mathlib.Core.List.Memᴰ.tail m)))

module _ (net : Network) (sound : Sound net) (r : Run) (per : Permitted net r) (win : Windows net)
    (v : ℕ) (hv : v < length net.vls) where
  abbrev e : ℕ
  e = (vl_at net v).system

  abbrev ns : List ℕ
  ns = vls_of net e

  abbrev turns : List ℕ
  turns = from_turn (r.first_vl e) ns

  abbrev new : ℕ → ℕ → List Frame
  new t i = hand net r i t

  fact : (t i : ℕ) (f : Frame) (k : Memᴰ f (new t i)) → (f.born ≡ t) × Fact net sound r per i win (hand_vl net sound r per i t f k) f
  fact t i f k = hand_fact net sound r per i win (hand_vl net sound r per i t f k) t f k

  stamped : (t i : ℕ) (f : Frame) → Memᴰ f (new t i) → (f.born ≡ t) × (0 < end_cost net e f)
  stamped t i f k = let w = fact t i f k in (w.0, ticks_some (system_link net e) (sound.system_speed e (sound.references.vl_system v hv)) f.packet.bytes w.1.bytes_least)

  -- the end system's link, and what comes to it
  abbrev cost : Frame → ℕ
  cost = end_cost net e

  abbrev lanes : ℕ → List (Lane Frame)
  lanes t = ((st net r t).end e).lanes

  abbrev link : ℕ → Option (Sent Frame)
  link t = ((st net r t).end e).link

  stay : (t : ℕ) → Permᴰ (names (lanes t)) (names (lanes (suc t)))
  unfolding state
  stay t = mux_names cost t (new t) ((ch net r t).turns e) ((st net r t).end e) ((per (suc t)).turns t e (le_refl (suc t)))

  abbrev ins : ℕ → List Frame
  ins = brought new lanes stay

  came : (t : ℕ) (f : Frame) → Memᴰ f (ins t) → (i : ℕ) × Memᴰ f (new t i)
  came t f m = let w = was_gathered (new t) (names (lanes t)) f m in (w.0, w.2)

  sending : Sending cost
  unfolding state
  sending = record {
    line = λ t. flat (lanes t);
    link = link;
    ins = ins;
    none₀ = (flat_empty (lanes zero) (lanes_empty Frame turns), refl);
    step = λ t. mux_starts cost t (new t) ((ch net r t).turns e) ((st net r t).end e) ((per (suc t)).turns t e (le_refl (suc t)));
    pos = λ t f m. let w = came t f m in (stamped t w.0 f w.1).1;
  }

  named₀ : Memᴰ v (names (lanes zero))
  unfolding state vls_of
  named₀ = rw (lanes_names Frame turns)
      (turn_mem (r.first_vl e) v ns (is_passing (λ w. eqb (vl_at net w).system e) (length net.vls) v hv (lib.Dec.eqb_refl e)))

  -- what tick t brings weighs what its VLs hand over
  ins_weigh : (w : Frame → ℕ) (t : ℕ) → weigh w (ins t) ≡ weigh (λ i. weigh w (new t i)) ns
  unfolding state
  ins_weigh w t = brought_weigh new lanes stay w t ∙ rw (lanes_names Frame turns) (turn_weigh (λ i. weigh w (new t i)) (r.first_vl e) ns)

  abbrev c : ℕ → ℕ
  c i = send_most net i

  -- one frame of each VL takes no longer than a gap
  abbrev window : ℕ
  window = max 1 (send_sum net e)

  most_cost : (i : ℕ) → (vl_at net i).system ≡ e → (f : Frame) → f.packet.bytes ≤ largest_line (vl_at net i).lmax → cost f ≤ send_most net i
  unfolding send_most
  most_cost i q f h = rw q (ticks_most (system_link net e) f.packet.bytes (vl_at net i).lmax h)

  -- one VL brings at most one frame in a span below its gap
  one_each : (i : ℕ) → i < length net.vls → (vl_at net i).system ≡ e → (x d : ℕ) → d < window → span (λ t. weigh cost (new t i)) x d ≤ c i
  one_each i h q x d k =
      let w = span_mono (λ t. weigh cost (new t i)) (λ t. count any (new t i) * c i)
      (λ t. weigh_count cost (c i) (new t i) (λ f m. most_cost i q f (fact t i f m).1.bytes_most)) x d in
      let n = hand_rate net sound r per i win h x d in
      let z = div-eq_of_lt {n = d} {m = (vl_at net i).gap} (omega (arith, sound.gap i h, sound.sends_in_a_gap i h, ap (send_sum net) q)) in
      let l : span (λ t. count any (new t i)) x d ≤ 1 = omega arith in
      omega (arith, span_mul (λ t. count any (new t i)) (c i) x d, mul-le-mul_right (c i) l)

  bound : (x d : ℕ) → d < window → span (λ t. weigh cost (ins t)) x d ≤ send_sum net e
  unfolding send_sum vls_of
  bound x d h = simp (ins_weigh cost) (span_sum (λ t i. weigh cost (new t i)) c x d ns
      (λ i m. let w = was_passing (λ w. eqb (vl_at net w).system e) (length net.vls) i m in
      one_each i w.0 (eqb→eq (vl_at net i).system e w.1) x d h))

  abbrev mine : Frame → Bool
  mine f = eqb f.vl v

  -- what is sent whole was handed over by the VL that it names
  known : (t : ℕ) (f : Frame) → Memᴰ f (ended t (link t)) → Memᴰ f (new f.born f.vl) × (least_line ≤ f.packet.bytes)
  unfolding sending
  known = out_origin (Link.there cost sending) ins (Link.out cost sending) (Link.none_first cost sending) (Link.moves cost sending)
      (λ t f. Memᴰ f (new f.born f.vl) × (least_line ≤ f.packet.bytes))
      (λ t f m. let i = came t f m in let w = fact t i.0 f i.1 in
      (subst₂ (λ (u j : ℕ). Memᴰ f (new u j)) (sym w.0) (sym w.1.vl) i.1, w.1.bytes_least))
      (λ t f h. h)

  least_cost : (f : Frame) → least_line ≤ f.packet.bytes → send_line net v ≤ cost f
  unfolding send_line
  least_cost f h = ticks_least (system_link net e) f.packet.bytes h

  -- of what VL v hands over no more is sent
  mine_only : (w : Frame → ℕ) (t : ℕ) → weigh (λ f. cond (mine f) (w f) 0) (ins t) ≤ weigh w (new t v)
  unfolding vls_of
  mine_only w t =
      let q : Frame → ℕ = λ f. cond (mine f) (w f) 0 in
      let one = weigh_one (λ i. weigh q (new t i)) v
      (λ i n. weigh_none q (new t i) (λ f m. by_test (mine f) (λ (z : ℕ). z ≡ 0)
      (λ k. absurd (n (sym (fact t i f m).1.vl ∙ eqb→eq f.vl v k))) (λ k. refl)))
      (λ w. eqb (vl_at net w).system e) (length net.vls) in
      omega (arith, ins_weigh q t, part_weigh mine w (new t v))

  -- a frame is sent whole from its own least time to one frame of each VL later
  pub end_delay : Delay (hand net r v) (sent net r v) (send_line net v) (send_sum net e)
  unfolding sending
  end_delay =
      let born-at : (t : ℕ) (f : Frame) → Memᴰ f (ins t) → f.born ≡ t = λ t f m. let i = came t f m in (stamped t i.0 f i.1).0 in
      let back = Link.backward cost sending (λ f. f.born) born-at window (send_sum net e) (omega arith) (omega arith) bound in
      let go = Link.forward cost sending (λ f. f.born) born-at window (send_sum net e) (omega arith) (omega arith) bound in
      record {
        forward = λ t f k.
            let o = go t f (is_brought new lanes stay t v f named₀ k) in
            let b = back o.0 f o.1 in
            let w = fact t v f k in
            record {
              at = o.0;
              there = is_chosen mine (λ g. g) (ended o.0 (link o.0)) f o.1 (eq→eqb f.vl v w.1.vl);
              least = omega (arith, b.0, w.0, least_cost f w.1.bytes_least);
              most = omega (arith, b.1, w.0);
            };
        backward = λ t f k.
            let o = was_chosen mine (λ g. g) (ended t (link t)) f k in
            let there' : Memᴰ f (ended t (link t)) = rw o.is at o.there in
            let vl' : f.vl ≡ v = rw (← o.is) (eqb→eq o.from.vl v o.passes) in
            let w = known t f there' in
            let b = back t f there' in
            record {
              at = f.born;
              there = subst (λ (i : ℕ). Memᴰ f (new f.born i)) vl' w.0;
              least = omega (arith, b.0, least_cost f w.1);
              most = b.1;
            };
        weighed = λ w t.
            let q : Frame → ℕ = λ f. cond (mine f) (w f) 0 in
            simp (chosen_weigh mine (λ f. f) w) (le_trans
            (weighed (Link.there cost sending) ins (Link.out cost sending) (Link.none_first cost sending) (Link.moves cost sending) q t)
            (upto_mono (λ u. weigh q (ins u)) (λ u. weigh w (new u v)) (mine_only w) t));
      }

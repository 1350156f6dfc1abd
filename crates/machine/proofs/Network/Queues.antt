-- From a sub-link queue to the hand-over: each packet is handed over within the station's figure less one gap, and no sooner than its place in its message allows.
-- Assumes nothing.
use Prim.Native.Nat.{ℕ, suc, ◌+◌, ◌*◌, ◌/◌, ◌≤◌, ◌<◌}
use mathlib.Core.Bool.{Bool, true, cond, ◌&&◌}
use mathlib.Core.List.{List, [], ◌∷◌, Memᴰ}
use Rattle.std.specs.Prelude.{Option, None, Some}
use mathlib.Core.Path.{◌≡◌, refl, sym, ap, ◌∙◌, subst, fun_ext}
use native.Mathlib.Nat.{le_of_eq, le_trans, mul-le-mul_right}
use native.Mathlib.Omega.{arith}
use lib.Dec.{eqb, T}
use lib.ListN.{length}
use Rattle.base.specs.Tabulate.{passing, total}
use Rattle.frame.specs.Frame.{least_line, largest_line}
use Rattle.frame.specs.Packets.{packets, packet_lines}
use Rattle.frame.proofs.PacketLaws.{packet_lines_between}
use Rattle.network.specs.Network.{Network, vl_at, stream_at}
use Rattle.rows.specs.Queues.{queue_flow, queue_flows}
use Rattle.network.specs.Views.{streams_on}
use Rattle.station.specs.Station.{most, brought}
use Rattle.machine.specs.Sum.{span, count}
use Rattle.machine.specs.Lists.{chosen}
use Rattle.machine.specs.Turn.{from_turn}
use Rattle.machine.specs.Queue.{Queue}
use Rattle.machine.specs.Messages.{Message, Packet, Frame, number, vl_of, packets_in, to_lane, framed}
use Rattle.machine.specs.Machine.{Run, start}
use Rattle.machine.specs.Permitted.{Permitted}
use Rattle.machine.specs.Sound.{Sound}
use Rattle.machine.proofs.Lists.Cases.{both_eq, eq_both, by_test}
use Rattle.machine.proofs.Stage.Parts.{handed, queue}
use Rattle.machine.proofs.Lists.Sums.{span_mono}
use Rattle.machine.proofs.Stage.Lindley.{finish, finish_bound}
use Rattle.machine.proofs.Stage.Flows.{Covered, works_bound}
use Rattle.machine.proofs.Lists.Turns.{Empty}
use Rattle.machine.proofs.Lists.Lanes.{names, flat}
use Rattle.machine.proofs.Stage.QueueSteps.{hand_count, tally_of, hand_origin}
use Rattle.machine.proofs.Stage.QueueLaws.{Low, low_append, hand_bounds, forward, still_due}
use Rattle.machine.proofs.Stage.Select.{count_chosen, was_chosen, is_passing, was_passing, any}
use Rattle.machine.proofs.Lists.Start.{lanes_empty, lanes_length, lanes_names, turn_length, turn_mem, passing_all}
use Rattle.machine.proofs.Network.Told.{arrival, Good, packets_mono, length_lines, length_number, was_number, is_number}
use Rattle.machine.proofs.Network.Trace.{ch, news, hand, hand_is}
use Rattle.machine.proofs.Network.Windows.{Windows, queue_station}
use Rattle.machine.proofs.Network.Arrivals.{test, was_brought, is_brought, lane_weight, flow_cost, reach_at, stream_rate}

module _ (net : Network) (sound : Sound net) (r : Run) (per : Permitted net r) where
  -- ---- one lane
  module _ (v i : ℕ) (hv : v < length net.vls) where
    abbrev nb : ℕ
    nb = (vl_at net v).sublinks * (vl_at net v).gap

    abbrev msgs : ℕ → List Message
    msgs t = chosen (test net v i) (λ m. m) (ch net r t).reach

    abbrev tests : ℕ → Bool
    tests s = eqb (stream_at net s).vl v && eqb (stream_at net s).sublink i

    abbrev ns : List ℕ
    ns = passing tests (length net.streams)

    abbrev cost : Message → ℕ
    cost m = length (packets_in net m) * nb

    pub packets_length : (m : Message) → m.stream < length net.streams → 0 < m.size → length (packets_in net m) ≡ packets m.size (vl_at net (vl_of net m)).lmax
    packets_length m h k = length_number m 0 (packet_lines m.size (vl_at net (vl_of net m)).lmax) ∙ length_lines (vl_at net (vl_of net m)).lmax m.size (sound.lmax_least (vl_of net m) (sound.references.stream_vl m.stream h)) k

    cost_least : (m : Message) (u : ℕ) → Good net r u m → T (test net v i m) → cost m ≤ (queue_flow net m.stream).cost
    cost_least m u g h =
        let e : vl_of net m ≡ v = (both_eq (vl_of net m) v (stream_at net m.stream).sublink i h).0 in
        let l = packets_length m g.stream (omega (arith, sound.least_size m.stream g.stream, g.least)) in
        let p = packets_mono (vl_at net (vl_of net m)).lmax m.size (stream_at net m.stream).size (sound.lmax_least (vl_of net m) (sound.references.stream_vl m.stream g.stream)) g.most in
        let q : length (packets_in net m) ≤ packets (stream_at net m.stream).size (vl_at net (vl_of net m)).lmax = omega arith in
        subst (λ (w : ℕ). length (packets_in net m) * ((vl_at net w).sublinks * (vl_at net w).gap) ≤ (queue_flow net m.stream).cost) e
        (le_trans (mul-le-mul_right ((vl_at net (vl_of net m)).sublinks * (vl_at net (vl_of net m)).gap) q) (le_of_eq (sym (flow_cost net m.stream))))

    covered : (t : ℕ) → Covered cost (λ m. m.stream) (queue_flow net) ns (msgs t)
    covered t m k =
        let o = was_chosen (test net v i) (λ n. n) (ch net r t).reach m k in
        let k' : Memᴰ m (ch net r t).reach = subst (λ (n : Message). Memᴰ n (ch net r t).reach) o.is o.there in
        let h' : T (test net v i m) = subst (λ (n : Message). T (test net v i n)) o.is o.passes in
        let g = (reach_at net sound r per t m k').1 in
        (is_passing tests (length net.streams) m.stream g.stream h', cost_least m m.released g h')

    kept : (s : ℕ) → Memᴰ s ns → (x d : ℕ) → span (λ t. count (λ m. eqb m.stream s) (msgs t)) x d ≤ most (queue_flow net s) d
    kept s k x d = le_trans
        (span_mono (λ t. count (λ m. eqb m.stream s) (msgs t)) (λ t. count (λ m. eqb m.stream s) (ch net r t).reach)
        (λ t. count_chosen (test net v i) (λ m. eqb m.stream s) (ch net r t).reach) x d)
        (stream_rate net sound r per s (was_passing tests (length net.streams) s k).0 x d)

    abbrev load : ℕ → ℕ
    load t = length (news net r v t i) * nb

    load_bound : (x d : ℕ) → span load x d ≤ brought (queue_flows net v i) d
    unfolding queue_flows streams_on
    load_bound x d = le_trans
        (le_of_eq (ap (λ (k : ℕ → ℕ). span k x d) (fun_ext (λ t. lane_weight net v i nb (ch net r t).reach))))
        (works_bound cost (λ m. m.stream) (queue_flow net) ns msgs covered kept x d)

    -- the virtual server is done within the figure
    pub lane_finish : (win : Windows net) (t : ℕ) → finish load t ≤ t + queue_station net v i
    lane_finish win = finish_bound load (brought (queue_flows net v i)) (queue_station net v i) load_bound (win.queue_covers v i)

  -- ---- one VL
  module _ (v : ℕ) where
    abbrev n : ℕ
    n = (vl_at net v).sublinks

    abbrev gap : ℕ
    gap = (vl_at net v).gap

    abbrev from : Packet → ℕ
    from x = arrival r x.message + x.index * gap

    abbrev s₀ : Queue Packet
    s₀ = (start net r).queue v

    -- a packet that is brought
    pub record Origin (x : Packet) : Type 0 where
      pub message : Good net r x.message.released x.message
      pub vl : vl_of net x.message ≡ v
      pub is : Memᴰ x (packets_in net x.message)
      pub reached : Memᴰ x.message (ch net r (arrival r x.message)).reach

    pub brought_facts : (t i : ℕ) (x : Packet) → Memᴰ x (news net r v t i) → Origin x × (arrival r x.message ≡ t) × ((stream_at net x.message.stream).sublink ≡ i)
    brought_facts t i x k =
        let b = was_brought net v i (ch net r t).reach x k in
        let m = b.message in
        let a = reach_at net sound r per t m b.there in
        let e : x.message ≡ m = (was_number m 0 (packet_lines m.size (vl_at net (vl_of net m)).lmax) x b.is).message in
        let here = both_eq (vl_of net m) v (stream_at net m.stream).sublink i b.passes in (
          record {
            message = subst (λ (z : Message). Good net r z.released z) (sym e) a.1;
            vl = ap (vl_of net) e ∙ here.0;
            is = subst (λ (z : Message). Memᴰ x (packets_in net z)) (sym e) b.is;
            reached = subst (λ (z : Message). Memᴰ z (ch net r (arrival r z)).reach) (sym e) (subst (λ (u : ℕ). Memᴰ m (ch net r u).reach) (sym a.0) b.there);
          },
          ap (λ (z : Message). arrival r z) e ∙ a.0,
          ap (λ (z : Message). (stream_at net z.stream).sublink) e ∙ here.1,
        )

    size₀ : length s₀.lanes ≡ n
    size₀ = lanes_length Packet (from_turn (r.first_sub v) (passing (λ i. true) n)) ∙ turn_length (r.first_sub v) (passing (λ i. true) n) ∙ passing_all n

    pub empty₀ : Empty s₀.lanes
    empty₀ = lanes_empty Packet (from_turn (r.first_sub v) (passing (λ i. true) n))

    pub named₀ : (i : ℕ) → i < n → Memᴰ i (names s₀.lanes)
    named₀ i h = rw (lanes_names Packet (from_turn (r.first_sub v) (passing (λ i. true) n)))
        (turn_mem (r.first_sub v) i (passing (λ i. true) n) (is_passing (λ i. true) n i h tt))

    -- ---- in frames
    was_framed : (t : ℕ) (o : Option Packet) (f : Frame) → Memᴰ f (framed v t o) → (o ≡ Some f.packet) × (f.vl ≡ v) × (f.born ≡ t)
    was_framed t None f k = absurd (mathlib.Core.List.Memᴰ.not-nil k)
    was_framed t (Some x) f k =
        let e = mathlib.Core.List.Memᴰ.eq_of_singleton k in
        (ap (λ (z : Frame). Some z.packet) (sym e), ap (λ (z : Frame). z.vl) e, ap (λ (z : Frame). z.born) e)

    pub hand_vl : (t : ℕ) (f : Frame) → Memᴰ f (hand net r v t) → v < length net.vls
    hand_vl t f k =
        let w = was_framed t (handed gap s₀ (news net r v) t) f (subst (λ (l : List Frame). Memᴰ f l) (hand_is net r v t) k) in
        let o = hand_origin gap s₀ (news net r v) empty₀ Origin (λ u i y j. (brought_facts u i y j).0) t f.packet w.0 in
        subst (λ (z : ℕ). z < length net.vls) o.vl (sound.references.stream_vl f.packet.message.stream o.message.stream)

    module _ (win : Windows net) (hv : v < length net.vls) where
      -- by when the virtual server is done with a packet, and from when on it may be handed over
      abbrev by : Packet → ℕ
      by x = arrival r x.message + queue_station net v (stream_at net x.message.stream).sublink

      low_number : (m : Message) (k : ℕ) (bs : List ℕ) (u : ℕ) → arrival r m + k * gap ≤ u → Low n gap by from u (number m k bs)
      unfolding Low
      low_number m k [] u h = tt
      low_number m k (b ∷ bs) u h = (h, low_number m (suc k) bs (u + gap) (omega arith))

      low_lane : (i : ℕ) (ms : List Message) (u : ℕ) → ((m : Message) → Memᴰ m ms → arrival r m ≤ u) → Low n gap by from u (to_lane net v i ms)
      unfolding Low
      low_lane i [] u h = tt
      low_lane i (m ∷ ms) u h = low_append n gap by from (cond (test net v i m) (packets_in net m) []) (to_lane net v i ms) u
          (by_test (test net v i m) (λ (l : List Packet). Low n gap by from u l)
          (λ g. low_number m 0 (packet_lines m.size (vl_at net (vl_of net m)).lmax) u (omega (arith, h m (mathlib.Core.List.Memᴰ.head refl)))) (λ g. tt))
          (low_lane i ms u (λ k j. h k (mathlib.Core.List.Memᴰ.tail j)))

      pos : 0 < gap
      pos = sound.gap v hv

      brought_soon : (t i : ℕ) (x : Packet) → Memᴰ x (news net r v t i) → t + queue_station net v i ≤ by x
      brought_soon t i x k = let b = brought_facts t i x k in omega (arith, b.1, ap (queue_station net v) b.2)

      brought_low : (t i : ℕ) → Low n gap by from t (news net r v t i)
      brought_low t i = low_lane i (ch net r t).reach t (λ m k. le_of_eq (reach_at net sound r per t m k).0)

      pub bounds : (t : ℕ) (x : Packet) → handed gap s₀ (news net r v) t ≡ Some x → (t + gap ≤ by x) × (from x ≤ t)
      bounds = hand_bounds n gap by from (queue_station net v) (news net r v)
          (λ i t. lane_finish v i hv win t) brought_soon brought_low pos s₀ size₀ empty₀ refl

      goes : (i : ℕ) → i < n → (t : ℕ) (x : Packet) → Memᴰ x (news net r v t i) → (u : ℕ) × (handed gap s₀ (news net r v) u ≡ Some x)
      goes i h t x k = forward n gap by from (queue_station net v) (news net r v)
          (λ i t. lane_finish v i hv win t) brought_soon brought_low pos s₀ size₀ empty₀ refl i (named₀ i h) t x k

      -- no packet stays past its time
      pub left_due : (t : ℕ) (x : Packet) → Memᴰ x (flat (queue gap s₀ (news net r v) (suc t)).lanes) → t + gap ≤ by x
      left_due = still_due n gap by from (queue_station net v) (news net r v)
          (λ i t. lane_finish v i hv win t) brought_soon brought_low pos s₀ size₀ empty₀ refl

      pub record Fact (f : Frame) : Type 0 where
        pub vl : f.vl ≡ v
        pub origin : Origin f.packet
        pub by_then : f.born + gap ≤ by f.packet
        pub not_before : from f.packet ≤ f.born
        pub bytes_least : least_line ≤ f.packet.bytes
        pub bytes_most : f.packet.bytes ≤ largest_line (vl_at net v).lmax

      pub hand_fact : (t : ℕ) (f : Frame) → Memᴰ f (hand net r v t) → (f.born ≡ t) × Fact f
      hand_fact t f k =
          let w = was_framed t (handed gap s₀ (news net r v) t) f (subst (λ (l : List Frame). Memᴰ f l) (hand_is net r v t) k) in
          let b = bounds t f.packet w.0 in
          let x = f.packet in
          let o = hand_origin gap s₀ (news net r v) empty₀ Origin (λ u i y j. (brought_facts u i y j).0) t x w.0 in
          let g = o.message in
          let lm = (vl_at net (vl_of net x.message)).lmax in
          let hw = sound.references.stream_vl x.message.stream g.stream in
          let q = packet_lines_between x.message.size lm (sound.lmax_least (vl_of net x.message) hw) (sound.lmax_greatest (vl_of net x.message) hw)
          (omega (arith, sound.least_size x.message.stream g.stream, g.least)) x.bytes
          (was_number x.message 0 (packet_lines x.message.size lm) x o.is).bytes in (
            w.2,
            record {
              vl = w.1;
              origin = o;
              by_then = omega (arith, w.2, b.0);
              not_before = omega (arith, w.2, b.1);
              bytes_least = q.0;
              bytes_most = subst (λ (z : ℕ). x.bytes ≤ largest_line (vl_at net z).lmax) o.vl q.1;
            },
          )

      pub hand_rate : (x d : ℕ) → span (λ t. count any (hand net r v t)) x d ≤ d / gap + 1
      unfolding total
      hand_rate x d = simp (same) (hand_count gap s₀ (news net r v) refl pos x d)
        where
          one : (t : ℕ) (o : Option Packet) → count any (framed v t o) ≡ tally_of o
          one t None = refl
          one t (Some y) = refl

          same : (t : ℕ) → count any (hand net r v t) ≡ tally_of (handed gap s₀ (news net r v) t)
          same t = rw (hand_is net r v t) (one t (handed gap s₀ (news net r v) t))

      -- each packet of each message is handed over
      pub record Over (m : Message) (k a : ℕ) : Type 0 where
        pub frame : Frame
        pub at : ℕ
        pub there : Memᴰ frame (hand net r v at)
        pub message : frame.packet.message ≡ m
        pub index : frame.packet.index ≡ k

      pub hand_over_lem : (a : ℕ) (m : Message) (k : ℕ) → Memᴰ m (ch net r a).reach → vl_of net m ≡ v → k < length (packets_in net m) → Over m k a
      hand_over_lem a m k j e h =
          let g = (reach_at net sound r per a m j).1 in
          let i = (stream_at net m.stream).sublink in
          let lm = (vl_at net (vl_of net m)).lmax in
          let b = is_number m 0 (packet_lines m.size lm) k (omega (arith, length_number m 0 (packet_lines m.size lm))) in
          let x : Packet = record { message = m; index = 0 + k; bytes = b.0 } in
          let test-ok : T (test net v i m) = eq_both (vl_of net m) v i i e refl in
          let o = goes i (subst (λ (w : ℕ). i < (vl_at net w).sublinks) e (sound.references.stream_sub_link m.stream g.stream)) a x (is_brought net v i (ch net r a).reach m x j test-ok b.1) in
          let f : Frame = record { packet = x; vl = v; born = o.0 } in
          record {
            frame = f;
            at = o.0;
            there = subst (λ (l : List Frame). Memᴰ f l) (sym (hand_is net r v o.0))
                (subst (λ (q : Option Packet). Memᴰ f (framed v o.0 q)) (sym o.1) (mathlib.Core.List.Memᴰ.head refl));
            message = refl;
            index = omega arith;
          }

-- On a VL with one sub-link the queue figure is reached, for each stream, by the last packet of a message: the P-th hand-over empties the queue, so it gives the packet that came last, which is of stream s₁; it is no earlier than P − 1 gaps after the first, and no packet waits longer than the figure.
-- Assumes nothing.
use Prim.Native.Nat.{ℕ, zero, suc, ◌+◌, ◌*◌, ◌-◌, ◌≤◌, ◌<◌}
use mathlib.Core.Bool.{Bool, true, cond, not}
use mathlib.Core.List.Memᴰ
use mathlib.Core.List.{List, [], ◌∷◌, ◌++◌, Memᴰ, append_assoc, append-nil}
use mathlib.Core.Logic.{⊎_elim, dite}
use Rattle.std.specs.Prelude.{Some}
use mathlib.Core.Path.{◌≡◌, refl, sym, ap, ◌∙◌, subst, fun_ext}
use native.Mathlib.Decide.{dec_lt}
use native.Mathlib.Omega.{arith}
use lib.Dec.{T, eqb→eq}
use lib.ListN.{length, length-append}
use Rattle.base.specs.Tabulate.{passing, total}
use Rattle.frame.specs.Packets.{packet_lines}
use Rattle.network.specs.Network.{Network, vl_at, stream_at}
use Rattle.machine.specs.Sum.{weigh}
use Rattle.machine.specs.Lists.{chosen}
use Rattle.machine.specs.Turn.{Lane, lanes_of, from_turn}
use Rattle.machine.specs.Queue.{Queue}
use Rattle.machine.specs.Messages.{Release, Message, Packet, number, vl_of, packets_in, to_lane}
use Rattle.machine.specs.Machine.{Run, hands}
use Rattle.machine.specs.Permitted.{Permitted}
use Rattle.machine.specs.Sound.{Sound}
use Rattle.machine.specs.Runs.{Reaches}
use Rattle.machine.proofs.Lists.Cases.{not_both, eq→eqb, by_test}
use Rattle.machine.proofs.Stage.Parts.{queue, handed}
use Rattle.machine.proofs.Lists.Sums.{upto, grows, crosses}
use Rattle.machine.proofs.Lists.Orders.{none_in}
use Rattle.machine.proofs.Lists.Lanes.{flat, names}
use Rattle.machine.proofs.Stage.QueueSteps.{given}
use Rattle.machine.proofs.Stage.Select.{was_chosen, behind, Ended, split_last}
use Rattle.machine.proofs.Network.Told.{arrival, message_of, was_message, packets_pos, length_lines, length_number, number_last}
use Rattle.machine.proofs.Network.Trace.{ch, st, news, hands_is}
use Rattle.machine.proofs.Network.Windows.{queue_station, Windows}
use Rattle.machine.proofs.Network.Arrivals.{test, reach_at, reach_delay}
use Rattle.machine.proofs.Network.Queues.{bounds}
use Rattle.machine.proofs.Wait.OneLane.{EndsIn, ends_over, ends_one, lane, last_out}
use Rattle.machine.proofs.Wait.Fill.{Aim, spread, n, rel, late, filled, late_behind, arrives, last_released}
use Rattle.machine.proofs.Wait.Worth.{r, per, rels_are, send_is, last, reach_time, came, P, worth_gap, listed, P_pos, s₀, c}
use Rattle.machine.proofs.Wait.Worth.{conserved, goal, few, far, all_gone}

module _ (net : Network) (sound : Sound net) (win : Windows net) (aim : Aim net) where
  open aim use {vl as v, row as hv, one_sub_link as one, stream as s₁, stream_row_lem as on, on_vl as of, span as d}

  abbrev run : Run
  run = r net sound win aim

  abbrev ok : Permitted net run
  ok = per net sound win aim

  abbrev end : ℕ
  end = last net sound win aim

  abbrev mine : Message → Bool
  mine = late net sound aim

  abbrev gap : ℕ
  gap = (vl_at net v).gap

  -- ---- a message of stream s₁ comes in the last tick
  some_victim : (m : Message) × Memᴰ m (ch net run end).reach × (m.stream ≡ s₁)
  some_victim =
      let u : ℕ = d + spread net sound aim in
      let x = rel net sound aim s₁ (n net sound aim s₁ - 1) in
      let i = last_released net sound aim (listed net sound win aim) in
      let o = message_of u 0 (run.releases u) x (subst (λ (l : List Release). Memᴰ x l) (sym (rels_are net sound win aim u)) i) in
      let m = o.0 in
      let f = (reach_delay net sound run ok).forward u m o.1 in
      let g : m.released ≡ u = (was_message u 0 (run.releases u) m o.1).released in
      let a = (reach_at net sound run ok f.at m f.there).0 in
      let e : f.at ≡ end =
      omega (arith, a, ap (λ (t : ℕ). t + (ch net run t).send m) g, send_is net sound win aim u m, arrives net sound aim u m) in
      (m, subst (λ (t : ℕ). Memᴰ m (ch net run t).reach) e f.there, o.2)

  -- what comes in that tick: others, then those of stream s₁
  abbrev due : List Message
  due = (late_behind net sound aim end).0

  due_is : (ch net run end).reach ≡ behind mine due
  due_is = (late_behind net sound aim end).1

  abbrev front : List Message
  front = chosen (λ m. not (mine m)) (λ m. m) due

  abbrev back : List Message
  back = chosen mine (λ m. m) due

  some_in : {X : Type 0} (l : List X) (x : X) → Memᴰ x l → 0 < length l
  some_in {X = X} [] x m = elim m [ ]
  some_in (y ∷ l) x m = omega arith

  back_some : 0 < length back
  back_some =
      let m = some_victim.0 in
      ⊎_elim
      (λ i. let a = was_chosen (λ m. not (mine m)) (λ m. m) due m i in
      absurd (not_both (mine m) (subst (λ (z : Message). T (not (mine z))) a.is a.passes) (eq→eqb m.stream s₁ some_victim.2)))
      (λ i. some_in back m i)
      (Memᴰ.append_cases front (subst (λ (l : List Message). Memᴰ m l) due_is some_victim.1))

  -- the last of them
  abbrev tail : Ended back
  tail = split_last back back_some

  abbrev victim : Message
  victim = tail.last

  victim_back : Memᴰ victim back
  victim_back = subst (λ (l : List Message). Memᴰ victim l) (sym tail.is) (Memᴰ.append_right tail.front (Memᴰ.head refl))

  victim_there : Memᴰ victim (ch net run end).reach
  victim_there = subst (λ (l : List Message). Memᴰ victim l) (sym due_is) (Memᴰ.append_right front victim_back)

  victim_stream : victim.stream ≡ s₁
  victim_stream =
      let a = was_chosen mine (λ m. m) due victim victim_back in
      eqb→eq victim.stream s₁ (subst (λ (z : Message). T (mine z)) a.is a.passes)

  victim_at : arrival run victim ≡ end
  victim_at = (reach_at net sound run ok end victim victim_there).0

  -- ---- its last packet
  abbrev lines : List ℕ
  lines = packet_lines victim.size (vl_at net (vl_of net victim)).lmax

  lines_some : 0 < length lines
  lines_some =
      let g = (reach_at net sound run ok end victim victim_there).1 in
      let h = sound.lmax_least (vl_of net victim) (sound.references.stream_vl victim.stream g.stream) in
      let k : 0 < victim.size = omega (arith, sound.least_size victim.stream g.stream, g.least) in
      omega (arith, length_lines (vl_at net (vl_of net victim)).lmax victim.size h k, packets_pos (vl_at net (vl_of net victim)).lmax victim.size h k)

  abbrev cut : Ended lines
  cut = split_last lines lines_some

  abbrev x₁ : Packet
  x₁ = record { message = victim; index = 0 + length cut.front; bytes = cut.last }

  packets_are : packets_in net victim ≡ number victim 0 cut.front ++ (x₁ ∷ [])
  packets_are = ap (number victim 0) cut.is ∙ number_last victim cut.last cut.front 0

  x₁_last : suc x₁.index ≡ length (packets_in net victim)
  x₁_last = omega (arith, ap length packets_are, length-append (number victim 0 cut.front) (x₁ ∷ []), length_number victim 0 cut.front)

  lane_append : (a b : List Message) → to_lane net v 0 (a ++ b) ≡ to_lane net v 0 a ++ to_lane net v 0 b
  lane_append [] b = refl
  lane_append (m ∷ a) b =
      ap (λ (l : List Packet). cond (test net v 0 m) (packets_in net m) [] ++ l) (lane_append a b)
      ∙ sym (append_assoc (cond (test net v 0 m) (packets_in net m) []) (to_lane net v 0 a) (to_lane net v 0 b))

  victim_lane : to_lane net v 0 (victim ∷ []) ≡ number victim 0 cut.front ++ (x₁ ∷ [])
  victim_lane =
      append-nil (cond (test net v 0 victim) (packets_in net victim) [])
      ∙ by_test (test net v 0 victim) (λ (l : List Packet). l ≡ packets_in net victim) (λ h. refl)
      (λ h. absurd (h (reach_time net sound win aim end victim victim_there).2))
      ∙ packets_are

  -- what comes in the last tick ends with it
  news_end : (0 < length (news net run v end 0)) × EndsIn x₁ (news net run v end 0)
  news_end =
      let a : List Packet = to_lane net v 0 (front ++ tail.front) in
      let b : List Packet = number victim 0 cut.front ++ (x₁ ∷ []) in
      let e : news net run v end 0 ≡ a ++ b =
      ap (to_lane net v 0) (due_is ∙ ap (λ (l : List Message). front ++ l) tail.is ∙ sym (append_assoc front tail.front (victim ∷ [])))
      ∙ lane_append (front ++ tail.front) (victim ∷ [])
      ∙ ap (λ (l : List Packet). a ++ l) victim_lane in
      let Some : 0 < length b = omega (arith, length-append (number victim 0 cut.front) (x₁ ∷ [])) in (
        omega (arith, ap length e, length-append a b, Some),
        subst (λ (l : List Packet). EndsIn x₁ l) (sym e) (ends_over x₁ a b Some (ends_one x₁ (number victim 0 cut.front))),
      )

  no_more : (t : ℕ) → end < t → news net run v t 0 ≡ []
  no_more t h = ap (to_lane net v 0) (none_in (ch net run t).reach (λ m i. omega (arith, (reach_time net sound win aim t m i).1)))

  -- ---- one lane
  abbrev first : Queue Packet
  first = s₀ net sound win aim

  abbrev hits : ℕ → ℕ
  hits = c net sound win aim

  abbrev comes : ℕ → ℕ
  comes = came net sound win aim

  abbrev all : ℕ
  all = P net sound win aim

  one_lane : first.lanes ≡ lane [] ∷ []
  unfolding passing
  one_lane =
      ap (λ (f : ℕ → ℕ). lanes_of (from_turn (f v) (passing (λ i. true) (vl_at net v).sublinks)))
      (filled net sound aim).first_sub_is
      ∙ ap (λ (z : ℕ). lanes_of (from_turn 0 (passing (λ i. true) z))) one

  comes_is : (u : ℕ) → weigh (λ i. length (news net run v u i)) (names first.lanes) ≡ comes u
  unfolding total
  comes_is u = rw one_lane (omega arith)

  conserved_one : (t : ℕ) → upto hits t + length (flat (queue gap first (news net run v) t).lanes) ≡ upto comes t
  conserved_one t = conserved net sound win aim t
      ∙ ap (λ (f : ℕ → ℕ). upto f t) (fun_ext comes_is)

  no_others : (k : ℕ) → upto comes (suc end + k) ≡ all
  unfolding upto
  no_others zero = let e : suc end + 0 ≡ suc end = omega arith in ap (upto comes) e
  no_others (suc k) =
      let e : suc end + suc k ≡ suc (suc end + k) = omega arith in
      ap (upto comes) e ∙ (omega (arith, no_others k, ap length (no_more (suc end + k) (omega arith))))

  pub reached : Reaches net s₁ (queue_station net (stream_at net s₁).vl (stream_at net s₁).sublink - (vl_at net (stream_at net s₁).vl).gap)
  unfolding upto handed
  reached =
      let some-come = P_pos net sound win aim in
      let u = crosses hits all (suc (far net sound win aim)) some-come (all_gone net sound win aim) in
      let t = u.0 in
      let goal-at = goal net sound win aim in
      let after_last : end ≤ t = dite (dec_lt t end) (λ h. absurd (omega (arith, u.2, conserved_one (suc t), grows comes (suc t) end h, news_end.0))) (λ h. omega arith) in
      let after-goal : goal-at ≤ t = dite (dec_lt t goal-at) (λ h. absurd (omega (arith, u.2, grows hits (suc t) goal-at h, few net sound win aim))) (λ h. omega arith) in
      let whole : upto comes (suc t) ≡ all = let e : suc end + (t - end) ≡ suc t = omega arith in ap (upto comes) (sym e) ∙ no_others (t - end) in
      let x = given (handed gap first (news net run v) t) (omega (arith, u.1, u.2)) in
      let is : x.0 ≡ x₁ = last_out gap first (news net run v) one_lane x₁ end news_end.0 news_end.1 no_more t x.0 after_last x.1
      (λ l e. let n = ap length (append-nil l) in
      omega (arith, conserved_one (suc t), ap (λ (ls : List (Lane Packet)). length (flat ls)) e, u.2, whole)) in
      let q = bounds net sound run ok v win hv t x₁ (x.1 ∙ ap (λ (z : Packet). Some z) is) in
      let sub : (stream_at net s₁).sublink ≡ 0 = omega (arith, sound.references.stream_sub_link s₁ on, ap (λ (z : ℕ). (vl_at net z).sublinks) of, one) in
      let fs : queue_station net v (stream_at net victim.stream).sublink ≡ queue_station net v 0 =
      ap (λ (z : ℕ). queue_station net v (stream_at net z).sublink) victim_stream ∙ ap (queue_station net v) sub in
      let fq : queue_station net (stream_at net s₁).vl (stream_at net s₁).sublink ≡ queue_station net v 0 =
      ap (λ (z : ℕ). queue_station net z (stream_at net s₁).sublink) of ∙ ap (queue_station net v) sub in
      let fb : (vl_at net (stream_at net s₁).vl).gap ≡ gap = ap (λ (z : ℕ). (vl_at net z).gap) of in
      let w = arithmetic (queue_station net v 0) gap all t net.send_greatest d after-goal (omega (arith, q.0, victim_at, fs)) (worth_gap net sound win aim) some-come in
      record {
        run = run;
        permitted = ok;
        in_turn = (filled net sound aim).in_turn;
        message = victim;
        stream = victim_stream;
        came = end;
        reach = victim_there;
        only = λ u i. sym (reach_at net sound run ok u victim i).0 ∙ victim_at;
        packet = x₁;
        of = refl;
        last = x₁_last;
        at = t;
        over = ap (λ (z : ℕ). (hands net t (ch net run t) (st net run t) z).got) of ∙ hands_is net run v t ∙ x.1 ∙ ap (λ (z : Packet). Some z) is;
        wait = omega (arith, w, fq, fb, after_last);
      }
    where
      arithmetic : (q b k t m e : ℕ) → m + (k - 1) * b ≤ t → t + b ≤ m + e + q → k * b ≡ q + e → 0 < k → t + b ≡ m + e + q
      arithmetic q b zero t m e h₁ h₂ h₃ h₄ = absurd (omega arith)
      arithmetic q b (suc k) t m e h₁ h₂ h₃ h₄ =
          let i : suc k - 1 ≡ k = omega arith in
          omega (arith, ap (λ (z : ℕ). z * b) i)

-- The releases that fill a queue: each stream's messages as early together as its jitter allows, but the last of stream s₁ so late that it reaches the queue d ticks after the first. The send delay is the greatest at first and falls as far as it may.
-- Assumes nothing.
use Prim.Native.Nat.{ℕ, suc, ◌+◌, ◌*◌, ◌-◌, ◌≤◌, ◌<◌}
use mathlib.Core.Bool.{Bool, true, cond, ◌&&◌}
use mathlib.Core.List.{List, Memᴰ}
use mathlib.Core.Path.{◌≡◌, refl, ap, subst}
use native.Mathlib.Nat.{le_refl, le-div_iff_mul-le}
use native.Mathlib.Omega.{arith}
use lib.Dec.{eqb, T, eqb→eq, eqb_refl}
use lib.ListN.{length}
use Rattle.base.specs.Tabulate.{passing}
use Rattle.network.specs.Network.{Network, vl_at, stream_at, port_at, hop_at}
use Rattle.rows.specs.Queues.{queue_flow, queue_flows}
use Rattle.station.specs.Station.{most, brought}
use Rattle.machine.specs.Sum.{span}
use Rattle.machine.specs.Lists.{chosen, gather}
use Rattle.machine.specs.Messages.{Release, Message, Frame}
use Rattle.machine.specs.Permitted.{stream_flow, Sized, released_by}
use Rattle.machine.specs.Sound.{Sound}
use Rattle.machine.specs.Runs.{Planned, RunsAs}
use Rattle.machine.proofs.Lists.Orders.{was_gathered, is_gathered}
use Rattle.machine.proofs.Lists.Cases.{both_eq, eq_both, by_test}
use Rattle.machine.proofs.Stage.Flows.{most_pos}
use Rattle.machine.proofs.Stage.Select.{was_chosen, is_chosen, is_passing, was_passing, behind, behind_perm}
use Rattle.machine.proofs.Network.Windows.{queue_station}
use Rattle.machine.proofs.Network.Auto.{runs_so, reached_in_order}
use Rattle.machine.proofs.Wait.Critical.{pattern_rate}

-- what is aimed at: a VL with one sub-link, a stream of it, and a span in which its queue's station attains its figure
pub record Aim (net : Network) : Type 0 where
  pub vl : ℕ
  pub row : vl < length net.vls
  pub one_sub_link : (vl_at net vl).sublinks ≡ 1
  pub stream : ℕ
  pub stream_row_lem : stream < length net.streams
  pub on_vl : (stream_at net stream).vl ≡ vl
  pub span : ℕ
  pub attains : brought (queue_flows net vl 0) span ≡ queue_station net vl 0 + span

module _ (net : Network) (sound : Sound net) (aim : Aim net) where
  open aim use {vl as v, stream as s₁, span as d}

  -- the streams of the one queue of VL v
  abbrev pub tests : ℕ → Bool
  tests s = eqb (stream_at net s).vl v && eqb (stream_at net s).sublink 0

  abbrev pub ns : List ℕ
  ns = passing tests (length net.streams)

  abbrev pub p : ℕ → ℕ
  p s = (stream_at net s).period

  abbrev pub j : ℕ → ℕ
  j s = (stream_at net s).jitter

  abbrev pub spread : ℕ
  spread = net.send_greatest - net.send_least

  -- how many messages of stream s come
  abbrev pub n : ℕ → ℕ
  n s = most (queue_flow net s) d

  abbrev pub is_last : ℕ → ℕ → Bool
  is_last s k = eqb s s₁ && eqb (suc k) (n s₁)

  -- when message k of stream s is released
  unfoldable pub ρ : ℕ → ℕ → ℕ
  ρ s k = cond (is_last s k) (d + spread) (k * p s - j s)

  abbrev pub rel : ℕ → ℕ → Release
  rel s k = record { stream = s; size = (stream_at net s).size }

  unfoldable pub fill : ℕ → List Release
  fill t = gather (λ s. chosen (λ k. eqb (ρ s k) t) (rel s) (passing (λ k. true) (n s))) ns

  -- the send delay of what is released in tick t
  abbrev pub send : ℕ → Message → ℕ
  send t m = net.send_greatest + (t - spread) - t

  abbrev pub flight : ℕ → ℕ → Frame → ℕ
  flight t h f = (port_at net (hop_at net h).port).least

  abbrev pub receive : ℕ → ℕ → Frame → ℕ
  receive t h f = net.receive_least

  in_time_lem : (s k : ℕ) → s < length net.streams → k < n s → k * p s ≤ d + (j s + spread)
  unfolding most queue_flow
  in_time_lem s k h i = (le-div_iff_mul-le {k = p s} {x = k} {y = d + (j s + spread)} (sound.period s h)).0 (omega arith)

  -- none is released after d + spread, and the moved one then
  pub released_by_lem : (s k : ℕ) → s < length net.streams → k < n s → ρ s k ≤ d + spread
  unfolding ρ
  released_by_lem s k h i = by_test (is_last s k) (λ (z : ℕ). z ≤ d + spread) (λ g. le_refl (d + spread)) (λ g. go (k * p s) (in_time_lem s k h i))
    where
      go : (q : ℕ) → q ≤ d + (j s + spread) → q - j s ≤ d + spread
      go q l = omega arith

  moved : (s k : ℕ) → T (is_last s k) → ρ s k ≡ d + spread
  unfolding ρ
  moved s k t = by_test (is_last s k) (λ (z : ℕ). z ≡ d + spread) (λ g. refl) (λ g. absurd (g t))

  not_moved : (s k : ℕ) → suc k < n s → ρ s k ≡ k * p s - j s
  unfolding ρ
  not_moved s k h = by_test (is_last s k) (λ (z : ℕ). z ≡ k * p s - j s)
      (λ g. let e = both_eq s s₁ (suc k) (n s₁) g in absurd (omega (arith, e.1, ap n e.0)))
      (λ g. refl)

  -- when it reaches its queue
  pub arrives : (t : ℕ) (m : Message) → t + send t m ≡ net.send_greatest + (t - spread)
  arrives t m = omega (arith, sound.send)

  pub record Known (t : ℕ) (x : Release) : Type 0 where
    pub s : ℕ
    pub k : ℕ
    pub stream : s < length net.streams
    pub passes : T (tests s)
    pub number : k < n s
    pub is : rel s k ≡ x
    pub now : ρ s k ≡ t

  pub known : (t : ℕ) (x : Release) → Memᴰ x (fill t) → Known t x
  unfolding fill
  known t x i =
      let g = was_gathered (λ s. chosen (λ k. eqb (ρ s k) t) (rel s) (passing (λ k. true) (n s))) ns x i in
      let s = g.0 in
      let w = was_passing tests (length net.streams) s g.1 in
      let o = was_chosen (λ k. eqb (ρ s k) t) (rel s) (passing (λ k. true) (n s)) x g.2 in
      record { s = s; k = o.from; stream = w.0; passes = w.1; number = (was_passing (λ k. true) (n s) o.from o.there).0; is = o.is; now = eqb→eq (ρ s o.from) t o.passes }

  -- ---- the rule: two messages of a stream that are both in a span are near each other
  apart : (s x y i k : ℕ) → s < length net.streams → i < k → k < n s → x ≤ ρ s i → ρ s k ≤ x + y → k * p s ≤ i * p s + (y + j s)
  unfolding ρ
  apart s x y i k l h m a b =
      by_test (is_last s k) (λ (z : ℕ). z ≤ x + y → k * p s ≤ i * p s + (y + j s))
      (λ g c. go (i * p s) (k * p s) (omega (arith, a, not_moved s i (omega arith))) (omega (arith, in_time_lem s k l m)))
      (λ g c. go' (i * p s) (k * p s) (omega (arith, a, not_moved s i (omega arith))) c)
      b
    where
      go : (q q' : ℕ) → x ≤ q - j s → q' ≤ x + y + j s → q' ≤ q + (y + j s)
      go q q' f g = omega arith

      go' : (q q' : ℕ) → x ≤ q - j s → q' - j s ≤ x + y → q' ≤ q + (y + j s)
      go' q q' f g = omega arith

  rule : (s : ℕ) → s < length net.streams → (x y : ℕ) → span (released_by fill s) x y ≤ most (stream_flow net s) y
  unfolding fill most
  rule s h x y = pattern_rate (λ z. eqb z.stream s) rel ρ n (p s) (y + j s) s (length net.streams) tests (sound.period s h) (λ i k e t. e (eqb→eq i s t)) x y
      (λ i k. apart s x y i k h)

  pub plan : Planned net fill send flight receive
  plan = record {
    sized = λ t x i. (let w = known t x i in subst
        (λ (z : Release). Sized net z) w.is
        (record { stream = w.stream; least = sound.size w.s w.stream; greatest = le_refl (stream_at net w.s).size }));
    rule = rule;
    send_least_lem = λ t m. omega (arith, sound.send);
    send_greatest_lem = λ t m. omega (arith, sound.send);
    flight_least = λ t h f l. le_refl (port_at net (hop_at net h).port).least;
    flight_greatest = λ t h f l. sound.port_delay (hop_at net h).port (sound.references.hop_port h l);
    receive_least_lem = λ t h f. le_refl net.receive_least;
    receive_greatest_lem = λ t h f. sound.receive;
  }

  -- ---- the run: in each tick the messages of stream s₁ come behind all others
  abbrev pub late : Message → Bool
  late m = eqb m.stream s₁

  pub filled : RunsAs net fill send flight receive (λ w. 0) (λ e. 0)
  filled = runs_so net fill send flight receive (λ w. 0) (λ e. 0) (behind late) plan (behind_perm late)

  pub late_behind : (t : ℕ) → (l : List Message) × ((filled.run.choice t).reach ≡ behind late l)
  unfolding filled
  late_behind = reached_in_order net fill send flight receive (λ w. 0) (λ e. 0) (behind late) plan (behind_perm late)

  -- ---- a message of stream s₁ is released in tick d + spread
  module _ (listed : Memᴰ s₁ ns) where
    abbrev K : ℕ
    K = n s₁ - 1

    K_is : suc K ≡ n s₁
    K_is = omega (arith, most_pos (queue_flow net s₁) d)

    pub last_released : Memᴰ (rel s₁ K) (fill (d + spread))
    unfolding fill
    last_released = subst (λ (t : ℕ). Memᴰ (rel s₁ K) (fill t))
        (moved s₁ K (eq_both s₁ s₁ (suc K) (n s₁) refl K_is))
        (is_gathered (λ s. chosen (λ k. eqb (ρ s k) (ρ s₁ K)) (rel s) (passing (λ k. true) (n s))) ns s₁ (rel s₁ K) listed
        (is_chosen (λ k. eqb (ρ s₁ k) (ρ s₁ K)) (rel s₁) (passing (λ k. true) (n s₁)) K (is_passing (λ k. true) (n s₁) K (omega (arith, K_is)) tt) (eqb_refl (ρ s₁ K))))

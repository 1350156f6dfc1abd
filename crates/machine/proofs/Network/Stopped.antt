-- Runs that stop: what is permitted up to a tick goes on to a permitted run, with no further release.
-- Assumes nothing.
use Prim.Native.Nat.{ℕ, zero, suc, ◌+◌, ◌≤◌, ◌<◌}
use mathlib.Core.Bool.{Bool, cond}
use mathlib.Core.List.Memᴰ
use mathlib.Core.List.Permᴰ
use mathlib.Core.List.{List, [], Memᴰ, Permᴰ}
use mathlib.Core.Logic.{dite}
use mathlib.Core.Path.{◌≡◌, refl, ap}
use native.Mathlib.Decide.{dec_lt}
use native.Mathlib.Nat.{le_refl, le_of_eq, le_trans}
use native.Mathlib.Omega.{arith}
use lib.Dec.{leb, eqb}
use lib.ListN.{length}
use Rattle.base.specs.Tabulate.{total}
use Rattle.network.specs.Network.{Network, stream_at, port_at, hop_at}
use Rattle.station.specs.Station.{most}
use Rattle.machine.specs.Sum.{span, count}
use Rattle.machine.specs.Pool.{landed}
use Rattle.machine.specs.Messages.{Release, Message, messages}
use Rattle.machine.specs.Machine.{State, Choice, Run, released, delivered, sets_out, reaches, end_joined, all_sending}
use Rattle.machine.specs.Machine.{state}
use Rattle.machine.specs.Permitted.{Sized, stream_flow, released_by, PermittedBelow}
use Rattle.machine.specs.Sound.{Sound}
use Rattle.machine.specs.Runs.{Continued}
use Rattle.machine.proofs.Lists.Cases.{by_leb, by_leb₂}
use Rattle.machine.proofs.Stage.Envelope.{div_mono}
use Rattle.machine.proofs.Network.Auto.{full, states, played, state_is}

module _ (net : Network) (sound : Sound net) (r : Run) (n : ℕ) (per : PermittedBelow net r n) where
  abbrev rest : ℕ → State → Choice
  rest t s =
      full net (λ u. []) (λ u m. net.send_least) (λ u h f. (port_at net (hop_at net h).port).least) (λ u h f. net.receive_least) (λ v. 0) (λ e. 0) (λ l. l) t s

  abbrev only : ℕ → List Release
  only t = cond (leb (suc t) n) (r.releases t) []

  abbrev choose : ℕ → State → Choice
  choose t s = cond (leb (suc t) n) (r.choice t) (rest t s)

  abbrev base : Run
  base = record { releases = only; first_sub = r.first_sub; first_vl = r.first_vl; choice = r.choice }

  abbrev ext : ℕ → State
  ext = states net base choose

  -- the run that goes on
  abbrev on : Run
  on = played net base choose

  -- in the ticks below n the two are one
  same_releases : (t : ℕ) → t < n → only t ≡ r.releases t
  same_releases t h = by_leb (suc t) n (λ (l : List Release). l ≡ r.releases t) (λ k. refl) (λ k. absurd (omega arith))

  no_more : (t : ℕ) → n ≤ t → only t ≡ []
  no_more t h = by_leb (suc t) n (λ (l : List Release). l ≡ []) (λ k. absurd (omega arith)) (λ k. refl)

  same_choice : (t : ℕ) → t < n → choose t (ext t) ≡ r.choice t
  same_choice t h = by_leb (suc t) n (λ (c : Choice). c ≡ r.choice t) (λ k. refl) (λ k. absurd (omega arith))

  same_state : (t : ℕ) → t ≤ n → state net on t ≡ state net r t
  unfolding state
  same_state zero h = refl
  same_state (suc t) h = rw (same_state t (omega arith), same_releases t (omega arith), same_choice t (omega arith))

  -- a statement on the messages, the choice and the state of a tick, from the two cases
  each : (P : (t : ℕ) → List Message → Choice → State → Type 0) → ((t : ℕ) → t < n → P t (released r t) (r.choice t) (state net r t))
      → ((t : ℕ) → P t [] (rest t (ext t)) (ext t)) → (t : ℕ) → P t (released on t) (on.choice t) (state net on t)
  each P f g t = by_leb₂ (suc t) n (λ (l : List Release) (c : Choice). P t (messages t 0 l) c (state net on t))
      (λ h. rw (same_state t (omega arith)) (f t h)) (λ h. rw (state_is net base choose t) (g t))

  module _ (s : ℕ) (hs : s < length net.streams) where
    abbrev q : Release → Bool
    q x = eqb x.stream s

    span_before : (x d : ℕ) → x + d < n → span (released_by only s) x d ≡ span (released_by r.releases s) x d
    unfolding span
    span_before x zero h = ap (count q) (same_releases x (omega arith))
    span_before x (suc d) h = omega (arith, span_before x d (omega arith), ap (count q) (same_releases (suc (x + d)) (omega arith)))

    most_more : (d : ℕ) → most (stream_flow net s) d ≤ most (stream_flow net s) (suc d)
    unfolding most
    most_more d = omega (arith, div_mono (d + (stream_at net s).jitter) (suc d + (stream_at net s).jitter) (stream_at net s).period (sound.period s hs) (omega arith))

    rule_on : (x d : ℕ) → span (released_by only s) x d ≤ most (stream_flow net s) d
    unfolding span total
    rule_on x zero = dite (dec_lt x n)
        (λ h. le_trans (le_of_eq (span_before x 0 (omega arith))) (per.rule s hs x 0 (omega arith)))
        (λ h. omega (arith, ap (count q) (no_more x (omega arith))))
    rule_on x (suc d) = dite (dec_lt (x + suc d) n)
        (λ h. le_trans (le_of_eq (span_before x (suc d) h)) (per.rule s hs x (suc d) h))
        (λ h. omega (arith, rule_on x d, most_more d, ap (count q) (no_more (suc (x + d)) (omega arith))))

  pub continued : Continued net r n
  continued = record {
    run = on;
    permitted = λ k. record {
      sized = λ t x i. by_leb (suc t) n (λ (l : List Release). Memᴰ x l → Sized net x) (λ h. per.sized t x h)
          (λ h j. absurd (Memᴰ.not-nil j));
      rule = λ s hs x d i. rule_on s hs x d;
      send_least_lem = λ t m i. each (λ t ms c s. Memᴰ m ms → net.send_least ≤ c.send m) (λ t. per.send_least_lem t m)
          (λ t j. le_refl net.send_least) t;
      send_greatest_lem = λ t m i. each (λ t ms c s. Memᴰ m ms → c.send m ≤ net.send_greatest) (λ t. per.send_greatest_lem t m)
          (λ t j. sound.send) t;
      reach = λ t i. each (λ t ms c s. Permᴰ (landed t (all_sending net t ms c s)) c.reach) per.reach
          (λ t. Permᴰ.refl (rest t (ext t)).reach) t;
      enter = λ t p i. each (λ t ms c s. Permᴰ (reaches net t c s p) (c.enter p)) (λ t. per.enter t p)
          (λ t. Permᴰ.refl ((rest t (ext t)).enter p)) t;
      turns = λ t e i. each (λ t ms c s. Permᴰ (end_joined net t c s e).lanes (c.turns e)) (λ t. per.turns t e)
          (λ t. Permᴰ.refl ((rest t (ext t)).turns e)) t;
      flight_least = λ t h f i l. each (λ t ms c s. Memᴰ f (sets_out net t c s h)
          → (port_at net (hop_at net h).port).least ≤ c.flight h f)
          (λ t j. per.flight_least t h f j l) (λ t j. le_refl (port_at net (hop_at net h).port).least) t;
      flight_greatest = λ t h f i l. each (λ t ms c s. Memᴰ f (sets_out net t c s h)
          → c.flight h f ≤ (port_at net (hop_at net h).port).greatest)
          (λ t j. per.flight_greatest t h f j l) (λ t j. sound.port_delay (hop_at net h).port (sound.references.hop_port h l)) t;
      receive_least_lem = λ t h f i l. each (λ t ms c s. Memᴰ f (delivered net t c s h) → net.receive_least ≤ c.receive h f)
          (λ t j. per.receive_least_lem t h f j l) (λ t j. le_refl net.receive_least) t;
      receive_greatest_lem = λ t h f i l. each (λ t ms c s. Memᴰ f (delivered net t c s h) → c.receive h f ≤ net.receive_greatest)
          (λ t j. per.receive_greatest_lem t h f j l) (λ t j. sound.receive) t;
    };
    in_turn = λ h m t e k. each (λ t ms c s. c.turns e ≡ (end_joined net t c s e).lanes) (λ t i. h t e i) (λ t. refl) t;
    same_first_sub = refl;
    same_first_vl = refl;
    same_releases = same_releases;
    same_choice = same_choice;
    same_state = same_state;
  }

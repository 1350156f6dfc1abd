-- A permitted run for any releases that keep the rule, any delays within their bounds, any first turns, and any order of what reaches the queues in a tick: what comes to a port comes in the order of the hops, and each link takes its VLs in turn.
-- Assumes nothing.
use Prim.Native.Nat.{ℕ, zero, suc}
use mathlib.Core.List.Permᴰ
use mathlib.Core.List.{List, [], Permᴰ}
use mathlib.Core.Path.{◌≡◌, refl, ap}
use Rattle.network.specs.Network.{Network}
use Rattle.machine.specs.Turn.{Lane}
use Rattle.machine.specs.Pool.{landed}
use Rattle.machine.specs.Messages.{Release, Message, Frame, Copy, messages}
use Rattle.machine.specs.Machine.{State, Choice, Run, released, reaches, end_joined, all_sending, step, start, state}
use Rattle.machine.specs.Runs.{Planned, RunsAs, Runs}

-- a run in which each tick's choice is made of the state before it
module _ (net : Network) (base : Run) (choose : ℕ → State → Choice) where
  pub states : ℕ → State
  states zero = start net base
  states (suc t) = step net t (released base t) (choose t (states t)) (states t)

  abbrev pub played : Run
  played = record { releases = base.releases; first_sub = base.first_sub; first_vl = base.first_vl; choice = λ t. choose t (states t) }

  pub state_is : (t : ℕ) → state net played t ≡ states t
  unfolding state states
  state_is zero = refl
  state_is (suc t) = ap (step net t (released base t) (choose t (states t))) (state_is t)

module _ (net : Network) (releases : ℕ → List Release) (send : ℕ → Message → ℕ) (flight receive : ℕ → ℕ → Frame → ℕ)
    (first_sub first_vl : ℕ → ℕ) (order : List Message → List Message) where
  abbrev with_delays : ℕ → List Message → (ℕ → List Copy) → (ℕ → List (Lane Frame)) → Choice
  with_delays t ms cs ls = record { send = send t; reach = ms; flight = flight t; enter = cs; turns = ls; receive = receive t }

  abbrev plain : ℕ → Choice
  plain t = with_delays t [] (λ p. []) (λ e. [])

  abbrev due : ℕ → State → List Message
  due t s = landed t (all_sending net t (messages t 0 (releases t)) (plain t) s)

  -- what comes is what is due
  abbrev coming : ℕ → State → Choice
  coming t s = with_delays t (order (due t s)) (reaches net t (plain t) s) (λ e. [])

  -- and each link looks at its VLs as they stand
  abbrev pub full : ℕ → State → Choice
  full t s = with_delays t (coming t s).reach (coming t s).enter (λ e. (end_joined net t (coming t s) s e).lanes)

  abbrev base : Run
  base = record { releases = releases; first_sub = first_sub; first_vl = first_vl; choice = plain }

  abbrev at : ℕ → State
  at = states net base full

  module _ (plan : Planned net releases send flight receive) (orders : (l : List Message) → Permᴰ l (order l)) where
    pub runs_so : RunsAs net releases send flight receive first_sub first_vl
    runs_so = record {
      run = played net base full;
      permitted = λ n. record {
        sized = λ t x h. plan.sized t x;
        rule = λ s h x d k. plan.rule s h x d;
        send_least_lem = λ t m h k. plan.send_least_lem t m;
        send_greatest_lem = λ t m h k. plan.send_greatest_lem t m;
        reach = λ t h. rw (state_is net base full t) (orders (due t (at t)));
        enter = λ t p h. rw (state_is net base full t) (Permᴰ.refl (reaches net t (plain t) (at t) p));
        turns = λ t e h. rw (state_is net base full t) (Permᴰ.refl ((full t (at t)).turns e));
        flight_least = λ t h f i l k. plan.flight_least t h f l;
        flight_greatest = λ t h f i l k. plan.flight_greatest t h f l;
        receive_least_lem = λ t h f i l k. plan.receive_least_lem t h f;
        receive_greatest_lem = λ t h f i l k. plan.receive_greatest_lem t h f;
      };
      in_turn = λ n t e h. rw (state_is net base full t);
      releases_are = refl;
      first_sub_is = refl;
      first_vl_is = refl;
      send_is = λ t. refl;
      flight_is = λ t. refl;
      receive_is = λ t. refl;
    }

    pub reached_in_order : (t : ℕ) → (l : List Message) × ((runs_so.run.choice t).reach ≡ order l)
    unfolding runs_so
    reached_in_order t = (due t (at t), refl)

pub runs : (net : Network) → Runs net
runs net releases send flight receive first_sub first_vl plan =
    runs_so net releases send flight receive first_sub first_vl (λ l. l) plan (λ l. Permᴰ.refl l)

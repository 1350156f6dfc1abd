-- Two VLs for one link (AFewTicks: pair): to take VL 0 first is in turn; to take VL 1 first is permitted as well, and is not in turn.
-- Assumes nothing.
use Prim.Native.Nat.{ℕ, zero, suc, ◌+◌, ◌≤◌, ◌<◌}
use mathlib.Core.Bool.{Bool, true, false, cond}
use mathlib.Core.List.Memᴰ
use mathlib.Core.List.Permᴰ
use mathlib.Core.List.{List, [], ◌∷◌, Memᴰ, Permᴰ}
use mathlib.Core.Path.{◌≡◌, refl, sym, ap, subst}
use native.Mathlib.Nat.{le_refl}
use native.Mathlib.Omega.{arith}
use lib.Dec.{eqb}
use Rattle.base.specs.Least.{least_from}
use Rattle.base.specs.Tabulate.{passing, total}
use Rattle.base.specs.Tests.{number_or0}
use Rattle.frame.specs.Frame.{line_overhead, least_frame, least_line}
use Rattle.frame.specs.Packets.{udp_header, most_fragment, full_fragment, carried, packets, cut, fragment_line, packet_lines}
use Rattle.network.specs.Views.{hops_on, vls_of}
use Rattle.station.specs.Station.{most}
use Rattle.machine.specs.Sum.{span}
use Rattle.machine.specs.Turn.{Lane, add, lanes_of, from_turn}
use Rattle.machine.specs.Pool.{landed}
use Rattle.machine.specs.Messages.{Release, Frame, framed}
use Rattle.machine.specs.Machine.{released, reaches, end_joined, hands, all_sending, state}
use Rattle.machine.specs.Permitted.{stream_flow, released_by, Sized, PermittedBelow, InTurn}
use Rattle.machine.proofs.AFewTicks.{pair, message_on, waiting, turn_kept, turn_passed}

-- the one order is in turn, as the VLs stand
pub is_in_turn : InTurn pair turn_kept 1
unfolding state passing vls_of packet_lines cut packets number_or0 least_from carried most_fragment full_fragment udp_header fragment_line least_line line_overhead least_frame
is_in_turn zero e h = as_they_stand (eqb 0 e)
  where
    as_they_stand : (mine : Bool) → cond mine (waiting 0 ∷ waiting 1 ∷ []) []
        ≡ add (λ v. framed v 0 (hands pair 0 (turn_kept.choice 0) (state pair turn_kept 0) v).got) (lanes_of (from_turn 0 (passing (λ v. mine) 2)))
    as_they_stand true = refl
    as_they_stand false = refl
is_in_turn (suc t) e h = absurd (omega arith)

-- the other is not, and is permitted
pub not_in_turn : InTurn pair turn_passed 1 → ⊥
unfolding state passing vls_of packet_lines cut packets number_or0 least_from carried most_fragment full_fragment udp_header fragment_line least_line line_overhead least_frame
not_in_turn h = omega (arith, ap first_name (h 0 0 (omega arith)))
  where
    first_name : List (Lane Frame) → ℕ
    first_name [] = 0
    first_name (l ∷ ls) = l.name

pub is_permitted : PermittedBelow pair turn_passed 1
unfolding state passing vls_of hops_on packet_lines cut packets number_or0 least_from carried most_fragment full_fragment udp_header fragment_line least_line line_overhead least_frame span most total
is_permitted = record {
  sized = sized;
  rule = rule;
  send_least_lem = λ t m h k. le_refl 0;
  send_greatest_lem = λ t m h k. le_refl 0;
  reach = reach;
  enter = enter;
  turns = turns;
  flight_least = λ t h f l k. absurd (omega arith);
  flight_greatest = λ t h f l k. absurd (omega arith);
  receive_least_lem = λ t h f l e k. le_refl 0;
  receive_greatest_lem = λ t h f l e k. le_refl 0;
}
  where
    sized : (t : ℕ) (x : Release) → t < 1 → Memᴰ x (turn_passed.releases t) → Sized pair x
    sized zero x h (Memᴰ.head e) = subst (λ (z : Release). Sized pair z) (sym e) (record { stream = omega arith; least = le_refl 10; greatest = le_refl 10 })
    sized zero x h (Memᴰ.tail (Memᴰ.head e)) = subst (λ (z : Release). Sized pair z) (sym e) (record { stream = omega arith; least = le_refl 10; greatest = le_refl 10 })
    sized zero x h (Memᴰ.tail (Memᴰ.tail m)) = absurd (Memᴰ.not-nil m)
    sized (suc t) x h m = absurd (omega arith)

    one : (s : ℕ) → s < 2 → released_by turn_passed.releases s 0 ≤ most (stream_flow pair s) 0
    one zero l = le_refl 1
    one (suc zero) l = le_refl 1
    one (suc (suc s)) l = absurd (omega arith)

    rule : (s : ℕ) → s < 2 → (x d : ℕ) → x + d < 1 → span (released_by turn_passed.releases s) x d ≤ most (stream_flow pair s) d
    rule s l zero zero h = one s l
    rule s l zero (suc d) h = absurd (omega arith)
    rule s l (suc x) d h = absurd (omega arith)

    reach : (t : ℕ) → t < 1 → Permᴰ (landed t (all_sending pair t (released turn_passed t) (turn_passed.choice t) (state pair turn_passed t))) (turn_passed.choice t).reach
    reach zero h = Permᴰ.refl (message_on 0 ∷ message_on 1 ∷ [])
    reach (suc t) h = absurd (omega arith)

    enter : (t p : ℕ) → t < 1 → Permᴰ (reaches pair t (turn_passed.choice t) (state pair turn_passed t) p) []
    enter t p h = Permᴰ.nil

    either : (mine : Bool) → Permᴰ (add (λ v. framed v 0 (hands pair 0 (turn_passed.choice 0) (state pair turn_passed 0) v).got) (lanes_of (from_turn 0 (passing (λ v. mine) 2))))
        (cond mine (waiting 1 ∷ waiting 0 ∷ []) [])
    either true = Permᴰ.swap refl refl
    either false = Permᴰ.nil

    turns : (t e : ℕ) → t < 1 → Permᴰ (end_joined pair t (turn_passed.choice t) (state pair turn_passed t) e).lanes ((turn_passed.choice t).turns e)
    turns zero e h = either (eqb 0 e)
    turns (suc t) e h = absurd (omega arith)

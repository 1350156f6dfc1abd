-- A run of the machine, part by part: each part's state is that of its own machine, fed by the others.
-- Assumes nothing.
use Prim.Native.Nat.{ℕ, zero, suc}
use mathlib.Core.List.{List}
use mathlib.Core.Path.{◌≡◌, refl, sym, ap}
use Rattle.network.specs.Network.{Network, vl_at, hop_at}
use Rattle.machine.specs.Pool.{landed}
use Rattle.machine.specs.Queue.{Queue}
use Rattle.machine.specs.Fifo.{Fifo, ended}
use Rattle.machine.specs.Messages.{Packet, Frame, Copy, to_lane, port_cost, framed, of_vl, of_hop}
use Rattle.machine.specs.Machine.{State, Choice, Run, state, start, delivered, sets_out, all_flying, complete, hands}
use Rattle.machine.proofs.Stage.Parts.{queue_tick, fifo_tick, queue, handed, fifo, fifo_out}

module _ (net : Network) (r : Run) where
  abbrev pub ch : ℕ → Choice
  ch t = r.choice t

  abbrev pub st : ℕ → State
  st t = state net r t

  -- VLs
  abbrev pub news : ℕ → ℕ → ℕ → List Packet
  news v t i = to_lane net v i (ch t).reach

  pub queue_is : (v t : ℕ) → (st t).queue v ≡ queue (vl_at net v).gap ((start net r).queue v) (news v) t
  unfolding state queue
  queue_is v zero = refl
  queue_is v (suc t) = ap (λ (s : Queue Packet). (queue_tick (vl_at net v).gap t (news v t) s).queue) (queue_is v t)

  -- the frame that VL v hands over in tick t, if any
  abbrev pub hand : ℕ → ℕ → List Frame
  hand v t = framed v t (hands net t (ch t) (st t) v).got

  pub hand_is : (v t : ℕ) → hand v t ≡ framed v t (handed (vl_at net v).gap ((start net r).queue v) (news v) t)
  unfolding handed
  hand_is v t = ap (λ (s : Queue Packet). framed v t (queue_tick (vl_at net v).gap t (news v t) s).got) (queue_is v t)

  pub hands_is : (v t : ℕ) → (hands net t (ch t) (st t) v).got ≡ handed (vl_at net v).gap ((start net r).queue v) (news v) t
  unfolding handed
  hands_is v t = ap (λ (s : Queue Packet). (queue_tick (vl_at net v).gap t (news v t) s).got) (queue_is v t)

  -- what the end system of VL v sends whole of it in tick t
  abbrev pub sent : ℕ → ℕ → List Frame
  sent v t = of_vl v (ended t ((st t).end (vl_at net v).system).link)

  -- hops
  abbrev pub source : ℕ → ℕ → List Frame
  source h t = sets_out net t (ch t) (st t) h

  abbrev pub lands_at : ℕ → ℕ → List Frame
  lands_at h t = landed t (all_flying net t (ch t) (st t) h)

  -- ports
  pub port_is : (p t : ℕ) → (st t).port p ≡ fifo (port_cost net p) (λ u. (ch u).enter p) t
  unfolding state fifo
  port_is p zero = refl
  port_is p (suc t) = ap (λ (s : Fifo Copy). fifo_tick (port_cost net p) t ((ch t).enter p) s) (port_is p t)

  abbrev pub into : ℕ → ℕ → List Frame
  into h t = of_hop h ((ch t).enter (hop_at net h).port)

  abbrev pub left : ℕ → ℕ → List Frame
  left h t = delivered net t (ch t) (st t) h

  pub left_is : (h t : ℕ) → of_hop h (fifo_out (port_cost net (hop_at net h).port) (λ u. (ch u).enter (hop_at net h).port) t) ≡ left h t
  unfolding fifo_out
  left_is h t = ap (λ (s : Fifo Copy). of_hop h (ended t s.link)) (sym (port_is (hop_at net h).port t))

  -- destinations
  abbrev pub done : ℕ → ℕ → List Frame
  done h t = complete net t (ch t) (st t) h

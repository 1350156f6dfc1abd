-- A VL with one sub-link: its queue is a FIFO, and what was brought last leaves last.
-- Assumes nothing.
use Prim.Native.Nat.{ℕ, zero, suc, ◌≤◌, ◌<◌}
use mathlib.Core.List.{List, [], ◌∷◌, ◌++◌, append-nil}
use mathlib.Core.Logic.{⊎_elim}
use Rattle.std.specs.Prelude.{Option, None, Some}
use mathlib.Core.Path.{◌≡◌, refl, sym, subst}
use native.Mathlib.Nat.{eq-or-lt_of_le}
use native.Mathlib.Omega.{arith}
use lib.ListN.{length}
use Rattle.machine.specs.Turn.{Lane, add, serve}
use Rattle.machine.specs.Queue.{Queue, Handed, hand, hand_over}
use Rattle.machine.proofs.Lists.Cases.{by_leb}
use Rattle.machine.proofs.Lists.Lanes.{listed}
use Rattle.machine.proofs.Stage.Parts.{queue_tick, queue, handed}

module _ {X : Type 0} where
  -- the list is empty, or its last one is x
  unfoldable pub EndsIn : X → List X → Type 0
  EndsIn x [] = Unit {0}
  EndsIn x (y ∷ []) = y ≡ x
  EndsIn x (y ∷ (z ∷ l)) = EndsIn x (z ∷ l)

  pub ends_over : (x : X) (l b : List X) → 0 < length b → EndsIn x b → EndsIn x (l ++ b)
  unfolding EndsIn
  ends_over x [] b h e = e
  ends_over x (y ∷ []) [] h e = absurd (omega arith)
  ends_over x (y ∷ []) (z ∷ b) h e = e
  ends_over x (y ∷ (z ∷ l)) b h e = ends_over x (z ∷ l) b h e

  pub ends_one : (x : X) (l : List X) → EndsIn x (l ++ (x ∷ []))
  unfolding EndsIn
  ends_one x l = ends_over x l (x ∷ []) (omega arith) refl

  ends_less : (x : X) (o : Option X) (l : List X) → EndsIn x (listed o ++ l) → EndsIn x l
  unfolding EndsIn
  ends_less x None l e = e
  ends_less x (Some y) [] e = tt
  ends_less x (Some y) (z ∷ l) e = e

  ends_last : (x y : X) (l : List X) → EndsIn x (y ∷ l) → length l ≡ zero → y ≡ x
  unfolding EndsIn
  ends_last x y [] e h = e
  ends_last x y (z ∷ l) e h = absurd (omega arith)

  abbrev pub lane : List X → Lane X
  lane l = record { name = 0; line = l }

  -- the one queue, its arrivals in it, is what a tick hands over and what it leaves
  abbrev Left : List X → Handed X → Type 0
  Left m h = (l : List X) × (h.queue.lanes ≡ lane l ∷ []) × (m ≡ listed h.got ++ l)

  serves : (gap t nx : ℕ) (m : List X) → Left m (hand gap t nx (serve [] (lane m ∷ [])).lanes (serve [] (lane m ∷ [])).got)
  serves gap t nx [] = ([], refl, refl)
  serves gap t nx (y ∷ l) = (l, refl, refl)

  left : (gap t : ℕ) (f : ℕ → List X) (s : Queue X) (l : List X) → s.lanes ≡ lane l ∷ [] → Left (l ++ f 0) (queue_tick gap t f s)
  left gap t f s l e = subst (λ (ls : List (Lane X)). Left (l ++ f 0) (hand_over gap t (record { lanes = add f ls; next = s.next })))
      (sym e)
      (by_leb s.next t (Left (l ++ f 0)) (λ g. serves gap t s.next (l ++ f 0)) (λ g. (l ++ f 0, refl, refl)))

  module _ (gap : ℕ) (s₀ : Queue X) (new : ℕ → ℕ → List X) (one : s₀.lanes ≡ lane [] ∷ []) where
    at : (t : ℕ) → (l : List X) × ((queue gap s₀ new t).lanes ≡ lane l ∷ [])
    unfolding queue
    at zero = ([], one)
    at (suc t) = let w = left gap t (new t) (queue gap s₀ new t) (at t).0 (at t).1 in (w.0, w.1)

    next : (t : ℕ) → (at t).0 ++ new t 0 ≡ listed (handed gap s₀ new t) ++ (at (suc t)).0
    unfolding at handed
    next t = (left gap t (new t) (queue gap s₀ new t) (at t).0 (at t).1).2

    -- nothing is brought after tick n, and what is brought in it ends with x
    module _ (x : X) (n : ℕ) (some-come : 0 < length (new n 0)) (by-x : EndsIn x (new n 0)) (no_more : (t : ℕ) → n < t → new t 0 ≡ []) where
      tail : (t : ℕ) → n ≤ t → EndsIn x ((at t).0 ++ new t 0)
      tail zero h = let e : n ≡ zero = omega arith in subst (λ (u : ℕ). EndsIn x ((at u).0 ++ new u 0)) e
          (ends_over x (at n).0 (new n 0) some-come by-x)
      tail (suc t) h = ⊎_elim
          (λ e. subst (λ (u : ℕ). EndsIn x ((at u).0 ++ new u 0)) e (ends_over x (at n).0 (new n 0) some-come by-x))
          (λ l. rw (no_more (suc t) l, append-nil (at (suc t)).0)
          (ends_less x (handed gap s₀ new t) (at (suc t)).0 (rw (next t) at (tail t (omega arith)))))
          (eq-or-lt_of_le h)

      -- what is handed over while nothing else is left is x
      pub last_out : (t : ℕ) (y : X) → n ≤ t → handed gap s₀ new t ≡ Some y
          → ((l : List X) → (queue gap s₀ new (suc t)).lanes ≡ lane l ∷ [] → length l ≡ zero) → y ≡ x
      last_out t y h e z = ends_last x y (at (suc t)).0 (rw (next t, e) at (tail t h)) (z (at (suc t)).0 (at (suc t)).1)

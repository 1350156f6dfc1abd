-- What a tick does to the queues of a VL: a packet is handed over, or all stays. So hand-overs are at least one gap apart, what is handed
-- over was brought, and nothing is made or lost. Assumes nothing.
use Prim.Native.Nat.{ℕ, zero, suc, ◌+◌, ◌≤◌, ◌<◌, ◌/◌}
use mathlib.Core.List.Memᴰ
use mathlib.Core.List.{List, [], ◌++◌, Memᴰ}
use mathlib.Core.List.Permᴰ
use mathlib.Core.List.{Permᴰ}
use mathlib.Core.Logic.{inl, inr, ◌⊎◌, ⊎_elim}
use Rattle.std.specs.Prelude.{Option, None, Some}
use mathlib.Core.Path.{◌≡◌, refl, sym, ap, ◌∙◌}
use native.Mathlib.Omega.{arith}
use lib.ListN.{length}
use Rattle.machine.specs.Sum.{span, weigh}
use Rattle.machine.specs.Turn.{Lane, add, serve}
use Rattle.machine.specs.Queue.{Queue, Handed, hand}
use Rattle.machine.proofs.Lists.Cases.{by_leb}
use Rattle.machine.proofs.Lists.Sums.{upto, weigh_ones}
use Rattle.machine.proofs.Lists.Spaced.{Spaced, spaced_count}
use Rattle.machine.proofs.Lists.Turns.{Empty, Took, turn}
use Rattle.machine.proofs.Lists.Orders.{was_gathered}
use Rattle.machine.proofs.Lists.Lanes.{listed, flat, names, flat_empty, flat_add, names_add, Turned, turned, brought, brought_weigh}
use Rattle.machine.proofs.Stage.Parts.{queue_tick, queue, handed}
use Rattle.machine.proofs.Stage.Moves.{kept, out_origin}
use Rattle.machine.proofs.Stage.Moves as Moves

module _ {X : Type 0} where
  -- the three things a tick can do
  pub record Gave (gap t : ℕ) (new : ℕ → List X) (s : Queue X) (h : Handed X) : Type 0 where
    pub ready : s.next ≤ t
    pub took : Took (add new s.lanes) (serve [] (add new s.lanes))
    pub is : h ≡ record { got = Some took.head; queue = record { lanes = (serve [] (add new s.lanes)).lanes; next = t + gap } }

  pub record Kept (t : ℕ) (new : ℕ → List X) (s : Queue X) (h : Handed X) : Type 0 where
    pub why : (t < s.next) ⊎ Empty (add new s.lanes)
    pub is : h ≡ record { got = None; queue = record { lanes = add new s.lanes; next = s.next } }

  pub cases : (gap t : ℕ) (new : ℕ → List X) (s : Queue X) → Gave gap t new s (queue_tick gap t new s) ⊎ Kept t new s (queue_tick gap t new s)
  cases gap t new s =
      by_leb s.next t (λ (h : Handed X). Gave gap t new s h ⊎ Kept t new s h)
      (λ r. ⊎_elim
      (λ k. inl (record {
        ready = r;
        took = k;
        is = ap (λ (o : Option X). hand gap t s.next (serve [] (add new s.lanes)).lanes o) k.got;
      }))
      (λ k. inr (record {
        why = inr k.empty;
        is = ap (λ (o : Option X). hand gap t s.next (serve [] (add new s.lanes)).lanes o) k.got
            ∙ ap (λ (ls : List (Lane X)). hand gap t s.next ls None) k.now;
      }))
      (turn (add new s.lanes)))
      (λ r. inr (record { why = inl r; is = refl }))

  hand_turned : (gap t next : ℕ) {all : List (Lane X)} (ls : List (Lane X)) (o : Option X) → Turned all (record { got = o; lanes = ls })
      → Turned all (record { got = (hand gap t next ls o).got; lanes = (hand gap t next ls o).queue.lanes })
  hand_turned gap t next ls None w = w
  hand_turned gap t next ls (Some x) w = w

  pub queue_turned : (gap t : ℕ) (new : ℕ → List X) (s : Queue X)
      → Turned (add new s.lanes) (record { got = (queue_tick gap t new s).got; lanes = (queue_tick gap t new s).queue.lanes })
  queue_turned gap t new s =
      let all = add new s.lanes in
      by_leb s.next t (λ (h : Handed X). Turned all (record { got = h.got; lanes = h.queue.lanes }))
      (λ r. hand_turned gap t s.next (serve [] all).lanes (serve [] all).got (turned all))
      (λ r. record { same = Permᴰ.refl (flat all); names_same = Permᴰ.refl (names all) })

-- 1 if there is one
abbrev pub tally_of : {X : Type 0} → Option X → ℕ
tally_of o = length (listed o)

pub given : {X : Type 0} (o : Option X) → 0 < tally_of o → (x : X) × (o ≡ Some x)
given None h = absurd (omega arith)
given (Some x) h = (x, refl)

pub is_listed : {X : Type 0} (o : Option X) (x : X) → Memᴰ x (listed o) → o ≡ Some x
is_listed None x m = absurd (Memᴰ.not-nil m)
is_listed (Some y) x m = ap Some (sym (Memᴰ.eq_of_singleton m))

-- ---- hand-overs are at least one gap apart, and what is handed over was brought
module _ {X : Type 0} (gap : ℕ) (s₀ : Queue X) (new : ℕ → ℕ → List X) (next₀ : s₀.next ≡ zero) where
  spaced : (t : ℕ) → Spaced gap (λ u. tally_of (handed gap s₀ new u)) (λ u. (queue gap s₀ new u).next) t
  unfolding queue handed
  spaced t = ⊎_elim
      (λ g. inr (ap (λ (h : Handed X). tally_of h.got) g.is, g.ready, ap (λ (h : Handed X). h.queue.next) g.is))
      (λ k. inl (ap (λ (h : Handed X). tally_of h.got) k.is, ap (λ (h : Handed X). h.queue.next) k.is))
      (cases gap t (new t) (queue gap s₀ new t))

  pub hand_count : 0 < gap → (x d : ℕ) → span (λ u. tally_of (handed gap s₀ new u)) x d ≤ d / gap + 1
  unfolding queue
  hand_count pos = spaced_count gap (λ u. tally_of (handed gap s₀ new u)) (λ u. (queue gap s₀ new u).next) pos (omega arith) spaced

module _ {X : Type 0} (gap : ℕ) (s₀ : Queue X) (new : ℕ → ℕ → List X) where
  abbrev pub lanes : ℕ → List (Lane X)
  lanes t = (queue gap s₀ new t).lanes

  pub stay : (t : ℕ) → Permᴰ (names (lanes t)) (names (lanes (suc t)))
  unfolding queue
  stay t = rw (names_add (new t) (lanes t)) at (queue_turned gap t (new t) (queue gap s₀ new t)).names_same

  pub moves : (t : ℕ) → Permᴰ (flat (lanes t) ++ brought new lanes stay t) (listed (handed gap s₀ new t) ++ flat (lanes (suc t)))
  unfolding queue handed
  moves t = Permᴰ.trans (flat_add (new t) (lanes t)) (queue_turned gap t (new t) (queue gap s₀ new t)).same

  module _ (empty₀ : Empty s₀.lanes) where
    pub none_first : flat (lanes zero) ≡ []
    unfolding queue
    none_first = flat_empty s₀.lanes empty₀

    -- what has been handed over, with what is there, is what has come
    pub queue_kept : (t : ℕ) → upto (λ u. tally_of (handed gap s₀ new u)) t + length (flat (lanes t))
        ≡ upto (λ u. weigh (λ i. length (new u i)) (names s₀.lanes)) t
    unfolding queue
    queue_kept t = simp (weigh_ones) at (simp (brought_weigh new lanes stay (λ x. 1)) at
        (kept (λ u. flat (lanes u)) (brought new lanes stay) (λ u. listed (handed gap s₀ new u)) none_first moves (λ x. 1) t))

    module _ (O : X → Type 0) (came : (t i : ℕ) (x : X) → Memᴰ x (new t i) → O x) where
      new_is : (t : ℕ) (x : X) → Memᴰ x (brought new lanes stay t) → O x
      new_is t x m = let w = was_gathered (new t) (names (lanes t)) x m in came t w.0 x w.2

      pub origin : (t : ℕ) (x : X) → Memᴰ x (flat (lanes t)) → O x
      origin = Moves.origin (λ u. flat (lanes u)) (brought new lanes stay) (λ u. listed (handed gap s₀ new u)) none_first moves
          (λ t x. O x) new_is (λ t x o. o)

      pub hand_origin : (t : ℕ) (x : X) → handed gap s₀ new t ≡ Some x → O x
      hand_origin t x e = out_origin (λ u. flat (lanes u)) (brought new lanes stay) (λ u. listed (handed gap s₀ new u)) none_first moves
          (λ u y. O y) new_is (λ u y o. o) t x (rw e (Memᴰ.head refl))

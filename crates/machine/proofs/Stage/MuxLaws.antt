-- An end system's link as a link with what waits for it: what its lanes hold is one list, and the link takes the first that it looks at.
-- Assumes nothing.
use Prim.Native.Nat.{ℕ}
use mathlib.Core.List.Permᴰ
use mathlib.Core.List.{List, [], ◌++◌, Permᴰ}
use Rattle.std.specs.Prelude.{Option, None, Some}
use mathlib.Core.Path.{◌≡◌, refl}
use Rattle.machine.specs.Lists.{gather}
use Rattle.machine.specs.Turn.{Lane, add, serve}
use Rattle.machine.specs.Mux.{Mux, launch, begin}
use Rattle.machine.specs.Fifo.{Sent, still}
use Rattle.machine.proofs.Lists.Cases.{by_leb}
use Rattle.machine.proofs.Lists.Lanes.{listed, flat, names, flat_perm, names_add, flat_add, turned, none_waits}
use Rattle.machine.proofs.Stage.Parts.{mux_tick}
use Rattle.machine.proofs.Stage.LinkLaws.{Starts, goes_on_lem, takes, rests}

module _ {X : Type 0} (cost : X → ℕ) where
  launch_starts : (t : ℕ) {l : List X} (ls : List (Lane X)) (o : Option X) → Permᴰ l (listed o ++ flat ls) → (o ≡ None → flat ls ≡ [])
      → Starts cost t l None (flat (launch cost t ls o).lanes) (launch cost t ls o).link
  launch_starts t ls None p h = rests p (h refl)
  launch_starts t ls (Some x) p h = takes p

  begin_starts : (t : ℕ) {l : List X} (order : List (Lane X)) → Permᴰ l (flat order) → (k : Option (Sent X))
      → Starts cost t l (still t k) (flat (begin cost t order (still t k)).lanes) (begin cost t order (still t k)).link
  begin_starts t {l} order p k = go k
    where
      idle : Starts cost t l None (flat (begin cost t order None).lanes) (begin cost t order None).link
      idle = launch_starts t (serve [] order).lanes (serve [] order).got (Permᴰ.trans p (turned order).same) (none_waits order)

      go : (k : Option (Sent X))
          → Starts cost t l (still t k) (flat (begin cost t order (still t k)).lanes) (begin cost t order (still t k)).link
      go None = idle
      go (Some s) = by_leb s.ends t
          (λ (k : Option (Sent X)). Starts cost t l k (flat (begin cost t order k).lanes) (begin cost t order k).link)
          (λ m. idle) (λ m. goes_on_lem m p)

  launch_lanes : (t : ℕ) (ls : List (Lane X)) (o : Option X) → (launch cost t ls o).lanes ≡ ls
  launch_lanes t ls None = refl
  launch_lanes t ls (Some x) = refl

  begin_names : (t : ℕ) (order : List (Lane X)) (k : Option (Sent X)) → Permᴰ (names order) (names (begin cost t order k).lanes)
  begin_names t order None = rw (launch_lanes t (serve [] order).lanes (serve [] order).got) (turned order).names_same
  begin_names t order (Some s) = Permᴰ.refl (names order)

  -- a tick that brings `new`, after which the link looks at the lanes in any order
  module _ (t : ℕ) (new : ℕ → List X) (order : List (Lane X)) (s : Mux X) (ordered : Permᴰ (add new s.lanes) order) where
    pub mux_starts : let after = mux_tick cost t new order s in
        Starts cost t (flat s.lanes ++ gather new (names s.lanes)) (still t s.link) (flat after.lanes) after.link
    mux_starts = begin_starts t order (Permᴰ.trans (flat_add new s.lanes) (flat_perm ordered)) s.link

    pub mux_names : Permᴰ (names s.lanes) (names (mux_tick cost t new order s).lanes)
    mux_names = Permᴰ.trans (rw (names_add new s.lanes) at (Permᴰ.map (λ (l : Lane X). l.name) ordered))
        (begin_names t order (still t s.link))

-- A turn keeps what is known where the search stands, for any function g of the span that grows with it, and leaves less to do.
-- Assumes nothing.
use Prim.Native.Nat.{ℕ, suc, ◌+◌, ◌-◌, ◌≤◌, ◌<◌}
use mathlib.Core.Bool.{Bool, true, false, ◌&&◌}
use Rattle.std.specs.Prelude.{None, Some}
use Rattle.std.proofs.lemmas.Option.{same_Some, none-some}
use mathlib.Core.Path.{◌≡◌, refl, sym, ap, ◌∙◌}
use native.Mathlib.Omega.{arith}
use lib.Dec.{leb, ltb, eqb}
use borrow.Author.Tests.{leb-true, leb-false, ltb-true, ltb-false, eqb-true, eqb-false, lt-leb}
use Rattle.base.specs.Pick.{pick}
use Rattle.search.specs.declared.pass.Tally.{Tally}
use Rattle.search.specs.declared.turns.Best.{Best}
use Rattle.search.specs.declared.turns.Search.{Search}
use Rattle.search.specs.declared.turns.Search.TheVariants.{Rising, Falling, Served, Endless, OutOfRange}
use Rattle.search.specs.Spans.{limit, Monotone, least_length}
use Rattle.search.specs.Pass.{cycle}
use Rattle.search.specs.Turn.{begun, span_of, improved, seeded, fallen, turned_down, risen, turn_of}
use Rattle.search.specs.Searching.{Passed, Even, WayUp, Known, WayDown, Seed, Searching, left}
use Rattle.search.proofs.FlowLaws.{and_true}
use Rattle.search.proofs.SpanLaws.{length_was}
use Rattle.search.proofs.EvenLaws.{enough_all, enough_cycle}
use Rattle.search.proofs.Ways.{up_start, up_found, up_none, up_next, down_begin, known_improved, known_next, next_less, down_end}

module _ (Top : ℕ → Type 0) (g : ℕ → ℕ) where
  -- ---- how a search begins
  -- on the way up, where the least length of g is a top
  pub begun_stands : ((l : ℕ) → least_length g ≡ Some l → Top l) → Searching Top g begun
  unfolding Searching begun
  begun_stands tops = (tops, up_start g, λ h. absurd (omega arith))

  -- on the way down at any length, as the descent of low flows (M-102) will: the span of 0 is the best to begin with
  pub descent_stands : (l d : ℕ) (b : Best) → suc d ≡ l → Top l → b.figure ≡ g 0 → b.span ≡ 0 → Searching Top g (Falling l d b)
  unfolding Searching
  descent_stands l d b is top figure span = (top, down_begin g l l d b (enough_all g l) is figure span)

  module _ (mono : Monotone g) where
    -- ---- the way down
    fallen_keeps : (l d : ℕ) (b : Best) {work last : ℕ} → Top l → WayDown g l d b → Passed g d work last
        → Searching Top g (fallen l b work last) × (left (fallen l b work last) ≤ d)
    unfolding Searching left fallen
    fallen_keeps l d b {work} {last} top f is = go (leb work c.figure) refl
      where
        c : Best
        c = improved b work last

        known : Known g f.top c last
        known = known_improved g mono f.top d f.low is b f.known

        go : (y : Bool) → leb work c.figure ≡ y → Searching Top g (fallen l b work last) × (left (fallen l b work last) ≤ d)
        go true e = let z = down_end g mono f.top d f.low is c known (leb-true _ _ e) l f.enough in rw (e, fallen) ((top, z.0, z.1), omega arith)
        go false e =
            let more : c.figure < work = leb-false _ _ e in
            let less = next_less g mono f.top d f.low is c known more in
            rw (e, fallen) ((top, record { top = f.top; enough = f.enough; low = omega (arith, f.low); known = known_next g mono f.top d f.low is c known more }), omega arith)

    -- ---- from the way up to the way down
    turned_keeps : (d : ℕ) (b : Best) (even : Bool) {work last : ℕ} → least_length g ≡ Some (d + 1) → Top (d + 1) → Seed g b even → Passed g d work last
        → Searching Top g (turned_down (d + 1) b even work last) × (left (turned_down (d + 1) b even work last) ≤ limit)
    unfolding Searching left turned_down cycle
    turned_keeps d b even {work} {last} least top seed is = go (even && ltb cycle (d + 1)) refl
      where
        long : d + 1 ≤ limit
        long = (length_was g limit (d + 1) least).in_limit

        go : (y : Bool) → (even && ltb cycle (d + 1)) ≡ y → Searching Top g (turned_down (d + 1) b even work last) × (left (turned_down (d + 1) b even work last) ≤ limit)
        go true e =
            let a = and_true _ _ e in
            let far : cycle < d + 1 = ltb-true _ _ a.1 in
            rw (e, turned_down) ((top, down_begin g cycle (d + 1) (cycle - 1) b (enough_cycle g limit (seed.2 a.0) (d + 1) least far) below seed.0 seed.1), omega (arith, long))
          where
            below : suc (cycle - 1) ≡ cycle
            below = refl
        go false e =
            let z = fallen_keeps (d + 1) d b top (down_begin g (d + 1) (d + 1) d b (enough_all g (d + 1)) (omega arith) seed.0 seed.1) is in
            let low : left (fallen (d + 1) b work last) ≤ limit = omega (arith, z.1, long) in
            rw (e, turned_down) (z.0, low)

    -- ---- the way up
    risen_keeps : (d : ℕ) (b : Best) (even : Bool) {work last : ℕ} → ((l : ℕ) → least_length g ≡ Some l → Top l) → WayUp g d → Seed g b even → Passed g d work last
        → Searching Top g (risen d b even work last) × (left (risen d b even work last) < limit + limit + 1 - d)
    unfolding Searching left risen
    risen_keeps d b even {work} {last} tops r seed is = go (leb work (d + 1)) refl (ltb limit work) refl
      where
        low : leb limit d ≡ false
        low = lt-leb limit d r.low

        go : (x : Bool) → leb work (d + 1) ≡ x → (y : Bool) → ltb limit work ≡ y → Searching Top g (risen d b even work last) × (left (risen d b even work last) < limit + limit + 1 - d)
        go true ex y ey =
            let least = up_found g mono d is r (leb-true _ _ ex) in
            let z = turned_keeps d b even least (tops (d + 1) least) seed is in
            let less : left (turned_down (d + 1) b even work last) < limit + limit + 1 - d = omega (arith, z.1, r.low) in
            rw (low, ex, risen) (z.0, less)
        go false ex true ey = rw (low, ex, ey, risen) (up_none g mono d is r (ltb-true _ _ ey), omega (arith, r.low))
        go false ex false ey =
            let more : d + 1 < work = leb-false _ _ ex in
            rw (low, ex, ey, risen) ((tops, up_next g mono d is r more (ltb-false _ _ ey), λ _. seed), omega arith)

    -- the span of 0 is passed first
    seeded_is : (d : ℕ) {work last : ℕ} (b : Best) (found even : Bool) → (0 < d → Seed g b even) → (d ≡ 0 → found ≡ true → Even g) → Passed g d work last
        → Seed g (seeded d work b) (pick (eqb d 0) found even)
    unfolding seeded
    seeded_is d {work} b found even h first is = go (eqb d 0) refl
      where
        go : (y : Bool) → eqb d 0 ≡ y → Seed g (seeded d work b) (pick (eqb d 0) found even)
        go true e = let z : d ≡ 0 = omega (arith, eqb-true d 0 e) in rw e (is.work_is ∙ ap g z, refl, first z)
        go false e = rw e (h (omega (arith, eqb-false d 0 e)))

    -- ---- the whole turn
    pub turn_keeps : (s : Search) (t : Tally) (d : ℕ) → span_of s ≡ Some d → Searching Top g s → Passed g d t.work t.last
        → (d ≡ 0 → t.even ≡ true → Even g) → Searching Top g (turn_of s (Some t)) × (left (turn_of s (Some t)) < left s)
    unfolding Searching left turn_of span_of
    turn_keeps (Rising d b even) t e on h is first =
        let same : e ≡ d = sym (same_Some d e on) in
        let passed = rw same at is in
        risen_keeps d (seeded d t.work b) (pick (eqb d 0) t.even even) h.0 h.1 (seeded_is d b t.even even h.2 (rw same at first) passed) passed
    turn_keeps (Falling l d b) t e on h is first =
        let same : e ≡ d = sym (same_Some d e on) in
        let z = fallen_keeps l d b h.0 h.1 (rw same at is) in
        (z.0, omega (arith, z.1))
    turn_keeps (Served l b) t e on h is first = absurd (none-some e on)
    turn_keeps Endless t e on h is first = absurd (none-some e on)
    turn_keeps OutOfRange t e on h is first = absurd (none-some e on)

-- ---- of any search
-- a pass that finds a flow out of range ends it
pub turn_out : (s : Search) (d : ℕ) → span_of s ≡ Some d → turn_of s None ≡ OutOfRange
unfolding turn_of span_of
turn_out (Rising d b even) e on = refl
turn_out (Falling l d b) e on = refl
turn_out (Served l b) e on = absurd (none-some e on)
turn_out Endless e on = absurd (none-some e on)
turn_out OutOfRange e on = absurd (none-some e on)

-- and while it goes on there is something left
pub left_some : (s : Search) (d : ℕ) → span_of s ≡ Some d → d < limit → 0 < left s
unfolding span_of left
left_some (Rising d b even) e on low = omega (arith, same_Some d e on)
left_some (Falling l d b) e on low = omega arith
left_some (Served l b) e on low = absurd (none-some e on)
left_some Endless e on low = absurd (none-some e on)
left_some OutOfRange e on low = absurd (none-some e on)

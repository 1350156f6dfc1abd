-- The two searches, for any function g of the span that grows with it: upwards for the least length, downwards for the greatest excess and its least span. Each lemma is one thing that a turn does.
-- Assumes nothing.
use Prim.Native.Nat.{ℕ, zero, suc, ◌+◌, ◌-◌, ◌≤◌, ◌<◌, min}
use mathlib.Core.Logic.{◌⊎◌, inl, inr, ⊎_elim}
use Rattle.std.specs.Prelude.{None, Some}
use mathlib.Core.Path.{◌≡◌, sym, ap, ◌∙◌}
use native.Mathlib.Nat.{eq-or-lt_of_le}
use native.Mathlib.Omega.{arith}
use borrow.Author.Tests.{lt-ltb, le-ltb}
use Rattle.search.specs.declared.turns.Best.{Best}
use Rattle.search.specs.Spans.{limit, Monotone, least_length, excess, least_span}
use Rattle.search.specs.Searching.{Passed, WayUp, NoBetter, Known, Enough, WayDown}
use Rattle.search.specs.Turn.{improved}
use Rattle.search.proofs.FlowLaws.{limit_is}
use Rattle.search.proofs.SpanLaws.{lt_or_ge, length_is, length_none, excess_is, span_is}

-- ---- the way up
pub up_start : (g : ℕ → ℕ) → WayUp g 0
up_start g = record { low = omega (arith, limit_is); fails = λ e l. absurd (omega arith) }

module _ (g : ℕ → ℕ) (mono : Monotone g) (x : ℕ) {work last : ℕ} (is : Passed g x work last) (r : WayUp g x) where
  -- a span from x on brings at least what x brings, so no length below that serves
  fails_to : (n : ℕ) → n < work → (e : ℕ) → e < n → suc e < g e
  fails_to n l e h = ⊎_elim (λ (a : e < x). r.fails e a) (λ (a : x ≤ e). omega (arith, is.work_is, mono x e a)) (lt_or_ge e x)

  pub up_found : work ≤ x + 1 → least_length g ≡ Some (x + 1)
  up_found h =
      let same : suc x ≡ x + 1 = omega arith in
      length_is g limit x r.low (omega (arith, is.work_is)) r.fails ∙ ap Some same

  pub up_none : limit < work → least_length g ≡ None
  up_none h = length_none g limit (fails_to limit h)

  pub up_next : x + 1 < work → work ≤ limit → WayUp g (work - 1)
  up_next a b = record { low = omega arith; fails = fails_to (work - 1) (omega arith) }

-- ---- the way down
-- a figure of 0 is what the span of 0 gives
figure_or_nought : (g : ℕ → ℕ) (b : Best) → NoBetter g b 0 → (0 < b.figure) ⊎ (b.span ≡ 0)
figure_or_nought g b h = ⊎_elim
    (λ (z : 0 ≡ b.figure). inr (omega (arith, h.1 (omega (arith, h.0)))))
    (λ (z : 0 < b.figure). inl z)
    (eq-or-lt_of_le (omega arith))

-- it begins with the span of 0, which is the shortest
pub known_begin : (g : ℕ → ℕ) (top d : ℕ) (b : Best) → suc d ≡ top → b.figure ≡ g 0 → b.span ≡ 0 → Known g top b (suc d)
known_begin g top d b is-top figure span = record {
  span_low = omega arith;
  reached = rw span (omega arith);
  nought = (omega arith, λ e. omega arith);
  above = λ e h u. absurd (omega arith);
}

pub down_begin : (g : ℕ → ℕ) (top l d : ℕ) (b : Best) → Enough g top l → suc d ≡ top → b.figure ≡ g 0 → b.span ≡ 0 → WayDown g l d b
down_begin g top l d b enough is-top figure span = record { top = top; enough = enough; low = omega arith; known = known_begin g top d b is-top figure span }

module _ (g : ℕ → ℕ) (mono : Monotone g) (top d : ℕ) (low : d < top) {work last : ℕ} (is : Passed g d work last) where
  -- a span from the last arrival to d gives no more than the last arrival gives, and less if it is longer
  from_last : (b : Best) → work ≤ b.figure + last → (work ≡ b.figure + last → b.span ≤ last) → (e : ℕ) → last ≤ e → e ≤ d → NoBetter g b e
  from_last b most tie e a h =
      let same : g e ≤ work = omega (arith, is.work_is, mono e d h) in
      (omega arith, λ eq. omega (arith, tie (omega arith)))

  -- what was known from d + 1 on of a worse best is known of a better one
  stays : (b c : Best) → b.figure ≤ c.figure → (b.figure ≡ c.figure → c.span ≤ b.span) → (e : ℕ) → NoBetter g b e → NoBetter g c e
  stays b c more tie e h = (
    omega (arith, h.0),
    λ eq. ⊎_elim
        (λ (s : b.figure ≡ c.figure). omega (arith, tie s, h.1 (omega arith)))
        (λ (s : b.figure < c.figure). absurd (omega (arith, h.0)))
        (eq-or-lt_of_le more),
  )

  module _ (b : Best) (k : Known g top b (suc d)) where
    -- a better best that is reached is known from the last arrival on
    known_of : (c : Best) → c.span < top → g c.span ≡ c.figure + c.span → b.figure ≤ c.figure → (b.figure ≡ c.figure → c.span ≤ b.span)
        → work ≤ c.figure + last → (work ≡ c.figure + last → c.span ≤ last) → Known g top c last
    known_of c c-low reached more tie most last-tie = record {
      span_low = c-low;
      reached = reached;
      nought = stays b c more tie 0 k.nought;
      above = λ e a h. ⊎_elim
          (λ (u : d < e). stays b c more tie e (k.above e u h))
          (λ (u : e ≤ d). from_last c most last-tie e a u)
          (lt_or_ge d e);
    }

    last_low : last < top
    last_low = omega (arith, is.last_low)

    -- what the last arrival gives may be better
    pub known_improved : Known g top (improved b work last) last
    unfolding improved
    known_improved = ⊎_elim more (λ h. ⊎_elim less (λ h'. same (omega arith)) (lt_or_ge (work - last) b.figure)) (lt_or_ge b.figure (work - last))
      where
        more : b.figure < work - last → Known g top (improved b work last) last
        more h = rw (lt-ltb b.figure (work - last) h)
            (known_of (record { figure = work - last; span = last }) last_low (omega (arith, is.work_is, is.last_same)) (omega arith) (λ e. omega arith) (omega arith) (λ e. omega arith))

        less : work - last < b.figure → Known g top (improved b work last) last
        less h = rw (le-ltb b.figure (work - last) (omega arith), lt-ltb (work - last) b.figure h)
            (known_of b k.span_low k.reached (omega arith) (λ e. omega arith) (omega arith) (λ e. absurd (omega arith)))

        -- the shorter of two spans that give as much; a figure of 0 is the span of 0's
        same : work - last ≡ b.figure → Known g top (improved b work last) last
        same h = rw (le-ltb b.figure (work - last) (omega arith), le-ltb (work - last) b.figure (omega arith))
            (known_of (record { figure = b.figure; span = min last b.span }) (omega (arith, k.span_low)) (at_least (lt_or_ge last b.span)) (omega arith) (λ e. omega arith) (omega arith) (λ e. omega arith))
          where
            at_least : (last < b.span) ⊎ (b.span ≤ last) → g (min last b.span) ≡ b.figure + min last b.span
            at_least (inl u) =
                let m : min last b.span ≡ last = omega arith in
                rw m (⊎_elim
                (λ (Some : 0 < b.figure). omega (arith, is.work_is, is.last_same))
                (λ (z : b.span ≡ 0). absurd (omega arith))
                (figure_or_nought g b k.nought))
            at_least (inr u) = let m : min last b.span ≡ b.span = omega arith in rw m k.reached

  module _ (b : Best) (k : Known g top b last) where
    -- no shorter span can be better: then all is known
    known_end : work ≤ b.figure → Known g top b 0
    known_end h = record {
      span_low = k.span_low;
      reached = k.reached;
      nought = k.nought;
      above = λ e a u. ⊎_elim (λ (s : e < last). shorter e s) (λ (s : last ≤ e). k.above e s u) (lt_or_ge e last);
    }
      where
        shorter : (e : ℕ) → e < last → NoBetter g b e
        shorter zero s = k.nought
        shorter (suc e) s = let m : g (suc e) ≤ work = omega (arith, is.work_is, mono (suc e) d (omega (arith, is.last_low))) in (omega arith, λ eq. absurd (omega arith))

    module _ (more : b.figure < work) where
      last_most : work ≤ b.figure + last
      last_most = omega (arith, is.work_is, is.last_same, (k.above last (omega arith) (omega (arith, is.last_low))).0)

      pub next_less : min (work - b.figure) (last - 1) < d
      next_less = omega (arith, last_most, is.last_low)

      -- a span beyond work − figure gives less than the figure
      pub known_next : Known g top b (suc (min (work - b.figure) (last - 1)))
      known_next = record {
        span_low = k.span_low;
        reached = k.reached;
        nought = k.nought;
        above = λ e a u. ⊎_elim (λ (s : e < last). beyond e a s) (λ (s : last ≤ e). k.above e s u) (lt_or_ge e last);
      }
        where
          beyond : (e : ℕ) → suc (min (work - b.figure) (last - 1)) ≤ e → e < last → NoBetter g b e
          beyond e a s = let m : g e ≤ work = omega (arith, is.work_is, mono e d (omega (arith, is.last_low))) in (omega arith, λ eq. absurd (omega arith))

    -- and what is known of the spans below `top` is known of all below l
    pub down_end : work ≤ b.figure → (l : ℕ) → Enough g top l → (b.figure ≡ excess g l) × (least_span g l ≡ Some b.span)
    down_end h l enough =
        let all = known_end h in
        let inside : b.span < l = omega (arith, all.span_low, enough.no_longer) in
        let bound : (e : ℕ) → e < l → g e ≤ b.figure + e = enough.bounds b.figure (λ e u. (all.above e (omega arith) u).0) in (
          sym (excess_is g l b.figure b.span bound inside all.reached),
          span_is g l b.figure b.span bound inside all.reached
              (λ e a eq. absurd (omega (arith, (all.above e (omega arith) (omega (arith, all.span_low))).1 eq)))
              (figure_or_nought g b all.nought),
        )

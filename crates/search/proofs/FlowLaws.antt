-- Laws of one flow: what it brings grows with the span, stands still from its last arrival on, and within the limit is at most 170,000 messages.
-- Assumes nothing.
use Prim.Native.Nat.{ℕ, ◌+◌, ◌*◌, ◌/◌, ◌≤◌, ◌<◌}
use mathlib.Core.Bool.{Bool, true, false, ◌&&◌, false≢true}
use mathlib.Core.Path.{◌≡◌, refl}
use native.Mathlib.Nat.{div-mul-le_self, le-div_iff_mul-le, mul-le-mul, div-lt_iff_lt-mul}
use native.Mathlib.Omega.{arith}
use lib.Dec.{leb}
use borrow.Author.Tests.{leb-true, le-leb}
use Rattle.search.specs.declared.pass.Flow.{Flow}
use Rattle.search.specs.Flows.{most, longest_period, in_range}
use Rattle.search.specs.Spans.{limit}
use Rattle.search.specs.Pass.{last_of}

-- the limit as a number: what follows from it by arithmetic cites this
pub limit_is : limit ≡ 125000000
unfolding limit
limit_is = refl

-- ---- the ranges of a flow
pub record InRange (f : Flow) : Type 0 where
  pub period_low : 12500 ≤ f.period
  pub period_high : f.period ≤ longest_period
  pub jitter_high : f.jitter ≤ 2000000000
  pub cost_low : 1 ≤ f.cost
  pub cost_high : f.cost ≤ 4000000000

pub and_true : (a b : Bool) → (a && b) ≡ true → (a ≡ true) × (b ≡ true)
and_true true b e = (refl, e)
and_true false b e = absurd (false≢true e)

pub in_range_says : (f : Flow) → in_range f ≡ true → InRange f
unfolding in_range
in_range_says f e =
    let a = and_true _ _ e in
    let p = and_true _ _ a.0 in
    let b = and_true _ _ a.1 in
    let c = and_true _ _ b.1 in
    record {
      period_low = leb-true _ _ p.0;
      period_high = leb-true _ _ p.1;
      jitter_high = leb-true _ _ b.0;
      cost_low = leb-true _ _ c.0;
      cost_high = leb-true _ _ c.1;
    }

-- with its other ranges kept, the cost decides
pub all_but_cost : (f : Flow) → 12500 ≤ f.period → f.period ≤ longest_period → f.jitter ≤ 2000000000 → 1 ≤ f.cost → leb f.cost 4000000000 ≡ in_range f
unfolding in_range
all_but_cost f a b c d = simp (le-leb 12500 f.period a, le-leb f.period longest_period b, le-leb f.jitter 2000000000 c, le-leb 1 f.cost d)

-- ---- one flow
div_mono : (t a b : ℕ) → 0 < t → a ≤ b → a / t ≤ b / t
div_mono t a b z h = (le-div_iff_mul-le z).1 (omega (arith, div-mul-le_self a t))

pub most_mono : (f : Flow) (d e : ℕ) → 0 < f.period → d ≤ e → most f d ≤ most f e
unfolding most
most_mono f d e z h = omega (arith, div_mono f.period (d + f.jitter) (e + f.jitter) z (omega arith))

-- within the limit a flow brings at most 170,000
pub most_few : (f : Flow) (d : ℕ) → InRange f → d < limit → most f d ≤ 170000
unfolding most
most_few f d r l =
    let small : (d + f.jitter) / f.period < 170000 = (div-lt_iff_lt-mul {k = f.period} (omega arith)).1 (omega (arith, limit_is)) in
    omega arith

-- what the arithmetic of one step needs
pub record Fits (f : Flow) (d : ℕ) : Type 0 where
  pub pos : 0 < f.period
  pub sum : d + f.jitter < 2125000000
  pub quot : (d + f.jitter) / f.period + 1 ≤ 170000
  pub term : ((d + f.jitter) / f.period + 1) * f.cost ≤ 680000000000000
  pub last : (d + f.jitter) / f.period * f.period ≤ d + f.jitter

pub fits : (f : Flow) (d : ℕ) → in_range f ≡ true → d < limit → Fits f d
unfolding most
fits f d ok l =
    let r = in_range_says f ok in
    let q = most_few f d r l in
    record { pos = omega arith; sum = omega (arith, limit_is); quot = q; term = mul-le-mul q r.cost_high; last = div-mul-le_self _ _ }

pub last_of_le : (f : Flow) (d : ℕ) → last_of f d ≤ d
unfolding last_of
last_of_le f d = omega (arith, div-mul-le_self (d + f.jitter) f.period)

-- from its last arrival on a flow brings no more
pub last_of_same : (f : Flow) (s d : ℕ) → 0 < f.period → last_of f d ≤ s → s ≤ d → most f s ≡ most f d
unfolding last_of most
last_of_same f s d z a b =
    let low : (d + f.jitter) / f.period ≤ (s + f.jitter) / f.period = (le-div_iff_mul-le {k = f.period} z).1 (omega arith) in
    omega (arith, div_mono f.period (s + f.jitter) (d + f.jitter) z (omega arith))

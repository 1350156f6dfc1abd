-- What one flow more does to a tally, where the span and the work so far are within their limits: the sums of one flow more, if it is in range.
-- Assumes nothing.
use Prim.Native.Nat.{ℕ, ◌+◌, ◌*◌, ◌<◌, ◌^◌, max}
use mathlib.Core.Bool.{true, false, ◌&&◌}
use mathlib.Core.Path.{◌≡◌, refl}
use Rattle.std.specs.Prelude.{None, Some}
use lib.Dec.{ltb}
use borrow.Author.Tests.{lt-ltb, eq-eqb, ltb-true}
use Rattle.search.specs.declared.pass.Flow.{Flow}
use Rattle.search.specs.declared.pass.Tally.{Tally}
use Rattle.search.specs.Flows.{most, in_range}
use Rattle.search.specs.Spans.{limit}
use Rattle.search.specs.Pass.{last_of, evenly, taken, with_flow, add_to}
use Rattle.search.proofs.FlowLaws.{Fits, fits, and_true}

-- what a flow that can be added is
pub record Takes (a : Tally) (f : Flow) (d : ℕ) : Type 0 where
  pub fits : Fits f d
  pub low : d < limit
  pub small : a.work < 2 ^ 63

module _ (a : Tally) (f : Flow) (d : ℕ) where
  pub taken_was : taken a f d ≡ true → Takes a f d
  unfolding taken
  taken_was e =
      let x = and_true (ltb d limit) (ltb a.work (2 ^ 63) && in_range f) e in
      let y = and_true (ltb a.work (2 ^ 63)) (in_range f) x.1 in
      let low : d < limit = ltb-true _ _ x.0 in
      record { fits = fits f d y.1 low; low = low; small = ltb-true _ _ y.0 }

  -- within the limits a flow can be added if it is in range
  pub taken_by_range : d < limit → a.work < 2 ^ 63 → taken a f d ≡ in_range f
  unfolding taken
  taken_by_range low small = simp (lt-ltb d limit low, lt-ltb a.work (2 ^ 63) small)

-- one flow in range is added to the sums of those before it
pub record Stepped (a : Tally) (f : Flow) (d : ℕ) (r : Tally) : Type 0 where
  pub work : r.work ≡ a.work + most f d * f.cost
  pub last : r.last ≡ max a.last (last_of f d)
  pub even : d ≡ 0 → r.even ≡ (a.even && evenly f.period)

pub stepped : (a : Tally) (f : Flow) (d : ℕ) → Stepped a f d (with_flow a f d)
unfolding with_flow
stepped a f d = record { work = refl; last = refl; even = λ z. rw (eq-eqb d 0 z) }

-- the two ways that `add` goes, within the limits
module _ (a : Tally) (f : Flow) (d : ℕ) (low : d < limit) (small : a.work < 2 ^ 63) where
  pub added : in_range f ≡ true → add_to a f d ≡ Some (with_flow a f d)
  unfolding add_to
  added e = rw (taken_by_range a f d low small, e)

  pub not_added : in_range f ≡ false → add_to a f d ≡ None
  unfolding add_to
  not_added e = rw (taken_by_range a f d low small, e)

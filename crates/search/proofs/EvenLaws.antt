-- Work of which each cycle brings as much as the one before: in a least length above a cycle that is less than a cycle, so the spans below a cycle say all.
-- Assumes nothing.
use Prim.Native.Nat.{ℕ, zero, suc, ◌+◌, ◌-◌, ◌≤◌, ◌<◌}
use mathlib.Core.Logic.{⊎_elim}
use Rattle.std.specs.Prelude.{Some}
use mathlib.Core.Path.{◌≡◌}
use native.Mathlib.Omega.{arith}
use Rattle.search.specs.Spans.{least_length_to}
use Rattle.search.specs.Pass.{cycle}
use Rattle.search.specs.Searching.{Even, Enough}
use Rattle.search.proofs.SpanLaws.{lt_or_ge, length_was, covers_all}

pub enough_all : (g : ℕ → ℕ) (l : ℕ) → Enough g l l
enough_all g l = record { no_longer = omega arith; bounds = λ v h. h }

module _ (g : ℕ → ℕ) (lim : ℕ) (even : Even g) (l : ℕ) (least : least_length_to lim g ≡ Some l) (long : cycle < l) where
  -- else no length would serve: one below a cycle does not, and each cycle more asks for as much as it gives
  none_serves : cycle ≤ even.more → (n e : ℕ) → e ≤ n → suc e < g e
  unfolding cycle
  none_serves h zero e low = (length_was g lim l least).shorter e (omega arith)
  none_serves h (suc n) e low = ⊎_elim
      (λ (a : e < cycle). (length_was g lim l least).shorter e (omega arith))
      (λ (a : cycle ≤ e). later (e - cycle) (omega arith) (none_serves h n (e - cycle) (omega arith)))
      (lt_or_ge e cycle)
    where
      later : (k : ℕ) → e ≡ k + cycle → suc k < g k → suc e < g e
      later k same s = rw same (omega (arith, even.each k))

  less_than_a_cycle : even.more < cycle
  less_than_a_cycle = ⊎_elim
      (λ h. h)
      (λ (h : cycle ≤ even.more). absurd (omega (arith, (length_was g lim l least).serves, (length_was g lim l least).some_ticks, none_serves h (l - 1) (l - 1) (omega arith))))
      (lt_or_ge even.more cycle)

  pub enough_cycle : Enough g cycle l
  unfolding cycle
  enough_cycle = record { no_longer = omega arith; bounds = λ v below e _. covers_all g cycle v (omega arith) again below e }
    where
      again : (e : ℕ) → g (cycle + e) ≤ cycle + g e
      again e = let same : cycle + e ≡ e + cycle = omega arith in rw same (omega (arith, even.each e, less_than_a_cycle))

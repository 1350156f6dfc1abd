-- Events at least `gap` ticks apart: in a span of d ticks there are at most d / gap + 1.
-- Assumes nothing.
use Prim.Native.Nat.{ℕ, zero, suc, ◌+◌, ◌*◌, ◌/◌, ◌≤◌, ◌<◌}
use mathlib.Core.Logic.{◌⊎◌, inl, inr, ⊎_elim}
use mathlib.Core.Path.{◌≡◌, ap}
use native.Mathlib.Omega.{arith}
use Rattle.machine.specs.Sum.{span}
use Rattle.machine.proofs.Lists.Sums.{steps_in}

-- tick t has no event and leaves `next`, or has one, from `next` on, and sets `next` to one gap later
abbrev pub Spaced : ℕ → (ℕ → ℕ) → (ℕ → ℕ) → ℕ → Type 0
Spaced gap c next t = ((c t ≡ 0) × (next (suc t) ≡ next t)) ⊎ ((c t ≡ 1) × (next t ≤ t) × (next (suc t) ≡ t + gap))

module _ (gap : ℕ) (c next : ℕ → ℕ) (pos : 0 < gap) (first : next zero ≤ zero) (apart : (t : ℕ) → Spaced gap c next t) where
  next_bound : (t : ℕ) → next (suc t) ≤ t + gap
  next_bound zero = ⊎_elim (λ h. omega arith) (λ h. omega arith) (apart zero)
  next_bound (suc t) = let k = next_bound t in ⊎_elim (λ h. omega arith) (λ h. omega arith) (apart (suc t))

  Far : ℕ → ℕ → Type 0
  Far x d = (span c x d ≡ 0) ⊎ (span c x d * gap + x ≤ next (suc (x + d)))

  far : (x d : ℕ) → Far x d
  unfolding Far span
  far x zero = ⊎_elim (λ h. inl h.0) (λ h. inr (omega (arith, ap next (ap suc (add_zero x)), ap (λ (k : ℕ). k * gap) h.0, h.2))) (apart x)
    where
      add_zero : (n : ℕ) → n + 0 ≡ n
      add_zero n = omega arith
  far x (suc d) = ⊎_elim
      (λ h. ⊎_elim
      (λ k. inl (omega arith))
      (λ k. inr (omega (arith, ap next (ap suc (add_suc x d)), ap (λ (m : ℕ). (span c x d + m) * gap) h.0, h.1)))
      (far x d))
      (λ h. ⊎_elim
      (λ k. inr (omega (arith, ap next (ap suc (add_suc x d)), ap (λ (m : ℕ). (span c x d + m) * gap) h.0, ap (λ (m : ℕ). (m + 1) * gap) k, h.2)))
      (λ k. inr (omega (arith, ap next (ap suc (add_suc x d)), ap (λ (m : ℕ). (span c x d + m) * gap) h.0, h.1, h.2)))
      (far x d))
      (apart (suc (x + d)))
    where
      add_suc : (n m : ℕ) → n + suc m ≡ suc (n + m)
      add_suc n m = omega arith

  pub spaced_count : (x d : ℕ) → span c x d ≤ d / gap + 1
  unfolding Far
  spaced_count x d = ⊎_elim
      (λ h. omega arith)
      (λ h. steps_in gap (span c x d) d pos (omega (arith, next_bound (x + d))))
      (far x d)

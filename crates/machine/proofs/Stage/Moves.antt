-- A stage that holds what comes until it goes: in each tick what was there and what comes is what goes and what is there after it, in any
-- order. So nothing is made or lost, what goes came, and what cannot be there for ever goes. Assumes nothing.
use Prim.Native.Nat.{ℕ, zero, suc, ◌+◌, ◌≤◌, ◌<◌}
use mathlib.Core.List.Memᴰ
use mathlib.Core.List.{List, [], ◌++◌, Memᴰ}
use mathlib.Core.List.Permᴰ
use mathlib.Core.List.{Permᴰ}
use mathlib.Core.Logic.{◌⊎◌, ⊎_elim}
use mathlib.Core.Path.{◌≡◌, ap}
use native.Mathlib.Omega.{arith}
use Rattle.base.specs.Tabulate.{total}
use Rattle.machine.specs.Sum.{weigh}
use Rattle.machine.proofs.Lists.Sums.{upto, weigh_append}
use Rattle.machine.proofs.Lists.Orders.{perm_weigh, perm_mem}

module _ {X : Type 0} (there ins out : ℕ → List X) (empty : there zero ≡ [])
    (moves : (t : ℕ) → Permᴰ (there t ++ ins t) (out t ++ there (suc t))) where
  -- by any weight, what has gone and what is there is what has come
  pub kept : (w : X → ℕ) (t : ℕ) → upto (λ u. weigh w (out u)) t + weigh w (there t) ≡ upto (λ u. weigh w (ins u)) t
  unfolding upto total
  kept w zero = omega (arith, ap (weigh w) empty)
  kept w (suc t) = omega (
    arith,
    kept w t,
    perm_weigh w (moves t),
    weigh_append w (there t) (ins t),
    weigh_append w (out t) (there (suc t)),
  )

  pub weighed : (w : X → ℕ) (t : ℕ) → upto (λ u. weigh w (out u)) t ≤ upto (λ u. weigh w (ins u)) t
  weighed w t = omega (arith, kept w t)

  pub was : (t : ℕ) (y : X) → Memᴰ y (out t ++ there (suc t)) → Memᴰ y (there t) ⊎ Memᴰ y (ins t)
  was t y m = Memᴰ.append_cases (there t) (perm_mem (Permᴰ.symm (moves t)) m)

  -- what holds of all that comes, and then on, holds of all that is there, and of all that goes
  module _ (O : ℕ → X → Type 0) (came : (t : ℕ) (y : X) → Memᴰ y (ins t) → O (suc t) y)
      (on : (t : ℕ) (y : X) → O t y → O (suc t) y) where
    pub origin : (t : ℕ) (y : X) → Memᴰ y (there t) → O t y
    origin zero y m = absurd (Memᴰ.not-nil (rw empty at m))
    origin (suc t) y m = ⊎_elim (λ i. on t y (origin t y i)) (came t y) (was t y (Memᴰ.append_right (out t) m))

    pub out_origin : (t : ℕ) (y : X) → Memᴰ y (out t) → O (suc t) y
    out_origin t y m = ⊎_elim (λ i. on t y (origin t y i)) (came t y) (was t y (Memᴰ.append_left (there (suc t)) m))

  -- what is not there from some tick on goes
  pub leaves : (y : X) (by : ℕ) → ((t : ℕ) → Memᴰ y (there (suc t)) → t < by) → (t : ℕ) → Memᴰ y (ins t)
      → (u : ℕ) × Memᴰ y (out u)
  leaves y by late t m = goes by t (omega arith) (Memᴰ.append_right (there t) m)
    where
      goes : (n t : ℕ) → by ≤ t + n → Memᴰ y (there t ++ ins t) → (u : ℕ) × Memᴰ y (out u)
      goes zero t b i = ⊎_elim (λ o. (t, o)) (λ s. absurd (omega (arith, late t s))) (Memᴰ.append_cases (out t) (perm_mem (moves t) i))
      goes (suc n) t b i = ⊎_elim (λ o. (t, o)) (λ s. goes n (suc t) (omega arith) (Memᴰ.append_left (ins (suc t)) s))
          (Memᴰ.append_cases (out t) (perm_mem (moves t) i))

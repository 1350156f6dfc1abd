-- A server that works at each tick while there is work. `e t` is the tick by which all that is present after tick t is done, `a t` what tick t brings. It is never later than the figure after t.
-- Assumes nothing.
use Prim.Native.Nat.{ℕ, zero, suc, ◌+◌, ◌≤◌, ◌<◌, max}
use mathlib.Core.Logic.{dite}
use mathlib.Core.Path.{◌≡◌, ap, ◌∙◌}
use native.Mathlib.Decide.{dec_le}
use native.Mathlib.Nat.{le_refl, add-zero, add-suc}
use native.Mathlib.Omega.{arith}
use Rattle.machine.specs.Sum.{span}

-- the tick from which the server has been at work without a pause, and that what is present is done by what came since
pub record Busy (R : ℕ → Type 0) (P : ℕ → ℕ → Type 0) (e a : ℕ → ℕ) (t : ℕ) : Type 0 where
  pub from : ℕ
  pub d : ℕ
  pub here : from + d ≡ t
  pub short : R d
  pub work : e t ≤ from + span a from d
  pub since : P t from

module _ (e a env : ℕ → ℕ) (f : ℕ) (R : ℕ → Type 0)
    (first : e zero ≤ a zero)
    (next : (t : ℕ) → e (suc t) ≤ max (e t) (suc t) + a (suc t))
    (bound : (x d : ℕ) → R d → span a x d ≤ env d)
    (r-first : R zero)
    (r-next : (d : ℕ) → R d → suc d < env d → R (suc d))
    (P : ℕ → ℕ → Type 0)
    (p-first : P zero zero)
    (p-keep : (t x : ℕ) → x ≤ t → P t x → P (suc t) x)
    (p-fresh : (t : ℕ) → e t ≤ suc t → P (suc t) (suc t))
  where
    busy_step : (t : ℕ) → Busy R P e a t → Busy R P e a (suc t)
    unfolding span
    busy_step t b = dite (dec_le (e t) (suc t))
        (λ h. record {
          from = suc t;
          d = 0;
          here = add-zero (suc t);
          short = r-first;
          work = omega (arith, next t);
          since = p-fresh t h;
        })
        (λ h.
        let i : a (suc (b.from + b.d)) ≡ a (suc t) = ap (λ (n : ℕ). a (suc n)) b.here in
        record {
          from = b.from;
          d = suc b.d;
          here = add-suc b.from b.d ∙ ap suc b.here;
          short = r-next b.d b.short (omega (arith, bound b.from b.d b.short, b.work, b.here));
          work = omega (arith, next t);
          since = p-keep t b.from (omega (arith, b.here)) b.since;
        })

    pub busy : (t : ℕ) → Busy R P e a t
    unfolding span
    busy zero = record { from = 0; d = 0; here = add-zero 0; short = r-first; work = omega arith; since = p-first }
    busy (suc t) = busy_step t (busy t)

    pub work_bound : ((d : ℕ) → R d → env d ≤ f + d) → (t : ℕ) → e t ≤ t + f
    work_bound covers t = omega (arith, (busy t).here, (busy t).work, bound (busy t).from (busy t).d (busy t).short, covers (busy t).d (busy t).short)

-- the tick at which a server that starts with nothing is done with all that came by tick t
unfoldable pub finish : (ℕ → ℕ) → ℕ → ℕ
finish a zero = a zero
finish a (suc t) = max (finish a t) (suc t) + a (suc t)

pub finish_bound : (a env : ℕ → ℕ) (f : ℕ) → ((x d : ℕ) → span a x d ≤ env d) → ((d : ℕ) → env d ≤ f + d) → (t : ℕ) → finish a t ≤ t + f
unfolding finish
finish_bound a env f bound covers =
    work_bound (finish a) a env f (λ d. Unit {0}) (le_refl (a zero)) (λ t. le_refl (finish a (suc t))) (λ x d k. bound x d) tt (λ d k h. tt) (λ u x. Unit {0}) tt (λ u x b k. tt) (λ u k. tt)
    (λ d k. covers d)

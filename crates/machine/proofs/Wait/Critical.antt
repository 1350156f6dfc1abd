-- Counting a pattern of releases: how many fall in a span if any two of them are near each other, and what all of them weigh.
-- Assumes nothing.
use Prim.Native.Nat.{ℕ, zero, suc, ◌+◌, ◌*◌, ◌/◌, ◌≤◌, ◌<◌}
use mathlib.Core.Bool.{Bool, true, false, cond}
use mathlib.Core.List.{List, [], ◌∷◌, Memᴰ}
use mathlib.Core.Logic.{◌⊎◌, inl, inr, ⊎_elim, ◌≢◌}
use mathlib.Core.Path.{◌≡◌, refl, sym, ap, ◌∙◌, subst}
use native.Mathlib.Nat.{le_refl, le_of_eq, le_trans, mul-le-mul_right}
use native.Mathlib.Omega.{arith}
use lib.Dec.{eqb, T, eqb→eq}
use Rattle.base.specs.Tabulate.{passing, total}
use Rattle.machine.specs.Sum.{span, count, tally, weigh}
use Rattle.machine.specs.Lists.{chosen, gather}
use Rattle.machine.proofs.Lists.Cases.{by_eqb, eq→eqb}
use Rattle.machine.proofs.Lists.Sums.{span_mono, span_sum, upto, upto_one, upto_zeros, upto_sum, weigh_same, weigh_append, steps_in}
use Rattle.machine.proofs.Lists.Orders.{weigh_gather}
use Rattle.machine.proofs.Stage.Envelope.{count_none, count_any}
use Rattle.machine.proofs.Stage.Select.{chosen_any, chosen_weigh, was_chosen, was_passing, weigh_passing, weigh_one}

-- numbers k below m whose ticks ρ k are between x and x + d: at most w / p + 1, if two of them are at most w apart when multiplied by p
module _ (p w x d m : ℕ) (ρ : ℕ → ℕ) (pos : 0 < p) (apart : (i k : ℕ) → i < k → k < m → x ≤ ρ i → ρ k ≤ x + d → k * p ≤ i * p + w)
    (c : ℕ → ℕ) (h : (k : ℕ) → (c k ≡ 0) ⊎ ((c k ≡ 1) × (x ≤ ρ k) × (ρ k ≤ x + d))) where
  -- the first of them, and how many there are
  record First (n : ℕ) : Type 0 where
    first : ℕ
    below : first < n
    from : x ≤ ρ first
    few : upto c n + first ≤ n
    close : upto c n * p ≤ w + p

  inv : (n : ℕ) → n ≤ m → (upto c n ≡ 0) ⊎ First n
  unfolding upto
  inv zero l = inl refl
  inv (suc n) l = ⊎_elim
      (λ z. ⊎_elim (λ e. inl (omega arith))
      (λ e. inr (record { first = e.first; below = omega (arith, e.below); from = e.from; few = omega (arith, e.few); close = omega (arith, ap (λ (k : ℕ). (upto c n + k) * p) z, e.close) })) (inv n (omega arith)))
      (λ z. ⊎_elim
      (λ e. inr (record { first = n; below = omega arith; from = z.1; few = omega (arith, z.0); close = omega (arith, ap (λ (k : ℕ). (upto c n + k) * p) z.0, ap (λ (k : ℕ). (k + 1) * p) e) }))
      (λ e. inr (record {
        first = e.first;
        below = omega (arith, e.below);
        from = e.from;
        few = omega (arith, z.0, e.few);
        close = omega (arith, ap (λ (k : ℕ). (upto c n + k) * p) z.0, apart e.first n e.below (omega arith) e.from z.2, mul-le-mul_right p e.few);
      }))
      (inv n (omega arith)))
      (h n)

  pub steps_count : upto c m ≤ w / p + 1
  steps_count = ⊎_elim (λ e. omega arith) (λ e. steps_in p (upto c m) w pos e.close) (inv m (le_refl m))

-- one tick is in a span once, or not
tally_is : (a b : ℕ) → ((a ≡ b) × (tally (eqb a b) ≡ 1)) ⊎ ((a ≢ b) × (tally (eqb a b) ≡ 0))
tally_is a b = go (eqb a b) (eqb→eq a b) (eq→eqb a b)
  where
    go : (c : Bool) → (T c → a ≡ b) → (a ≡ b → T c) → ((a ≡ b) × (tally c ≡ 1)) ⊎ ((a ≢ b) × (tally c ≡ 0))
    go true f g = inl (f tt, refl)
    go false f g = inr (λ e. g e, refl)

once : (a x d : ℕ) → (span (λ t. tally (eqb a t)) x d ≡ 0) ⊎ ((span (λ t. tally (eqb a t)) x d ≡ 1) × (x ≤ a) × (a ≤ x + d))
unfolding span
once a x zero = ⊎_elim (λ e. inr (e.1, omega (arith, e.0), omega (arith, e.0))) (λ e. inl e.1) (tally_is a x)
once a x (suc d) = ⊎_elim
    (λ e. inr (⊎_elim (λ z. (omega (arith, e.1), omega (arith, e.0), omega (arith, e.0))) (λ z. absurd (omega (arith, e.0, z.2)))
    (once a x d)))
    (λ e. ⊎_elim (λ z. inl (omega (arith, e.1))) (λ z. inr (omega (arith, e.1, z.0), z.1, omega (arith, z.2))) (once a x d))
    (tally_is a (suc (x + d)))

pub critical_rate : (p w n x d : ℕ) (ρ : ℕ → ℕ) → 0 < p → ((i k : ℕ) → i < k → k < n → x ≤ ρ i → ρ k ≤ x + d → k * p ≤ i * p + w)
    → span (λ t. count (λ k. eqb (ρ k) t) (passing (λ k. true) n)) x d ≤ w / p + 1
critical_rate p w n x d ρ pos apart =
    let c : ℕ → ℕ = λ k. span (λ t. tally (eqb (ρ k) t)) x d in
    omega (
      arith,
      span_sum (λ t k. tally (eqb (ρ k) t)) c x d (passing (λ k. true) n) (λ k m. le_refl (c k)),
      weigh_passing c (λ k. true) n,
      steps_count p w x d n ρ pos apart c (λ k. once (ρ k) x d),
    )

-- ---- sums: what comes at tick a is there once after it
came_once : (a c t : ℕ) → a < t → upto (λ u. cond (eqb a u) c 0) t ≡ c
came_once a c t l = (upto_one (λ u. cond (eqb a u) c 0) (λ u. 0) a c
    (λ i e. by_eqb a i (λ (z : ℕ). z ≡ 0) (λ k. absurd (e (sym k))) (λ k. refl))
    (by_eqb a a (λ (z : ℕ). z ≡ 0 + c) (λ k. omega arith) (λ k. absurd (k refl))) t).1 l
    ∙ (omega (arith, upto_zeros t))

weigh_steady : (c n : ℕ) → weigh (λ k. c) (passing (λ k. true) n) ≡ n * c
unfolding total passing
weigh_steady c zero = omega arith
weigh_steady c (suc n) = omega (arith, weigh_append (λ k. c) (passing (λ k. true) n) (n ∷ []), weigh_steady c n)

-- all that the pattern brings by tick t
pub all_brought : {X : Type 0} (w : X → ℕ) (mk : ℕ → ℕ → X) (ρ : ℕ → ℕ → ℕ) (n c : ℕ → ℕ) (t : ℕ) (ns : List ℕ)
    → ((s k : ℕ) → Memᴰ s ns → k < n s → ρ s k < t) → ((s k : ℕ) → Memᴰ s ns → w (mk s k) ≡ c s)
    → upto (λ u. weigh w (gather (λ s. chosen (λ k. eqb (ρ s k) u) (mk s) (passing (λ k. true) (n s))) ns)) t ≡ weigh (λ s. n s * c s) ns
all_brought w mk ρ n c t ns h e =
    let part : ℕ → ℕ → ℕ → ℕ = λ u s k. cond (eqb (ρ s k) u) (w (mk s k)) 0 in
    let all : ℕ → List ℕ = λ s. passing (λ k. true) (n s) in
    simp (weigh_gather, chosen_weigh) (
    upto_sum (λ u s. weigh (part u s) (all s)) t ns
    ∙ weigh_same (λ s. upto (λ u. weigh (part u s) (all s)) t) (λ s. n s * c s) ns
    (λ s m. upto_sum (λ u. part u s) t (all s)
    ∙ weigh_same (λ k. upto (λ u. part u s k) t) (λ k. c s) (all s)
    (λ k i. came_once (ρ s k) (w (mk s k)) t (h s k m (was_passing (λ j. true) (n s) k i).0) ∙ e s k m)
    ∙ weigh_steady (c s) (n s)))

-- the pattern keeps each stream's rule
pub pattern_rate : {X : Type 0} (q : X → Bool) (mk : ℕ → ℕ → X) (ρ : ℕ → ℕ → ℕ) (n : ℕ → ℕ) (p w v m : ℕ) (test : ℕ → Bool) → 0 < p → ((s k : ℕ) → s ≢ v → T (q (mk s k)) → ⊥) → (x d : ℕ)
    → ((i k : ℕ) → i < k → k < n v → x ≤ ρ v i → ρ v k ≤ x + d → k * p ≤ i * p + w)
    → span (λ t. count q (gather (λ s. chosen (λ k. eqb (ρ s k) t) (mk s) (passing (λ k. true) (n s))) (passing test m))) x d ≤ w / p + 1
pattern_rate q mk ρ n p w v m test pos other x d apart =
    le_trans (span_mono (λ t. count q (gather (λ s. chosen (λ k. eqb (ρ s k) t) (mk s) (passing (λ k. true) (n s))) (passing test m))) (λ t. count (λ k. eqb (ρ v k) t) (passing (λ k. true) (n v)))
    (λ t. let f : ℕ → List _ = λ s. chosen (λ k. eqb (ρ s k) t) (mk s) (passing (λ k. true) (n s)) in
    le_trans (le_of_eq (weigh_gather (λ x. tally (q x)) f (passing test m)))
    (le_trans (weigh_one (λ s. count q (f s)) v
    (λ i e. count_none q (f i) (λ y k g. let o = was_chosen (λ k. eqb (ρ i k) t) (mk i) (passing (λ k. true) (n i)) y k in other i o.from e (subst (λ z. T (q z)) (sym o.is) g))) test m)
    (le_trans (count_any q (f v)) (le_of_eq (chosen_any (λ k. eqb (ρ v k) t) (mk v) (passing (λ k. true) (n v)))))))
    x d)
    (critical_rate p w (n v) x d (ρ v) pos apart)

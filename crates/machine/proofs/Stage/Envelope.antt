-- What leaves a stage brings no more than what comes, with the spread of the stage added to the jitter.
-- Assumes nothing.
use Prim.Native.Nat.{ℕ, zero, suc, ◌+◌, ◌-◌, ◌/◌, ◌≤◌, ◌<◌}
use mathlib.Core.Bool.{Bool, true, false, ◌&&◌}
use mathlib.Core.List.{List, Memᴰ}
use mathlib.Core.Logic.{◌⊎◌, inl, inr, ⊎_elim, dite}
use mathlib.Core.Path.{◌≡◌, refl, sym, ap, ◌∙◌}
use native.Mathlib.Decide.{dec_le}
use native.Mathlib.Nat.{le_refl, le_of_eq, le_trans, add-zero, add-suc, div-mul-le_self, le-div_iff_mul-le}
use native.Mathlib.Omega.{arith}
use lib.Dec.{leb, T, leb→le, le→leb}
use Rattle.base.proofs.Every.{left, right, is_true}
use Rattle.station.specs.Station.{Flow, most}
use Rattle.machine.specs.Sum.{span, count, tally}
use Rattle.machine.proofs.Lists.Cases.{both}
use Rattle.machine.proofs.Lists.Sums.{span_mono, span_mono_in, span_zeros, upto, upto_none, weigh_mono, weigh_none}
use Rattle.machine.proofs.Stage.Select.{any}
use Rattle.machine.proofs.Stage.Delay.{Delay}

pub div_mono : (a b k : ℕ) → 0 < k → a ≤ b → a / k ≤ b / k
div_mono a b k h m = (le-div_iff_mul-le {x = a / k} {y = b} h).1 (omega (arith, div-mul-le_self a k))

pub upto_split : (f : ℕ → ℕ) (a k : ℕ) → upto f (suc (a + k)) ≡ upto f a + span f a k
unfolding upto span
upto_split f a zero = ap (upto f) (ap suc (add-zero a))
upto_split f a (suc k) = ap (λ (n : ℕ). upto f n + f n) (add-suc a k) ∙ (omega (arith, upto_split f a k))

span_tail : (f : ℕ → ℕ) (a w j : ℕ) → ((t : ℕ) → a + w < t → f t ≡ zero) → span f a (w + j) ≡ span f a w
unfolding span
span_tail f a w zero h = ap (span f a) (add-zero w)
span_tail f a w (suc j) h = ap (span f a) (add-suc w j) ∙ (omega (arith, span_tail f a w j h, h (suc (a + (w + j))) (omega arith)))

module _ {X : Type 0} where
  pub count_any : (p : X → Bool) (l : List X) → count p l ≤ count any l
  count_any p l = weigh_mono (λ x. tally (p x)) (λ x. 1) l
      (λ x m. elim (p x) as (λ b. tally b ≤ 1) [ true ↦ le_refl 1 | false ↦ omega arith ])

  pub count_none : (p : X → Bool) (l : List X) → ((x : X) → Memᴰ x l → T (p x) → ⊥) → count p l ≡ zero
  count_none p l h = weigh_none (λ x. tally (p x)) l
      (λ x m. (elim (p x) as (λ b. (T b → ⊥) → tally b ≡ 0) [ true ↦ λ k. absurd (k tt) | false ↦ λ k. refl ]) (h x m))

  module _ (src out : ℕ → List X) (lo hi : ℕ) (del : Delay src out lo hi)
      (stamp : X → ℕ) (stamped : (t : ℕ) (x : X) → Memᴰ x (src t) → stamp x ≡ t) where
    -- the source's ticks from which something may be out between x and x + d
    inside : ℕ → ℕ → X → Bool
    inside x d y = leb x (stamp y + hi) && leb (stamp y + lo) (x + d)

    out_inside : (x d t : ℕ) → x ≤ t → t ≤ x + d → (y : X) → Memᴰ y (out t) → T (inside x d y)
    unfolding inside
    out_inside x d t a b y m =
        let k = del.backward t y m in
        let e = stamped k.at y k.there in
        both (leb x (stamp y + hi)) (leb (stamp y + lo) (x + d)) (le→leb x (stamp y + hi) (omega (arith, k.most)))
        (le→leb (stamp y + lo) (x + d) (omega (arith, k.least)))

    span_inside : (x d : ℕ) → span (λ t. count any (out t)) x d ≤ span (λ t. count (inside x d) (out t)) x d
    span_inside x d = span_mono_in (λ t. count any (out t)) (λ t. count (inside x d) (out t)) x d
        (λ t a b. weigh_mono (λ y. 1) (λ y. tally (inside x d y)) (out t)
        (λ y m. le_of_eq (ap tally (sym (is_true (inside x d y) (out_inside x d t a b y m))))))

    src_outside : (x d t : ℕ) → (t + hi < x) ⊎ (x + d < t + lo) → count (inside x d) (src t) ≡ zero
    unfolding inside
    src_outside x d t h = count_none (inside x d) (src t) (λ y m i.
        let e = stamped t y m in
        let a = leb→le x (stamp y + hi) (left (leb x (stamp y + hi)) (leb (stamp y + lo) (x + d)) i) in
        let b = leb→le (stamp y + lo) (x + d) (right (leb x (stamp y + hi)) (leb (stamp y + lo) (x + d)) i) in
        ⊎_elim (λ g. omega arith) (λ g. omega arith) h)

    none_out : (x d : ℕ) → ((t : ℕ) → t ≤ x + d → (y : X) → Memᴰ y (out t) → ⊥) → span (λ t. count any (out t)) x d ≤ 0
    none_out x d h = le_trans
        (span_mono_in (λ t. count any (out t)) (λ t. zero) x d (λ t a b. le_of_eq (count_none any (out t) (λ y m i. h t b y m))))
        (le_of_eq (span_zeros x d))

    -- all that is out between x and x + d was in the source in a span of at most d and the stage's spread
    window : (x d : ℕ) → lo ≤ hi → lo ≤ x + d → span (λ t. count any (out t)) x d ≤ span (λ t. count any (src t)) (x - hi) (x + d - lo - (x - hi))
    window x d order h =
        let a : ℕ = x - hi in
        let w : ℕ = x + d - lo - a in
        let f : ℕ → ℕ = λ t. count (inside x d) (src t) in
        let g : ℕ → ℕ = λ t. count (inside x d) (out t) in
        let s₁ = span_inside x d in
        let s₂ : upto g (suc (x + d)) ≡ upto g x + span g x d = upto_split g x d in
        let s₃ = del.weighed (λ y. tally (inside x d y)) (suc (x + d)) in
        let s₄ : upto f (suc (a + (w + lo))) ≡ upto f a + span f a (w + lo) = upto_split f a (w + lo) in
        let s₅ : upto f a ≡ zero = upto_none f a (λ t k. src_outside x d t (inl (omega arith))) in
        let s₆ : span f a (w + lo) ≡ span f a w = span_tail f a w lo (λ t k. src_outside x d t (inr (omega arith))) in
        let s₇ = span_mono f (λ t. count any (src t)) (λ t. count_any (inside x d) (src t)) a w in
        let s₈ : upto f (suc (x + d)) ≡ upto f (suc (a + (w + lo))) = ap (λ (n : ℕ). upto f (suc n)) (omega arith) in
        omega arith

    pub envelope : (f : Flow) → 0 < f.period → ((x d : ℕ) → span (λ t. count any (src t)) x d ≤ most f d)
        → (x d : ℕ) → span (λ t. count any (out t)) x d ≤ most (record { period = f.period; jitter = f.jitter + (hi - lo); cost = f.cost }) d
    unfolding most
    envelope f pos rate x d = dite (dec_le lo hi)
        (λ o. dite (dec_le lo (x + d))
        (λ h. omega (
          arith,
          window x d o h,
          rate (x - hi) (x + d - lo - (x - hi)),
          div_mono (x + d - lo - (x - hi) + f.jitter) (d + (f.jitter + (hi - lo))) f.period pos (omega arith),
        ))
        (λ h. omega (arith, none_out x d (λ t b y m. let k = del.backward t y m in omega (arith, k.least)))))
        (λ o. omega (arith, none_out x d (λ t b y m. let k = del.backward t y m in omega (arith, k.least, k.most))))

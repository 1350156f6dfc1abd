-- Any function of the span: what its least length, its greatest excess and its least span are, and that the excess bounds every span, not only those below the length.
-- Assumes nothing.
use Prim.Native.Nat.{ℕ, zero, suc, ◌+◌, ◌-◌, ◌≤◌, ◌<◌}
use mathlib.Core.Bool.{false}
use mathlib.Core.Logic.{◌⊎◌, inl, inr, ⊎_elim}
use Rattle.std.specs.Prelude.{None, Some}
use mathlib.Core.Path.{◌≡◌}
use native.Mathlib.Decide.{dec_lt}
use native.Mathlib.Omega.{arith}
use lib.Dec.{leb}
use borrow.Author.Tests.{le-leb, lt-leb, leb-true, leb-false, eq-eqb, ne_eqb}
use Rattle.base.proofs.LeastLaws.{least_is, least_none, least_was, greatest_is, greatest_at}
use Rattle.search.specs.Spans.{least_length_to, excess, least_span}

pub lt_or_ge : (a b : ℕ) → (a < b) ⊎ (b ≤ a)
lt_or_ge a b = elim (dec_lt a b) [ yes h ↦ inl h | no n ↦ inr (omega arith) ]

module _ (g : ℕ → ℕ) where
  fails_below : (n : ℕ) → ((e : ℕ) → e < n → suc e < g e) → (l : ℕ) → 1 ≤ l → l < suc n → leb (g (l - 1)) l ≡ false
  fails_below n fails zero a b = absurd (omega arith)
  fails_below n fails (suc e) a b = let same : suc e - 1 ≡ e = omega arith in rw same (lt-leb (g e) (suc e) (fails e (omega arith)))

  module _ (lim : ℕ) where
    -- d + 1 serves, and no shorter length does
    pub length_is : (d : ℕ) → d < lim → g d ≤ suc d → ((e : ℕ) → e < d → suc e < g e) → least_length_to lim g ≡ Some (suc d)
    unfolding least_length_to
    length_is d h serves fails = least_is _ 1 lim (suc d) (omega arith) (omega arith) (let same : suc d - 1 ≡ d = omega arith in rw same (le-leb (g d) (suc d) serves)) (fails_below d fails)

    pub length_none : ((e : ℕ) → e < lim → suc e < g e) → least_length_to lim g ≡ None
    unfolding least_length_to
    length_none fails = least_none _ 1 lim (λ l a b. fails_below lim fails l a (omega arith))

    -- what a least length is: from 1 to the limit, it serves, and no shorter one does
    pub record Serving (l : ℕ) : Type 0 where
      pub some_ticks : 1 ≤ l
      pub in_limit : l ≤ lim
      pub serves : g (l - 1) ≤ l
      pub shorter : (e : ℕ) → suc e < l → suc e < g e

    pub length_was : (l : ℕ) → least_length_to lim g ≡ Some l → Serving l
    unfolding least_length_to
    length_was l e =
        let r = least_was _ 1 lim l e in
        record {
          some_ticks = r.low;
          in_limit = omega (arith, r.high);
          serves = leb-true (g (l - 1)) l r.passes;
          shorter = λ e' h. let same : suc e' - 1 ≡ e' = omega arith in leb-false (g e') (suc e') (rw same at (r.fails (suc e') (omega arith) h));
        }

  -- a bound on every span below l that one of them reaches is the excess, and the least such span its span
  module _ (l v d : ℕ) (bound : (e : ℕ) → e < l → g e ≤ v + e) (low : d < l) (reached : g d ≡ v + d) where
    pub excess_is : excess g l ≡ v
    unfolding excess
    excess_is = greatest_is (λ e. g e - e) l v d (λ e h. omega (arith, bound e h)) low (omega arith)

    pub span_is : ((e : ℕ) → e < d → g e ≡ v + e → ⊥) → (0 < v ⊎ (d ≡ 0)) → least_span g l ≡ Some d
    unfolding least_span
    span_is least some-excess =
        least_is _ 0 l d (omega arith) (omega arith) (eq-eqb (g d - d) (excess g l) (omega (arith, excess_is)))
        (λ e a b. ne_eqb (g e - e) (excess g l) (λ same. ⊎_elim
        (λ (h : 0 < v). least e b (omega (arith, excess_is)))
        (λ (h : d ≡ 0). absurd (omega arith))
        some-excess))

  -- every span below the length is within the excess
  pub excess_covers : (l d : ℕ) → d < l → g d ≤ excess g l + d
  unfolding excess
  excess_covers l d h = omega (arith, greatest_at (λ e. g e - e) l d h)

  -- and if what comes after the length is as what comes after 0, every span is
  pub covers_all : (l v : ℕ) → 0 < l → ((e : ℕ) → g (l + e) ≤ l + g e) → ((e : ℕ) → e < l → g e ≤ v + e) → (d : ℕ) → g d ≤ v + d
  covers_all l v pos again below d = go d d (omega arith)
    where
      go : (n e : ℕ) → e ≤ n → g e ≤ v + e
      go zero e h = below e (omega arith)
      go (suc n) e h = ⊎_elim (below e) (λ (a : l ≤ e). later (e - l) (omega arith) (go n (e - l) (omega arith))) (lt_or_ge e l)
        where
          later : (k : ℕ) → e ≡ l + k → g k ≤ v + k → g e ≤ v + e
          later k same h = rw same (omega (arith, again k))

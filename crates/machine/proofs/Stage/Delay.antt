-- A stage that keeps what comes for a time between two bounds: each thing leaves, comes from before, and is not doubled: by any weight, no more is out than was in.
-- Assumes nothing.
use Prim.Native.Nat.{ℕ, zero, suc, ◌+◌, ◌≤◌, ◌<◌}
use mathlib.Core.Bool.{Bool, true, false, not, cond}
use mathlib.Core.List.{List, [], ◌∷◌, ◌++◌, Memᴰ}
use mathlib.Core.List.Permᴰ
use mathlib.Core.List.{Permᴰ}
use mathlib.Core.Logic.{⊎_elim}
use mathlib.Core.Path.{◌≡◌, refl, sym, ap, subst, subst₂, fun_ext}
use native.Mathlib.Nat.{le_of_eq, le_trans}
use native.Mathlib.Omega.{arith}
use lib.Dec.{leb, leb→le, le→leb, nleb→lt}
use Rattle.base.specs.Tabulate.{total}
use Rattle.machine.specs.Sum.{weigh}
use Rattle.machine.specs.Lists.{chosen}
use Rattle.machine.specs.Pool.{Due, set_out, landed, later}
use Rattle.machine.proofs.Lists.Cases.{by_leb₂, lt→nleb}
use Rattle.machine.proofs.Lists.Orders.{perm_weigh, perm_mem, none_in}
use Rattle.machine.proofs.Stage.Select.{any, was_chosen, is_chosen, chosen_weigh}
use Rattle.machine.proofs.Lists.Sums.{upto, weigh_append}

module _ {X : Type 0} where
  -- x is in f at a tick from lo to hi after t, or before t
  pub record After (f : ℕ → List X) (lo hi t : ℕ) (x : X) : Type 0 where
    pub at : ℕ
    pub there : Memᴰ x (f at)
    pub least : t + lo ≤ at
    pub most : at ≤ t + hi

  pub record Before (f : ℕ → List X) (lo hi t : ℕ) (x : X) : Type 0 where
    pub at : ℕ
    pub there : Memᴰ x (f at)
    pub least : at + lo ≤ t
    pub most : t ≤ at + hi

  pub record Delay (ins out : ℕ → List X) (lo hi : ℕ) : Type 0 where
    pub forward : (t : ℕ) (x : X) → Memᴰ x (ins t) → After out lo hi t x
    pub backward : (t : ℕ) (x : X) → Memᴰ x (out t) → Before ins lo hi t x
    pub weighed : (w : X → ℕ) (t : ℕ) → upto (λ u. weigh w (out u)) t ≤ upto (λ u. weigh w (ins u)) t

  -- one stage after the other
  infixl 20 ◌then◌
  pub ◌then◌ : {f g h : ℕ → List X} {lo hi lo' hi' : ℕ} → Delay f g lo hi → Delay g h lo' hi' → Delay f h (lo + lo') (hi + hi')
  ◌then◌ a b = record {
    forward = λ t x m. let u = a.forward t x m in let w = b.forward u.at x u.there in
        record { at = w.at; there = w.there; least = omega (arith, u.least, w.least); most = omega (arith, u.most, w.most) };
    backward = λ t x m. let w = b.backward t x m in let u = a.backward w.at x w.there in
        record { at = u.at; there = u.there; least = omega (arith, u.least, w.least); most = omega (arith, u.most, w.most) };
    weighed = λ w t. le_trans (b.weighed w t) (a.weighed w t);
  }

  -- ---- reorderings
  pub reordered : {f g : ℕ → List X} → ((t : ℕ) → Permᴰ (f t) (g t)) → Delay f g 0 0
  reordered {f} {g} h = record {
    forward = λ t x m. record { at = t; there = perm_mem (h t) m; least = omega arith; most = omega arith };
    backward = λ t x m. record { at = t; there = perm_mem (Permᴰ.symm (h t)) m; least = omega arith; most = omega arith };
    weighed = λ w t. le_of_eq (ap (λ (k : ℕ → ℕ). upto k t) (fun_ext (λ u. sym (perm_weigh w (h u)))));
  }

  pub delay_same : {f g f' g' : ℕ → List X} {lo hi : ℕ} → ((t : ℕ) → f t ≡ f' t) → ((t : ℕ) → g t ≡ g' t) → Delay f g lo hi
      → Delay f' g' lo hi
  delay_same {lo = lo} {hi = hi} h k d = subst₂ (λ (a b : ℕ → List X). Delay a b lo hi) (fun_ext h) (fun_ext k) d

  pub looser : {f g : ℕ → List X} {lo hi lo' hi' : ℕ} → lo' ≤ lo → hi ≤ hi' → Delay f g lo hi → Delay f g lo' hi'
  looser a b d = record {
    forward = λ t x m. let r = d.forward t x m in record { at = r.at; there = r.there; least = omega arith; most = omega arith };
    backward = λ t x m. let r = d.backward t x m in record { at = r.at; there = r.there; least = omega arith; most = omega arith };
    weighed = d.weighed;
  }

  -- ---- things on their way: what lands, what stays and what sets out are parts of lists
  landed_is : (t : ℕ) (ds : List (Due X)) → landed t ds ≡ chosen (λ d. leb d.at t) (λ d. d.item) ds
  landed_is t [] = refl
  landed_is t (d ∷ ds) = rw (landed_is t ds)

  later_is : (t : ℕ) (ds : List (Due X)) → later t ds ≡ chosen (λ d. not (leb d.at t)) (λ d. d) ds
  later_is t [] = refl
  later_is t (d ∷ ds) = rw (later_is t ds)
      (elim (leb d.at t) as
      (λ b. let l = chosen (λ c. not (leb c.at t)) (λ c. c) ds in cond b [] (d ∷ []) ++ l ≡ cond (not b) (d ∷ []) [] ++ l)
      [ true ↦ refl | false ↦ refl ])

  out_is : (t : ℕ) (delay : X → ℕ) (l : List X) → set_out t delay l ≡ chosen any (λ x. record { item = x; at = t + delay x }) l
  out_is t delay [] = refl
  out_is t delay (x ∷ l) = rw (out_is t delay l)

  landed_weigh : (w : X → ℕ) (t : ℕ) (ds : List (Due X)) → weigh w (landed t ds) + weigh (λ d. w d.item) (later t ds) ≡ weigh (λ d. w d.item) ds
  unfolding total
  landed_weigh w t [] = refl
  landed_weigh w t (d ∷ ds) = by_leb₂ d.at t
      (λ (o : List X) (q : List (Due X)). weigh w (o ++ landed t ds) + weigh (λ c. w c.item) (q ++ later t ds) ≡ w d.item + weigh (λ c. w c.item) ds)
      (λ b. omega (arith, landed_weigh w t ds)) (λ b. omega (arith, landed_weigh w t ds))

  out_weigh : (w : X → ℕ) (t : ℕ) (delay : X → ℕ) (l : List X) → weigh (λ d. w d.item) (set_out t delay l) ≡ weigh w l
  unfolding total
  out_weigh w t delay [] = refl
  out_weigh w t delay (x ∷ l) = omega (arith, out_weigh w t delay l)

  -- a way: those on it before each tick, and those that set out in it
  module _ (delay : ℕ → X → ℕ) (ins : ℕ → List X) (pool : ℕ → List (Due X)) (none₀ : pool zero ≡ [])
      (next : (t : ℕ) → pool (suc t) ≡ later t (pool t ++ set_out t (delay t) (ins t))) where
    abbrev all : ℕ → List (Due X)
    all t = pool t ++ set_out t (delay t) (ins t)

    record From (t : ℕ) (d : Due X) : Type 0 where
      at : ℕ
      there : Memᴰ d.item (ins at)
      ends : d.at ≡ at + delay at d.item
      now : t ≤ d.at

    from_out : (t : ℕ) (d : Due X) → Memᴰ d (set_out t (delay t) (ins t)) → From t d
    from_out t d m =
        let o = was_chosen any (λ x. record { item = x; at = t + delay t x }) (ins t) d (rw (out_is t (delay t) (ins t)) at m) in
        subst (From t) o.is (record { at = t; there = o.there; ends = refl; now = omega arith })

    from : (t : ℕ) (d : Due X) → Memᴰ d (all t) → From t d
    from zero d m = from_out zero d (rw none₀ at m)
    from (suc t) d m = ⊎_elim
        (λ i.
        let o = was_chosen (λ c. not (leb c.at t)) (λ c. c) (all t) d (rw (next t, later_is t (all t)) at i) in
        let k = from t o.from o.there in
        subst (From (suc t)) o.is (record { at = k.at; there = k.there; ends = k.ends; now = nleb→lt o.from.at t o.passes }))
        (λ i. from_out (suc t) d i)
        (mathlib.Core.List.Memᴰ.append_cases (pool (suc t)) m)

    goes : (n t : ℕ) (d : Due X) → d.at ≡ t + n → Memᴰ d (all t) → Memᴰ d.item (landed d.at (all d.at))
    goes zero t d e m =
        let e' : d.at ≡ t = omega arith in
        rw (e', landed_is t (all t)) (is_chosen (λ c. leb c.at t) (λ c. c.item) (all t) d m (le→leb d.at t (omega arith)))
    goes (suc n) t d e m =
        let stays : Memᴰ d (pool (suc t)) =
        rw (next t, later_is t (all t)) (is_chosen (λ c. not (leb c.at t)) (λ c. c) (all t) d m (lt→nleb d.at t (omega arith))) in
        goes n (suc t) d (omega arith) (mathlib.Core.List.Memᴰ.append_left (set_out (suc t) (delay (suc t)) (ins (suc t))) stays)

    kept : (w : X → ℕ) (t : ℕ)
        → upto (λ u. weigh w (landed u (all u))) t + weigh (λ d. w d.item) (pool t) ≡ upto (λ u. weigh w (ins u)) t
    unfolding upto total
    kept w zero = rw none₀ refl
    kept w (suc t) =
        let v : Due X → ℕ = λ d. w d.item in
        let o = out_weigh w t (delay t) (ins t) in
        omega (arith, kept w t, ap (weigh v) (next t), landed_weigh w t (all t), weigh_append v (pool t) (set_out t (delay t) (ins t)))

    -- once all have landed, nothing is on its way
    pub all_landed : (w : X → ℕ) (t : ℕ) → ((u : ℕ) (x : X) → Memᴰ x (ins u) → u + delay u x < t)
        → upto (λ u. weigh w (landed u (all u))) t ≡ upto (λ u. weigh w (ins u)) t
    unfolding total
    all_landed w t h =
        let none_left = none_in (pool t) (λ d m. let f = from t d (mathlib.Core.List.Memᴰ.append_left (set_out t (delay t) (ins t)) m) in
        omega (arith, f.ends, f.now, h f.at d.item f.there)) in
        omega (arith, kept w t, ap (weigh (λ d. w d.item)) none_left)

    pub landed_from : (t : ℕ) (x : X) → Memᴰ x (landed t (all t)) → (u : ℕ) × Memᴰ x (ins u) × (u + delay u x ≡ t)
    landed_from t x m =
        let o = was_chosen (λ d. leb d.at t) (λ d. d.item) (all t) x (rw (landed_is t (all t)) at m) in
        let f = from t o.from o.there in
        let e = leb→le o.from.at t o.passes in
        (f.at, rw o.is at f.there, omega (arith, f.ends, f.now, ap (delay f.at) o.is))

    pub on_the_way : (lo hi : ℕ) → ((t : ℕ) (x : X) → Memᴰ x (ins t) → (lo ≤ delay t x) × (delay t x ≤ hi))
        → Delay ins (λ t. landed t (all t)) lo hi
    on_the_way lo hi h = record {
      forward = λ t x m.
          let b = h t x m in
          let d : Due X = record { item = x; at = t + delay t x } in
          let out : Memᴰ d (set_out t (delay t) (ins t)) =
          rw (out_is t (delay t) (ins t)) (is_chosen any (λ y. record { item = y; at = t + delay t y }) (ins t) x m tt) in
          let lands-then = goes (delay t x) t d refl (mathlib.Core.List.Memᴰ.append_right (pool t) out) in
          record { at = d.at; there = lands-then; least = omega arith; most = omega arith };
      backward = λ t x m.
          let f = landed_from t x m in
          let b = h f.0 x f.1 in
          record { at = f.0; there = f.1; least = omega (arith, f.2); most = omega (arith, f.2) };
      weighed = λ w t. omega (arith, kept w t);
    }

-- a part of what passes through a stage passes through it
module _ {X Y : Type 0} (p : X → Bool) (f : X → Y) where
  pub delay_chosen : {ins out : ℕ → List X} {lo hi : ℕ} → Delay ins out lo hi
      → Delay (λ t. chosen p f (ins t)) (λ t. chosen p f (out t)) lo hi
  delay_chosen {ins} {out} d = record {
    forward = λ t y m.
        let r = was_chosen p f (ins t) y m in
        let a = d.forward t r.from r.there in
        let i = is_chosen p f (out a.at) r.from a.there r.passes in
        record { at = a.at; there = mathlib.Core.List.Memᴰ.cast (sym r.is) i; least = a.least; most = a.most };
    backward = λ t y m.
        let r = was_chosen p f (out t) y m in
        let a = d.backward t r.from r.there in
        let i = is_chosen p f (ins a.at) r.from a.there r.passes in
        record { at = a.at; there = mathlib.Core.List.Memᴰ.cast (sym r.is) i; least = a.least; most = a.most };
    weighed = λ w t. simp (chosen_weigh p f w) (d.weighed (λ x. cond (p x) (w (f x)) 0) t);
  }

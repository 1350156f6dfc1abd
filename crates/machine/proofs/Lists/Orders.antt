-- Lists in another order: the same is in them, and they weigh the same. Lists that are gathered by numbers.
-- Assumes nothing.
use Prim.Native.Nat.{ℕ}
use mathlib.Core.List.Memᴰ
use mathlib.Core.List.{List, [], ◌∷◌, ◌++◌, append_assoc, Memᴰ}
use mathlib.Core.List.Permᴰ
use mathlib.Core.List.{Permᴰ}
use mathlib.Core.Logic.{⊎_elim}
use mathlib.Core.Path.{◌≡◌, refl, sym, ap, ◌∙◌, subst}
use native.Mathlib.Omega.{arith}
use Rattle.base.specs.Tabulate.{total}
use Rattle.machine.specs.Sum.{weigh}
use Rattle.machine.specs.Lists.{gather}
use Rattle.machine.proofs.Lists.Sums.{weigh_append}

module _ {X : Type 0} where
  pub perm_weigh : (w : X → ℕ) {l r : List X} → Permᴰ l r → weigh w l ≡ weigh w r
  unfolding total
  perm_weigh w Permᴰ.nil = refl
  perm_weigh w (Permᴰ.cons e h) = omega (arith, ap w e, perm_weigh w h)
  perm_weigh w (Permᴰ.swap e f) = omega (arith, ap w e, ap w f)
  perm_weigh w (Permᴰ.trans h k) = perm_weigh w h ∙ perm_weigh w k

  pub perm_mem : {x : X} {l r : List X} → Permᴰ l r → Memᴰ x l → Memᴰ x r
  perm_mem Permᴰ.nil m = m
  perm_mem {x} (Permᴰ.cons e h) m = ⊎_elim (λ i. Memᴰ.head (i ∙ e)) (λ i. Memᴰ.tail (perm_mem h i)) (Memᴰ.cases_cons m)
  perm_mem {x} (Permᴰ.swap e f) m = ⊎_elim
      (λ i. Memᴰ.tail (Memᴰ.head (i ∙ e)))
      (λ i. ⊎_elim (λ j. Memᴰ.head (j ∙ f)) (λ j. Memᴰ.tail (Memᴰ.tail j)) (Memᴰ.cases_cons i))
      (Memᴰ.cases_cons m)
  perm_mem (Permᴰ.trans h k) m = perm_mem k (perm_mem h m)

  pub perm_between : (a b c : List X) → Permᴰ (a ++ (b ++ c)) (b ++ (a ++ c))
  perm_between a b c = rw (← append_assoc a b c, ← append_assoc b a c) (Permᴰ.append_right c (Permᴰ.append_comm a b))

  pub none_in : (l : List X) → ((x : X) → Memᴰ x l → ⊥) → l ≡ []
  none_in [] h = refl
  none_in (x ∷ l) h = absurd (h x (Memᴰ.head refl))

  pub is_gathered : (f : ℕ → List X) (ns : List ℕ) (i : ℕ) (x : X) → Memᴰ i ns → Memᴰ x (f i) → Memᴰ x (gather f ns)
  is_gathered f [] i x x4 k = elim x4 [ ]
  is_gathered f (n ∷ ns) i x (Memᴰ.head e) k = Memᴰ.append_left (gather f ns) (subst (λ (m : ℕ). Memᴰ x (f m)) e k)
  is_gathered f (n ∷ ns) i x (Memᴰ.tail m) k = Memᴰ.append_right (f n) (is_gathered f ns i x m k)

  pub was_gathered : (f : ℕ → List X) (ns : List ℕ) (x : X) → Memᴰ x (gather f ns) → (i : ℕ) × Memᴰ i ns × Memᴰ x (f i)
  was_gathered f [] x m = absurd (Memᴰ.not-nil m)
  was_gathered f (n ∷ ns) x m = ⊎_elim
      (λ k. (n, Memᴰ.head refl, k))
      (λ k. let w = was_gathered f ns x k in (w.0, Memᴰ.tail w.1, w.2))
      (Memᴰ.append_cases (f n) m)

  pub gather_append : (f : ℕ → List X) (a b : List ℕ) → gather f (a ++ b) ≡ gather f a ++ gather f b
  gather_append f [] b = refl
  gather_append f (n ∷ a) b = rw (gather_append f a b) (sym (append_assoc (f n) (gather f a) (gather f b)))

  pub weigh_gather : (w : X → ℕ) (f : ℕ → List X) (ns : List ℕ) → weigh w (gather f ns) ≡ weigh (λ s. weigh w (f s)) ns
  unfolding total
  weigh_gather w f [] = refl
  weigh_gather w f (s ∷ ns) = omega (arith, weigh_append w (f s) (gather f ns), weigh_gather w f ns)

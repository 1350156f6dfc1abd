-- Parts of lists and of stages: those of one VL, of one hop, of one stream; a part of what passes through a stage passes through it as a stage of its own.
-- Assumes nothing.
use Prim.Native.Nat.{ℕ, zero, suc, ◌≤◌, ◌<◌}
use mathlib.Core.Bool.{Bool, true, false, cond, not}
use mathlib.Core.List.Memᴰ
use mathlib.Core.List.Permᴰ
use mathlib.Core.List.{List, [], ◌∷◌, ◌++◌, Memᴰ, Permᴰ}
use mathlib.Core.List.{append-nil, append_assoc}
use mathlib.Core.Logic.{⊎_elim, ◌≢◌}
use mathlib.Core.Path.{◌≡◌, refl, sym, ap, ◌∙◌, subst}
use native.Mathlib.Nat.{le_refl, eq-or-lt_of_le, le_of_suc-le-suc}
use native.Mathlib.Omega.{arith}
use lib.Dec.{T, eqb, eqb_refl}
use lib.ListN.{length}
use Rattle.base.specs.Tabulate.{total, passing}
use Rattle.base.proofs.Every.{is_true}
use Rattle.base.proofs.TabulateLaws.{passing_member, member_passing}
use Rattle.machine.specs.Sum.{weigh, count, tally}
use Rattle.machine.specs.Lists.{chosen, gather}
use Rattle.machine.specs.Messages.{Frame, copy, of_hop}
use Rattle.machine.proofs.Lists.Cases.{by_test, by_eqb}
use Rattle.machine.proofs.Lists.Orders.{gather_append}
use Rattle.machine.proofs.Lists.Sums.{upto, upto_few, weigh_append, weigh_same, weigh_mono}

-- one more number at the end, if it passes
pub passing_suc : (q : ℕ → Bool) (n : ℕ) → passing q (suc n) ≡ passing q n ++ cond (q n) (n ∷ []) []
unfolding passing
passing_suc q n = elim (q n) as (λ b. elim b [ true ↦ passing q n ++ (n ∷ []) | false ↦ passing q n ] ≡ passing q n ++ cond b (n ∷ []) [])
    [ true ↦ refl | false ↦ sym (append-nil (passing q n)) ]

abbrev pub any : {X : Type 0} → X → Bool
any x = true

module _ {X Y : Type 0} (p : X → Bool) (f : X → Y) where
  pub record Origin (l : List X) (y : Y) : Type 0 where
    pub from : X
    pub there : Memᴰ from l
    pub passes : T (p from)
    pub is : f from ≡ y

  pub was_chosen : (l : List X) (y : Y) → Memᴰ y (chosen p f l) → Origin l y
  was_chosen [] y m = absurd (Memᴰ.not-nil m)
  was_chosen (x ∷ l) y m = ⊎_elim
      (by_test (p x) (λ (o : List Y). Memᴰ y o → Origin (x ∷ l) y)
      (λ h i. ⊎_elim (λ e. record { from = x; there = Memᴰ.head refl; passes = h; is = sym e }) (λ j. absurd (Memᴰ.not-nil j)) (Memᴰ.cases_cons i))
      (λ h i. absurd (Memᴰ.not-nil i)))
      (λ i. let r = was_chosen l y i in record { from = r.from; there = Memᴰ.tail r.there; passes = r.passes; is = r.is })
      (Memᴰ.append_cases (cond (p x) (f x ∷ []) []) m)

  pub is_chosen : (l : List X) (x : X) → Memᴰ x l → T (p x) → Memᴰ (f x) (chosen p f l)
  is_chosen [] x x4 h = elim x4 [ ]
  is_chosen (y ∷ l) x (Memᴰ.head e) h = Memᴰ.append_left (chosen p f l)
      (by_test (p y) (λ (o : List Y). Memᴰ (f x) o) (λ k. Memᴰ.head (ap f e)) (λ k. absurd (k (subst (λ (z : X). T (p z)) e h))))
  is_chosen (y ∷ l) x (Memᴰ.tail m) h = Memᴰ.append_right (cond (p y) (f y ∷ []) []) (is_chosen l x m h)

  -- the weight of those chosen is that of all, if those that are not weigh nothing
  pub chosen_weigh : (w : Y → ℕ) (l : List X) → weigh w (chosen p f l) ≡ weigh (λ x. cond (p x) (w (f x)) 0) l
  unfolding total
  chosen_weigh w [] = refl
  chosen_weigh w (x ∷ l) =
      let one : weigh w (cond (p x) (f x ∷ []) []) ≡ cond (p x) (w (f x)) 0 =
      elim (p x) as (λ b. weigh w (cond b (f x ∷ []) []) ≡ cond b (w (f x)) 0) [ true ↦ omega arith | false ↦ refl ] in
      omega (arith, weigh_append w (cond (p x) (f x ∷ []) []) (chosen p f l), chosen_weigh w l)

  pub chosen_any : (l : List X) → count any (chosen p f l) ≡ count p l
  chosen_any l = chosen_weigh (λ y. 1) l ∙ weigh_same (λ x. cond (p x) 1 0) (λ x. tally (p x)) l
      (λ x m. elim (p x) as (λ b. cond b 1 0 ≡ tally b) [ true ↦ refl | false ↦ refl ])

  pub chosen_append : (a b : List X) → chosen p f (a ++ b) ≡ chosen p f a ++ chosen p f b
  chosen_append [] b = refl
  chosen_append (x ∷ a) b = rw (chosen_append a b) (sym (append_assoc (cond (p x) (f x ∷ []) []) (chosen p f a) (chosen p f b)))

  chosen_gather : (g : ℕ → List X) (ns : List ℕ) → chosen p f (gather g ns) ≡ gather (λ i. chosen p f (g i)) ns
  chosen_gather g [] = refl
  chosen_gather g (n ∷ ns) = rw (chosen_append (g n) (gather g ns), chosen_gather g ns)

-- what is gathered of numbers of which only one has anything
pub gather_one : {X : Type 0} (f : ℕ → List X) (v : ℕ) → ((i : ℕ) → i ≢ v → f i ≡ []) → (q : ℕ → Bool) → T (q v) → (n : ℕ)
    → (n ≤ v → gather f (passing q n) ≡ []) × (v < n → gather f (passing q n) ≡ f v)
unfolding passing
gather_one f v none q t zero = (λ h. refl, λ h. absurd (omega arith))
gather_one {X} f v none q t (suc n) =
    let i = gather_one f v none q t n in
    let last : gather f (cond (q n) (n ∷ []) []) ≡ cond (q n) (f n) [] =
    elim (q n) as (λ b. gather f (cond b (n ∷ []) []) ≡ cond b (f n) []) [ true ↦ append-nil (f n) | false ↦ refl ] in
    let all = ap (gather f) (passing_suc q n) ∙ gather_append f (passing q n) (cond (q n) (n ∷ []) [])
    ∙ ap (λ (l : List X). gather f (passing q n) ++ l) last in
    let other : n ≢ v → cond (q n) (f n) [] ≡ [] =
    λ e. rw (none n e) (elim (q n) as (λ b. cond {A = List X} b [] [] ≡ []) [ true ↦ refl | false ↦ refl ]) in (
      λ h. all ∙ rw (i.0 (omega arith)) (other (omega arith)),
      λ h. ⊎_elim
          (λ (e : v ≡ n). all ∙ rw (i.0 (omega arith), ← e, is_true (q v) t))
          (λ (l : v < n). all ∙ rw (i.1 l, other (omega arith)) (append-nil (f v)))
          (eq-or-lt_of_le (le_of_suc-le-suc h)),
    )

-- ---- the copies of one hop among those of all hops of a port
same_hop : (h : ℕ) (l : List Frame) → of_hop h (chosen any (copy h) l) ≡ l
same_hop h [] = refl
same_hop h (f ∷ l) = rw (is_true (eqb h h) (eqb_refl h), same_hop h l)

other_hop : (h i : ℕ) → i ≢ h → (l : List Frame) → of_hop h (chosen any (copy i) l) ≡ []
other_hop h i e [] = refl
other_hop h i e (f ∷ l) = by_eqb i h (λ (o : List Frame). o ++ of_hop h (chosen any (copy i) l) ≡ []) (λ k. absurd (e k))
    (λ k. other_hop h i e l)

pub hops_at : (h : ℕ) (q : ℕ → Bool) (g : ℕ → List Frame) → T (q h) → (n : ℕ) → h < n
    → of_hop h (gather (λ i. chosen any (copy i) (g i)) (passing q n)) ≡ g h
hops_at h q g t n l =
    chosen_gather (λ c. eqb c.hop h) (λ c. c.frame) (λ i. chosen any (copy i) (g i)) (passing q n)
    ∙ (gather_one (λ i. of_hop h (chosen any (copy i) (g i))) h (λ i e. other_hop h i e (g i)) q t n).1 l
    ∙ same_hop h (g h)

-- ---- the numbers below n that pass a test
pub is_passing : (q : ℕ → Bool) (n i : ℕ) → i < n → T (q i) → Memᴰ i (passing q n)
is_passing q n i h t = member_passing q n i h (is_true (q i) t)

pub was_passing : (q : ℕ → Bool) (n i : ℕ) → Memᴰ i (passing q n) → (i < n) × T (q i)
was_passing q n i m = let w = passing_member q n i m in (w.0, subst T (sym w.1) tt)

-- ---- sums over numbers
pub weigh_passing : (g : ℕ → ℕ) (q : ℕ → Bool) (n : ℕ) → weigh g (passing q n) ≡ upto (λ i. cond (q i) (g i) 0) n
unfolding total upto passing
weigh_passing g q zero = refl
weigh_passing g q (suc n) =
    let last : weigh g (cond (q n) (n ∷ []) []) ≡ cond (q n) (g n) 0 =
    elim (q n) as (λ b. weigh g (cond b (n ∷ []) []) ≡ cond b (g n) 0) [ true ↦ omega arith | false ↦ refl ] in
    omega (arith, ap (weigh g) (passing_suc q n), weigh_append g (passing q n) (cond (q n) (n ∷ []) []), weigh_passing g q n)

-- a sum in which only one number counts
pub weigh_one : (g : ℕ → ℕ) (v : ℕ) → ((i : ℕ) → i ≢ v → g i ≡ zero) → (q : ℕ → Bool) (n : ℕ) → weigh g (passing q n) ≤ g v
weigh_one g v h q n =
    let f : ℕ → ℕ = λ i. cond (q i) (g i) 0 in
    let part : (i : ℕ) → f i ≤ g i = λ i. elim (q i) as (λ b. cond b (g i) 0 ≤ g i) [ true ↦ le_refl (g i) | false ↦ omega arith ] in
    omega (arith, weigh_passing g q n, upto_few f v (λ i e. omega (arith, part i, h i e)) n, part v)

pub part_weigh : {X : Type 0} (p : X → Bool) (w : X → ℕ) (l : List X) → weigh (λ x. cond (p x) (w x) 0) l ≤ weigh w l
part_weigh p w l = weigh_mono (λ x. cond (p x) (w x) 0) w l
    (λ x m. elim (p x) as (λ b. cond b (w x) 0 ≤ w x) [ true ↦ le_refl (w x) | false ↦ omega arith ])

pub count_chosen : {X : Type 0} (p q : X → Bool) (l : List X) → count q (chosen p (λ x. x) l) ≤ count q l
count_chosen p q l = rw (chosen_weigh p (λ x. x) (λ x. tally (q x)) l) (part_weigh p (λ x. tally (q x)) l)

pub chosen_all : {X : Type 0} (p : X → Bool) (l : List X) → ((x : X) → Memᴰ x l → T (p x)) → chosen p (λ x. x) l ≡ l
chosen_all p [] h = refl
chosen_all p (x ∷ l) h = rw (is_true (p x) (h x (Memᴰ.head refl)), chosen_all p l (λ y m. h y (Memᴰ.tail m)))

-- those that pass a test behind those that do not
abbrev pub behind : {X : Type 0} → (X → Bool) → List X → List X
behind q l = chosen (λ x. not (q x)) (λ x. x) l ++ chosen q (λ x. x) l

pub behind_perm : {X : Type 0} (q : X → Bool) (l : List X) → Permᴰ l (behind q l)
behind_perm q [] = Permᴰ.nil
behind_perm q (x ∷ l) =
    let front = chosen (λ z. not (q z)) (λ z. z) l in
    let back = chosen q (λ z. z) l in
    let h = Permᴰ.cons {a = x} refl (behind_perm q l) in
    elim (q x) as (λ b. Permᴰ (x ∷ l) ((cond (not b) (x ∷ []) [] ++ front) ++ (cond b (x ∷ []) [] ++ back)))
    [ true ↦ Permᴰ.trans h (Permᴰ.symm (Permᴰ.middle x front back)) | false ↦ h ]

-- a list that is not empty is what stands before its last, and its last
pub record Ended {X : Type 0} (l : List X) : Type 0 where
  pub front : List X
  pub last : X
  pub is : l ≡ front ++ (last ∷ [])

pub split_last : {X : Type 0} (l : List X) → 0 < length l → Ended l
split_last [] h = absurd (omega arith)
split_last (x ∷ []) h = record { front = []; last = x; is = refl }
split_last {X} (x ∷ (y ∷ l)) h = let w = split_last (y ∷ l) (omega arith) in record { front = x ∷ w.front; last = w.last; is = ap (λ (z : List X). x ∷ z) w.is }

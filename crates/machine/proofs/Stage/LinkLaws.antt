-- A link and what waits for it, whichever of it the link takes: it is at work while there is work, so all that is there after a tick is
-- sent within a figure that covers what comes; and if what comes in spans below `gap` is at most s of work, s ≤ gap, each is sent within s.
-- Assumes nothing.
use Prim.Native.Nat.{ℕ, zero, suc, ◌+◌, ◌≤◌, ◌<◌, max}
use mathlib.Core.List.{List, [], ◌∷◌, ◌++◌, append_assoc, Memᴰ}
use mathlib.Core.List.Permᴰ
use mathlib.Core.List.{Permᴰ}
use mathlib.Core.Logic.{⊎_elim}
use Rattle.std.specs.Prelude.{Option, None, Some}
use mathlib.Core.Path.{◌≡◌, refl, ap, subst}
use native.Mathlib.Omega.{arith}
use Rattle.base.specs.Tabulate.{total}
use Rattle.machine.specs.Sum.{span, weigh}
use Rattle.machine.specs.Fifo.{Sent, ended, still}
use Rattle.machine.proofs.Lists.Cases.{by_leb, by_leb₂}
use Rattle.machine.proofs.Lists.Sums.{weigh_append}
use Rattle.machine.proofs.Lists.Orders.{perm_weigh, perm_mem}
use Rattle.machine.proofs.Stage.Lindley.{busy, work_bound}
use Rattle.machine.proofs.Stage.Moves as Moves

module _ {X : Type 0} (cost : X → ℕ) where
  -- the tick at which the link is free, and what it sends
  unfoldable pub free : ℕ → Option (Sent X) → ℕ
  free t None = t
  free t (Some s) = s.ends

  abbrev pub sends : Option (Sent X) → List X
  sends None = []
  sends (Some s) = s.job ∷ []

  -- what starts in tick t: a link at work goes on, an idle one takes one of those that wait, in whichever order they stand, or none waits
  pub data Starts (t : ℕ) : List X → Option (Sent X) → List X → Option (Sent X) → Type 0 where
    goes_on_lem : {l l' : List X} {s : Sent X} → t < s.ends → Permᴰ l l' → Starts t l (Some s) l' (Some s)
    takes : {l l' : List X} {x : X} → Permᴰ l (x ∷ l') → Starts t l None l' (Some (record { job = x; ends = t + cost x }))
    rests : {l l' : List X} → Permᴰ l l' → l' ≡ [] → Starts t l None l' None

  same_there : {t : ℕ} {l l' : List X} {k k' : Option (Sent X)} → Starts t l k l' k' → Permᴰ (sends k ++ l) (sends k' ++ l')
  same_there (goes_on_lem m p) = Permᴰ.cons refl p
  same_there (takes p) = p
  same_there (rests p e) = p

  same_work : (t : ℕ) {l l' : List X} {k k' : Option (Sent X)} → Starts t l k l' k' → free t k' + weigh cost l' ≡ free t k + weigh cost l
  unfolding free total
  same_work t (goes_on_lem m p) = omega (arith, perm_weigh cost p)
  same_work t (takes p) = omega (arith, perm_weigh cost p)
  same_work t (rests p e) = omega (arith, perm_weigh cost p)

  -- after a tick: an idle link has nothing to send, a busy one ends later
  abbrev pub Settled : ℕ → List X → Option (Sent X) → Type 0
  Settled t l None = l ≡ []
  Settled t l (Some s) = t < s.ends

  settles : (t : ℕ) {l l' : List X} {k k' : Option (Sent X)} → ((x : X) → Memᴰ x l → 0 < cost x) → Starts t l k l' k' → Settled t l' k'
  settles t pos (goes_on_lem m p) = m
  settles t pos (takes {x = x} p) = omega (arith, pos x (perm_mem (Permᴰ.symm p) (mathlib.Core.List.Memᴰ.head refl)))
  settles t pos (rests p e) = e

  ends_same : (t : ℕ) (k : Option (Sent X)) → ended t k ++ sends (still t k) ≡ sends k
  ends_same t None = refl
  ends_same t (Some s) = by_leb₂ s.ends t (λ (o : List X) (k : Option (Sent X)). o ++ sends k ≡ s.job ∷ []) (λ m. refl) (λ m. refl)

  still_free : (t : ℕ) (l : List X) (k : Option (Sent X)) → Settled t l k
      → free (suc t) (still (suc t) k) + weigh cost l ≤ max (free t k + weigh cost l) (suc t)
  unfolding free total
  still_free t l None h = omega (arith, ap (weigh cost) h)
  still_free t l (Some s) h = by_leb s.ends (suc t)
      (λ (k : Option (Sent X)). free (suc t) k + weigh cost l ≤ max (s.ends + weigh cost l) (suc t)) (λ m. omega arith) (λ m. omega arith)

  no_work : (l : List X) → ((y : X) → Memᴰ y l → 0 < cost y) → weigh cost l ≡ 0 → l ≡ []
  unfolding total
  no_work [] pos e = refl
  no_work (y ∷ l) pos e = absurd (omega (arith, pos y (mathlib.Core.List.Memᴰ.head refl)))

  drained : (t : ℕ) (l : List X) (k : Option (Sent X)) → Settled t l k → ((y : X) → Memᴰ y l → 0 < cost y)
      → free t k + weigh cost l ≤ suc t
      → sends (still (suc t) k) ++ l ≡ []
  unfolding free
  drained t l None h pos e = h
  drained t l (Some s) h pos e = by_leb s.ends (suc t) (λ (k : Option (Sent X)). sends k ++ l ≡ [])
      (λ m. no_work l pos (omega arith)) (λ m. absurd (omega arith))

  -- ---- tick by tick: what waits and the link before it, and what comes in it; each costs something
  pub record Sending : Type 0 where
    pub line : ℕ → List X
    pub link : ℕ → Option (Sent X)
    pub ins : ℕ → List X
    pub none₀ : (line zero ≡ []) × (link zero ≡ None)
    pub step : (t : ℕ) → Starts t (line t ++ ins t) (still t (link t)) (line (suc t)) (link (suc t))
    pub pos : (t : ℕ) (j : X) → Memᴰ j (ins t) → 0 < cost j

  module _ (st : Sending) where
    open st use {line, link, ins, none₀, step, pos}

    abbrev pub there : ℕ → List X
    there t = sends (link t) ++ line t

    abbrev pub out : ℕ → List X
    out t = ended t (link t)

    pub none_first : there zero ≡ []
    none_first = rw (none₀.1, none₀.0)

    pub moves : (t : ℕ) → Permᴰ (there t ++ ins t) (out t ++ there (suc t))
    moves t = rw (
      ← ends_same t (link t),
      append_assoc (out t ++ sends (still t (link t))) (line t) (ins t),
      append_assoc (out t) (sends (still t (link t))) (line t ++ ins t),
    )
        (Permᴰ.append_left (out t) (same_there (step t)))

    costs : (t : ℕ) (y : X) → Memᴰ y (there t) → 0 < cost y
    costs = Moves.origin there ins out none_first moves (λ t y. 0 < cost y) pos (λ t y h. h)

    pub settled : (t : ℕ) → Settled t (line (suc t)) (link (suc t))
    settled t = settles t
        (λ x m. ⊎_elim (λ i. costs t x (mathlib.Core.List.Memᴰ.append_right (sends (link t)) i)) (pos t x) (mathlib.Core.List.Memᴰ.append_cases (line t) m))
        (step t)

    -- by when all that is there after tick t is sent
    unfoldable pub e : ℕ → ℕ
    e t = free t (link (suc t)) + weigh cost (line (suc t))

    pub e_is : (t : ℕ) → e t ≡ free t (still t (link t)) + weigh cost (line t ++ ins t)
    unfolding e
    e_is t = same_work t (step t)

    next : (t : ℕ) → e (suc t) ≤ max (e t) (suc t) + weigh cost (ins (suc t))
    unfolding e
    next t =
        let f = still_free t (line (suc t)) (link (suc t)) (settled t) in
        omega (arith, e_is (suc t), weigh_append cost (line (suc t)) (ins (suc t)))

    first : e zero ≤ weigh cost (ins zero)
    unfolding free
    first = omega (
      arith,
      e_is zero,
      ap (λ (k : Option (Sent X)). free zero (still zero k)) none₀.1,
      ap (λ (l : List X). weigh cost (l ++ ins zero)) none₀.0,
    )

    busy_later : (t : ℕ) (y : X) → Memᴰ y (there (suc t)) → t < e t
    unfolding e free
    busy_later t y = go (link (suc t)) (line (suc t)) (settled t)
      where
        go : (k : Option (Sent X)) (l : List X) → Settled t l k → Memᴰ y (sends k ++ l) → t < free t k + weigh cost l
        go None l h m = absurd (mathlib.Core.List.Memᴰ.not-nil (rw h at m))
        go (Some s) l h m = omega arith

    -- with an arrival bound and a figure that covers it
    pub e_bound : (env : ℕ → ℕ) (f : ℕ) → ((x d : ℕ) → span (λ t. weigh cost (ins t)) x d ≤ env d) → ((d : ℕ) → env d ≤ f + d)
        → (t : ℕ) → e t ≤ t + f
    e_bound env f few covers = work_bound e (λ u. weigh cost (ins u)) env f (λ d. Unit {0}) first next (λ x d k. few x d) tt (λ d k h. tt)
        (λ u x. Unit {0}) tt (λ u x b k. tt) (λ u k. tt) (λ d k. covers d)

    -- ---- each with the tick at which it comes, and at most s of work in any span below the gap
    module _ (born : X → ℕ) (stamped : (t : ℕ) (y : X) → Memᴰ y (ins t) → born y ≡ t)
        (gap s : ℕ) (gap-pos : 0 < gap) (fits : s ≤ gap) (bound : (x d : ℕ) → d < gap → span (λ t. weigh cost (ins t)) x d ≤ s) where
      -- all that is there after tick t came from x on
      Since : ℕ → ℕ → Type 0
      Since t x = (y : X) → Memᴰ y (there (suc t)) → x ≤ born y

      since_keep : (t x : ℕ) → x ≤ t → Since t x → Since (suc t) x
      unfolding Since
      since_keep t x b h y m = ⊎_elim (h y) (λ i. omega (arith, stamped (suc t) y i))
          (Moves.was there ins out none_first moves (suc t) y (mathlib.Core.List.Memᴰ.append_right (out (suc t)) m))

      since_fresh : (t : ℕ) → e t ≤ suc t → Since (suc t) (suc t)
      unfolding Since e
      since_fresh t h y m =
          let l = line (suc t) in
          let k = still (suc t) (link (suc t)) in
          let none_left = drained t l (link (suc t)) (settled t) (λ x i. costs (suc t) x (mathlib.Core.List.Memᴰ.append_right (sends (link (suc t))) i)) h in
          let i : Memᴰ y (sends k ++ (l ++ ins (suc t))) = perm_mem (Permᴰ.symm (same_there (step (suc t)))) m in
          let j : Memᴰ y (ins (suc t)) = rw (← append_assoc (sends k) l (ins (suc t)), none_left) at i in
          omega (arith, stamped (suc t) y j)

      in_time_lem : (t : ℕ) (y : X) → Memᴰ y (there (suc t)) → e t ≤ born y + s
      unfolding Since
      in_time_lem t y m =
          let b = busy e (λ u. weigh cost (ins u)) (λ d. s) s (λ d. d < gap) first next bound gap-pos (λ d h k. omega arith)
          Since (λ z i. omega arith) since_keep since_fresh t in
          omega (arith, b.work, bound b.from b.d b.short, b.since y m)

      pub forward : (t : ℕ) (y : X) → Memᴰ y (ins t) → (u : ℕ) × Memᴰ y (out u)
      forward t y = Moves.leaves there ins out none_first moves y (born y + s) (λ u m. omega (arith, in_time_lem u y m, busy_later u y m)) t

      -- what the link sends ends no sooner than its own cost after it came
      Ran : Option (Sent X) → Type 0
      Ran None = Unit {0}
      Ran (Some z) = born z.job + cost z.job ≤ z.ends

      ran_start : (t : ℕ) {l l' : List X} {k k' : Option (Sent X)} → ((x : X) → Memᴰ x l → born x ≤ t) → Starts t l k l' k'
          → Ran k → Ran k'
      unfolding Ran
      ran_start t h (goes_on_lem m p) r = r
      ran_start t h (takes {x = x} p) r = omega (arith, h x (perm_mem (Permᴰ.symm p) (mathlib.Core.List.Memᴰ.head refl)))
      ran_start t h (rests p q) r = tt

      ran_still : (t : ℕ) (k : Option (Sent X)) → Ran k → Ran (still t k)
      unfolding Ran
      ran_still t None r = tt
      ran_still t (Some z) r = by_leb z.ends t Ran (λ m. tt) (λ m. r)

      come : (t : ℕ) (y : X) → Memᴰ y (there t) → born y ≤ t
      come = Moves.origin there ins out none_first moves (λ t y. born y ≤ t) (λ t y m. omega (arith, stamped t y m)) (λ t y h. omega arith)

      ran : (t : ℕ) → Ran (link t)
      unfolding Ran
      ran zero = rw none₀.1 tt
      ran (suc t) = ran_start t
          (λ x m. ⊎_elim (λ i. come t x (mathlib.Core.List.Memᴰ.append_right (sends (link t)) i)) (λ i. omega (arith, stamped t x i))
          (mathlib.Core.List.Memᴰ.append_cases (line t) m))
          (step t) (ran_still t (link t) (ran t))

      -- what is sent whole in tick t came from its own cost to s ticks ago
      pub backward : (t : ℕ) (y : X) → Memᴰ y (out t) → (born y + cost y ≤ t) × (t ≤ born y + s)
      unfolding e free Ran
      backward zero y m = absurd (mathlib.Core.List.Memᴰ.not-nil (subst (λ (k : Option (Sent X)). Memᴰ y (ended zero k)) none₀.1 m))
      backward (suc t) y m = go (link (suc t)) (settled t) (ran (suc t)) (in_time_lem t y) m
        where
          go : (k : Option (Sent X)) → Settled t (line (suc t)) k → Ran k
              → (Memᴰ y (sends k ++ line (suc t)) → free t k + weigh cost (line (suc t)) ≤ born y + s)
              → Memᴰ y (ended (suc t) k) → (born y + cost y ≤ suc t) × (suc t ≤ born y + s)
          go None h r i = λ m. absurd (mathlib.Core.List.Memᴰ.not-nil m)
          go (Some z) h r i = by_leb z.ends (suc t) (λ (o : List X). Memᴰ y o → (born y + cost y ≤ suc t) × (suc t ≤ born y + s))
              (λ a m. let p = mathlib.Core.List.Memᴰ.eq_of_singleton m in
              (omega (arith, ap born p, ap cost p), omega (arith, i (mathlib.Core.List.Memᴰ.head p))))
              (λ a m. absurd (mathlib.Core.List.Memᴰ.not-nil m))

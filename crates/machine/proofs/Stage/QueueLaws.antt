-- What a VL does to what arrives: on a VL of n sub-links a packet is handed over as if its sub-link had a server of its own that spends n gaps on each packet, and hands it over one gap before the end.
-- Assumes nothing.
use Prim.Native.Nat.{ℕ, zero, suc, ◌+◌, ◌*◌, ◌≤◌, ◌<◌, max}
use mathlib.Core.List.Memᴰ
use mathlib.Core.List.{List, [], ◌∷◌, ◌++◌, Memᴰ}
use mathlib.Core.Logic.{⊎_elim, dite}
use Rattle.std.specs.Prelude.{Option, None, Some}
use mathlib.Core.Path.{◌≡◌, refl, sym, ap, ◌∙◌, subst}
use native.Mathlib.Decide.{dec_le}
use native.Mathlib.Nat.{add-zero, mul-le-mul_right, le_of_eq}
use native.Mathlib.Omega.{arith}
use lib.ListN.{length, length-append}
use Rattle.machine.specs.Turn.{Lane, add, serve}
use Rattle.machine.specs.Queue.{Queue, Handed}
use Rattle.machine.proofs.Stage.Parts.{queue_tick, queue, handed}
use Rattle.machine.proofs.Lists.Turns.{Empty, Each, each_append, each_right, each_map, each_empty, each_add, length_add}
use Rattle.machine.proofs.Lists.Lanes.{listed, flat, names, brought, is_brought}
use Rattle.machine.proofs.Stage.Lindley.{finish}
use Rattle.machine.proofs.Stage.Moves.{leaves}
use Rattle.machine.proofs.Stage.QueueSteps.{Gave, Kept, cases, is_listed, lanes, stay, moves, none_first}

-- `by x` is the tick by which the virtual server is to be done with x, `from x` one before which x is not handed over
module _ {X : Type 0} (n gap : ℕ) (by from : X → ℕ) where
  abbrev nb : ℕ
  nb = n * gap

  Due : ℕ → ℕ → List X → Type 0
  Due e m [] = Unit {0}
  Due e m (x ∷ xs) = (m + nb ≤ by x + e) × Due e (m + nb) xs

  due_shift : (l : List X) (e m e' m' : ℕ) → m' + e ≤ m + e' → Due e m l → Due e' m' l
  unfolding Due
  due_shift [] e m e' m' h k = tt
  due_shift (x ∷ l) e m e' m' h k = (omega arith, due_shift l e (m + nb) e' (m' + nb) (omega arith) k.1)

  due_append : (l r : List X) (e m : ℕ) → Due e m l → Due e (m + length l * nb) r → Due e m (l ++ r)
  unfolding Due
  due_append [] r e m h k = due_shift r e (m + 0 * nb) e m (omega arith) k
  due_append (x ∷ l) r e m h k = (h.0, due_append l r e (m + nb) h.1 (due_shift r e (m + suc (length l) * nb) e (m + nb + length l * nb) (omega arith) k))

  due_new : (r : List X) (e m b : ℕ) → m + length r * nb ≤ b + e → ((x : X) → Memᴰ x r → b ≤ by x) → Due e m r
  unfolding Due
  due_new [] e m b h k = tt
  due_new (x ∷ r) e m b h k = (omega (arith, k x (Memᴰ.head refl)), due_new r e (m + nb) b (omega arith) (λ y i. k y (Memᴰ.tail i)))

  -- each is not handed over before its turn in its own lane comes, from m on
  unfoldable pub Low : ℕ → List X → Type 0
  Low m [] = Unit {0}
  Low m (x ∷ xs) = (from x ≤ m) × Low (m + gap) xs

  low_mono : (l : List X) (m m' : ℕ) → m ≤ m' → Low m l → Low m' l
  unfolding Low
  low_mono [] m m' h k = tt
  low_mono (x ∷ l) m m' h k = (omega arith, low_mono l (m + gap) (m' + gap) (omega arith) k.1)

  pub low_append : (l r : List X) (m : ℕ) → Low m l → Low m r → Low m (l ++ r)
  unfolding Low
  low_append [] r m h k = k
  low_append (x ∷ l) r m h k = (h.0, low_append l r (m + gap) h.1 (low_mono r m (m + gap) (omega arith) k))

  -- of a lane: the packets wait no longer than with the virtual server that is done at v, but for e
  record Good (m v e : ℕ) (l : List X) : Type 0 where
    total : m + length l * nb ≤ v + e
    due : Due e m l
    low : Low m l

  good_shift : (m v e m' e' : ℕ) (l : List X) → m ≤ m' → m' + e ≤ m + e' → Good m v e l → Good m' v e' l
  good_shift m v e m' e' l a b g = record { total = omega (arith, g.total); due = due_shift l e m e' m' b g.due; low = low_mono l m m' a g.low }

  good_nil : (m v e : ℕ) (l : List X) → l ≡ [] → m ≤ v + e → Good m v e l
  unfolding Due Low
  good_nil m v e l p h = subst (λ (k : List X). Good m v e k) (sym p) (record { total = omega arith; due = tt; low = tt })

  good_new : (t f m v v' e : ℕ) (l r : List X) → t ≤ m → v + length r * nb ≤ v' → v' ≤ t + f
      → ((x : X) → Memᴰ x r → t + f ≤ by x) → Low t r → Good m v e l → Good m v' e (l ++ r)
  good_new t f m v v' e l r a b c d lo g = record {
    total = omega (arith, g.total, ap (λ (k : ℕ). k * nb) (length-append l r));
    due = due_append l r e m g.due (due_new r e (m + length l * nb) (t + f) (omega (arith, g.total)) d);
    low = low_append l r m g.low (low_mono r t m a lo);
  }

  -- the lane that gives its head
  good_rest : (t v k : ℕ) (x : X) (l : List X) → suc k ≤ n → Good t v (k * gap) (x ∷ l) → Good (t + gap) v (0 * gap) l × (t + gap ≤ by x) × (from x ≤ t)
  unfolding Due Low
  good_rest t v k x l h g =
      let i = mul-le-mul_right gap h in (
        record { total = omega (arith, g.total, i); due = due_shift l (k * gap) (t + nb) (0 * gap) (t + gap) (omega (arith, i)) g.due.1; low = g.low.1 },
        omega (arith, g.due.0, i),
        g.low.0,
      )

  module _ (f : ℕ → ℕ) (new : ℕ → ℕ → List X)
      (v-bound : (i t : ℕ) → finish (λ u. length (new u i) * nb) t ≤ t + f i)
      (soon : (t i : ℕ) (x : X) → Memᴰ x (new t i) → t + f i ≤ by x)
      (late : (t i : ℕ) → Low t (new t i))
    where
      -- the tick at which the virtual server of lane i is done with all that came by tick t
      abbrev v : ℕ → ℕ → ℕ
      v i t = finish (λ u. length (new u i) * nb) t

      v_next : (i t : ℕ) → (v i t + length (new (suc t) i) * nb ≤ v i (suc t)) × (suc t + length (new (suc t) i) * nb ≤ v i (suc t))
      unfolding finish
      v_next i t = omega arith

      v_low : (i t : ℕ) → t ≤ v i t
      v_low i zero = omega arith
      v_low i (suc t) = omega (arith, (v_next i t).1)

      R : ℕ → ℕ → Lane X → ℕ → Type 0
      R t m l e = Good m (v l.name t) (e * gap) l.line

      record Ok (t : ℕ) (s : Queue X) : Type 0 where
        size : length s.lanes ≡ n
        idle : s.next ≤ t → Empty s.lanes
        good : Each (R t (max s.next t)) 0 s.lanes

      -- after the arrivals of tick t, before its hand-over
      Mid : ℕ → Queue X → Type 0
      Mid t s = Each (R t (max s.next t)) 0 (add (new t) s.lanes)

      -- an idle VL with new arrivals
      mid_idle : (t : ℕ) (s : Queue X) → ((i : ℕ) → t + length (new t i) * nb ≤ v i t) → s.next ≤ t → Empty s.lanes → Mid t s
      unfolding Mid R
      mid_idle t s h k em =
          each_add (λ l e. Good (max s.next t) t (e * gap) l.line) (R t (max s.next t)) (new t) 0
          (λ l e g. good_new t (f l.name) (max s.next t) t (v l.name t) (e * gap) l.line (new t l.name)
          (omega arith) (h l.name) (v-bound l.name t) (soon t l.name) (late t l.name) g)
          s.lanes
          (each_empty (λ l e. Good (max s.next t) t (e * gap) l.line) 0
          (λ l e p. good_nil (max s.next t) t ((e + 0) * gap) l.line p (omega arith)) s.lanes em)

      mid_next : (t : ℕ) (s : Queue X) → Ok t s → Mid (suc t) s
      unfolding Mid R
      mid_next t s o = dite (dec_le s.next t)
          (λ k. mid_idle (suc t) s (λ i. (v_next i t).1) (omega arith) (o.idle k))
          (λ k. each_add (R t (max s.next t)) (R (suc t) (max s.next (suc t))) (new (suc t)) 0
          (λ l e g. good_new (suc t) (f l.name) (max s.next (suc t)) (v l.name t) (v l.name (suc t)) (e * gap) l.line (new (suc t) l.name)
          (omega arith) (v_next l.name t).0 (v-bound l.name (suc t)) (soon (suc t) l.name) (late (suc t) l.name)
          (good_shift (max s.next t) (v l.name t) (e * gap) (max s.next (suc t)) (e * gap) l.line (omega arith) (omega arith) g))
          s.lanes o.good)

      -- a packet handed over in tick t
      Fair : ℕ → Option X → Type 0
      Fair t None = Unit {0}
      Fair t (Some x) = (t + gap ≤ by x) × (from x ≤ t)

      record After (t : ℕ) (h : Handed X) : Type 0 where
        ok : Ok t h.queue
        fair : Fair t h.got

      gave : (t : ℕ) (s : Queue X) → length s.lanes ≡ n → Mid t s → (h : Handed X) → Gave gap t (new t) s h → 0 < gap → After t h
      unfolding Mid R Fair
      gave t s z mid h g pos =
          let k = g.took in
          let q : Lane X = record { name = k.name; line = k.head ∷ k.rest } in
          let q' : Lane X = record { name = k.name; line = k.rest } in
          let m : ℕ = max s.next t in
          let em : m ≡ t = omega (arith, g.ready) in
          let all : Each (R t t) 0 (k.before ++ (q ∷ k.after)) =
          subst (λ (u : ℕ). Each (R t u) 0 (k.before ++ (q ∷ k.after))) em (subst (λ (ls : List (Lane X)). Each (R t m) 0 ls) k.was mid) in
          let right : Each (R t t) 0 (q ∷ k.after) = each_right (R t t) 0 k.before (q ∷ k.after) all in
          let len : length k.before + suc (length k.after) ≡ n = sym (length-append k.before (q ∷ k.after)) ∙ ap length (sym k.was) ∙ length_add (new t) s.lanes ∙ z in
          let rest = good_rest t (v k.name t) (length k.after) k.head k.rest (omega arith)
          (subst (λ (u : ℕ). Good t (v k.name t) (u * gap) (k.head ∷ k.rest)) (add-zero (length k.after)) right.0) in
          let b : ℕ = t + gap in
          let new-lanes : List (Lane X) = k.after ++ (k.before ++ (q' ∷ [])) in
          let good' : Each (R t b) 0 new-lanes =
          each_append (R t b) 0 k.after (k.before ++ (q' ∷ []))
          (each_map (R t t) (R t b) 0 (length (k.before ++ (q' ∷ [])) + 0)
          (λ l e r. good_shift t (v l.name t) ((e + 0) * gap) b ((e + (length (k.before ++ (q' ∷ [])) + 0)) * gap) l.line (omega arith)
          (omega (arith, ap (λ (u : ℕ). u * gap) (length-append k.before (q' ∷ [])))) r)
          k.after right.1)
          (each_append (R t b) 0 k.before (q' ∷ [])
          (each_empty (R t b) 1 (λ l e p. good_nil b (v l.name t) ((e + 1) * gap) l.line p (omega (arith, v_low l.name t))) k.before k.passed)
          (rest.0, tt)) in
          subst (After t) (sym g.is) (record {
            ok = record {
              size = ap length k.now ∙ (omega (arith, length-append k.after (k.before ++ (q' ∷ [])), length-append k.before (q' ∷ [])));
              idle = λ c. absurd (omega arith);
              good = subst (λ (u : ℕ). Each (R t u) 0 (serve [] (add (new t) s.lanes)).lanes) (omega arith) (subst (λ (ls : List (Lane X)). Each (R t b) 0 ls) (sym k.now) good');
            };
            fair = (rest.1, rest.2);
          })

      kept : (t : ℕ) (s : Queue X) → length s.lanes ≡ n → Mid t s → (h : Handed X) → Kept t (new t) s h → After t h
      unfolding Mid R Fair
      kept t s z mid h k =
          subst (After t) (sym k.is) (record {
            ok = record {
              size = length_add (new t) s.lanes ∙ z;
              idle = λ c. ⊎_elim (λ w. absurd (omega arith)) (λ w. w) k.why;
              good = mid;
            };
            fair = tt;
          })

      -- ---- the run: all sub-links are empty at first
      module _ (pos : 0 < gap) (s₀ : Queue X) (size₀ : length s₀.lanes ≡ n) (empty₀ : Empty s₀.lanes) (next₀ : s₀.next ≡ zero) where
        after : (t : ℕ) (s : Queue X) → length s.lanes ≡ n → Mid t s → After t (queue_tick gap t (new t) s)
        after t s z m = ⊎_elim (λ g. gave t s z m (queue_tick gap t (new t) s) g pos) (λ k. kept t s z m (queue_tick gap t (new t) s) k) (cases gap t (new t) s)

        run : (t : ℕ) → After t (queue_tick gap t (new t) (queue gap s₀ new t))
        unfolding queue finish
        run zero = after zero s₀ size₀ (mid_idle zero s₀ (λ i. omega arith) (omega arith) empty₀)
        run (suc t) = let o = (run t).ok in after (suc t) (queue gap s₀ new (suc t)) o.size (mid_next t (queue gap s₀ new (suc t)) o)

        fair_at : (t : ℕ) (x : X) (o : Option X) → o ≡ Some x → Fair t o → (t + gap ≤ by x) × (from x ≤ t)
        unfolding Fair
        fair_at t x o e h = subst (Fair t) e h

        -- no packet is handed over less than one gap before its virtual end, nor before its least tick
        pub hand_bounds : (t : ℕ) (x : X) → handed gap s₀ new t ≡ Some x → (t + gap ≤ by x) × (from x ≤ t)
        unfolding handed
        hand_bounds t x e = fair_at t x (queue_tick gap t (new t) (queue gap s₀ new t)).got e (run t).fair

        -- ---- forward: each packet that comes is handed over
        due_mem : (l : List X) (e m : ℕ) (x : X) → Due e m l → Memᴰ x l → m + nb ≤ by x + e
        unfolding Due
        due_mem [] e m x h x4 = elim x4 [ ]
        due_mem (y ∷ l) e m x h (Memᴰ.head p) = omega (arith, h.0, ap by p)
        due_mem (y ∷ l) e m x h (Memᴰ.tail i) = omega (arith, due_mem l e (m + nb) x h.1 i)

        within_due : (t m : ℕ) (x : X) (ls : List (Lane X)) → Each (R t m) 0 ls → length ls ≤ n → Memᴰ x (flat ls) → m + gap ≤ by x
        unfolding R
        within_due t m x [] h k w = absurd (Memᴰ.not-nil w)
        within_due t m x (l ∷ ls) h k w = ⊎_elim
            (λ i. omega (arith, due_mem l.line ((length ls + 0) * gap) m x h.0.due i, mul-le-mul_right gap k))
            (within_due t m x ls h.1 (omega arith))
            (Memᴰ.append_cases l.line w)

        pub still_due : (t : ℕ) (x : X) → Memᴰ x (flat (queue gap s₀ new (suc t)).lanes) → t + gap ≤ by x
        unfolding queue
        still_due t x u =
            let d = within_due t (max (queue gap s₀ new (suc t)).next t) x (queue gap s₀ new (suc t)).lanes (run t).ok.good (le_of_eq (run t).ok.size) u in
            omega arith

        pub forward : (i : ℕ) → Memᴰ i (names s₀.lanes) → (t : ℕ) (x : X) → Memᴰ x (new t i)
            → (u : ℕ) × (handed gap s₀ new u ≡ Some x)
        unfolding queue
        forward i h t x m =
            let g = leaves (λ u. flat (lanes gap s₀ new u)) (brought new (lanes gap s₀ new) (stay gap s₀ new))
            (λ u. listed (handed gap s₀ new u))
            (none_first gap s₀ new empty₀) (moves gap s₀ new) x (by x) (λ u w. omega (arith, still_due u x w)) t
            (is_brought new (lanes gap s₀ new) (stay gap s₀ new) t i x h m) in
            (g.0, is_listed (handed gap s₀ new g.0) x g.1)

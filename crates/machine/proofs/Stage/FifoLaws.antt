-- What a port does to what arrives: each job leaves once, not before its own cost and not after the figure. Its FIFO is a list of jobs with
-- the ticks at which they will be sent whole: what arrives is put at its end, and nothing else changes but the first leaves in its tick.
-- Assumes nothing.
use Prim.Native.Nat.{ℕ, zero, suc, ◌+◌, ◌≤◌, ◌<◌}
use mathlib.Core.List.{List, [], ◌∷◌, ◌++◌, Memᴰ}
use mathlib.Core.List.Permᴰ
use mathlib.Core.Logic.{◌⊎◌, inl, inr, ⊎_elim}
use Rattle.std.specs.Prelude.{Option, None, Some}
use mathlib.Core.Path.{◌≡◌, refl, sym, ap, ◌∙◌, subst}
use native.Mathlib.Nat.{add-zero, add_assoc, le_refl}
use native.Mathlib.Omega.{arith}
use Rattle.base.specs.Tabulate.{total}
use Rattle.machine.specs.Sum.{span, weigh}
use Rattle.machine.specs.Fifo.{Sent, ended, still, start}
use Rattle.machine.proofs.Lists.Cases.{by_leb, by_leb₂}
use Rattle.machine.proofs.Lists.Sums.{upto, weigh_append}
use Rattle.machine.proofs.Stage.Parts.{fifo, fifo_out}
use Rattle.machine.proofs.Stage.Delay.{Delay}
use Rattle.machine.proofs.Stage.Moves as Moves
use Rattle.machine.proofs.Stage.LinkLaws.{free, Starts, goes_on_lem, takes, rests, Settled, Sending}
use Rattle.machine.proofs.Stage.LinkLaws as Link

module _ {Job : Type 0} (cost : Job → ℕ) where
  -- the jobs of a line, each with the tick at which it is sent whole, if the link is free at e; and all that the port will send
  plan : ℕ → List Job → List (Sent Job)
  plan e [] = []
  plan e (j ∷ l) = record { job = j; ends = e + cost j } ∷ plan (e + cost j) l

  future : ℕ → List Job → Option (Sent Job) → List (Sent Job)
  future t l None = plan t l
  future t l (Some s) = s ∷ plan s.ends l

  plan_append : (e : ℕ) (l r : List Job) → plan e (l ++ r) ≡ plan e l ++ plan (e + weigh cost l) r
  unfolding plan total
  plan_append e [] r = ap (λ (n : ℕ). plan n r) (sym (add-zero e))
  plan_append e (j ∷ l) r = rw (plan_append (e + cost j) l r, add_assoc e (cost j) (weigh cost l))

  future_append : (t : ℕ) (l r : List Job) (k : Option (Sent Job))
      → future t (l ++ r) k ≡ future t l k ++ plan (free cost t k + weigh cost l) r
  unfolding future free
  future_append t l r None = plan_append t l r
  future_append t l r (Some s) = ap (λ (p : List (Sent Job)). s ∷ p) (plan_append s.ends l r)

  future_start : (t : ℕ) (l : List Job) (k : Option (Sent Job)) → future t (start cost t l k).line (start cost t l k).link ≡ future t l k
  unfolding future plan
  future_start t [] None = refl
  future_start t (j ∷ l) None = refl
  future_start t l (Some s) = refl

  plan_known : (e : ℕ) (l : List Job) (x : Sent Job) → Memᴰ x (plan e l)
      → Memᴰ x.job l × (e + cost x.job ≤ x.ends) × (x.ends ≤ e + weigh cost l)
  unfolding plan total
  plan_known e [] x m = absurd (mathlib.Core.List.Memᴰ.not-nil m)
  plan_known e (j ∷ l) x m = ⊎_elim
      (λ p. let b = ap (λ (z : Sent Job). cost z.job) p in let n = ap (λ (z : Sent Job). z.ends) p in
      (mathlib.Core.List.Memᴰ.head (ap (λ (z : Sent Job). z.job) p), omega arith, omega arith))
      (λ i. let w = plan_known (e + cost j) l x i in (mathlib.Core.List.Memᴰ.tail w.0, omega (arith, w.1), omega (arith, w.2)))
      (mathlib.Core.List.Memᴰ.cases_cons m)

  plan_has : (e : ℕ) (l : List Job) (j : Job) → Memᴰ j l → (n : ℕ) × Memᴰ (record { job = j; ends = n }) (plan e l)
  unfolding plan
  plan_has e [] j x' = elim x' [ ]
  plan_has e (i ∷ l) j (mathlib.Core.List.Memᴰ.head p) = (e + cost i, mathlib.Core.List.Memᴰ.head (ap (λ (z : Job). record { job = z; ends = e + cost i }) p))
  plan_has e (i ∷ l) j (mathlib.Core.List.Memᴰ.tail m) = let w = plan_has (e + cost i) l j m in (w.0, mathlib.Core.List.Memᴰ.tail w.1)

  -- ---- ends of port: what will be sent is sent now or later
  sent_or_later : (t : ℕ) (l : List Job) (k : Option (Sent Job)) → Settled cost t l k → (x : Sent Job) → Memᴰ x (future t l k)
      → ((x.ends ≡ suc t) × Memᴰ x.job (ended (suc t) k)) ⊎ Memᴰ x (future (suc t) l (still (suc t) k))
  unfolding future plan
  sent_or_later t l None h x m = absurd (mathlib.Core.List.Memᴰ.not-nil (rw h at m))
  sent_or_later t l (Some s) h x m = by_leb₂ s.ends (suc t)
      (λ (o : List Job) (k : Option (Sent Job)). ((x.ends ≡ suc t) × Memᴰ x.job o) ⊎ Memᴰ x (future (suc t) l k))
      (λ a. let now : s.ends ≡ suc t = omega arith in ⊎_elim
      (λ p. inl (ap (λ (z : Sent Job). z.ends) p ∙ now, mathlib.Core.List.Memᴰ.head (ap (λ (z : Sent Job). z.job) p)))
      (λ i. inr (rw now at i))
      (mathlib.Core.List.Memᴰ.cases_cons m))
      (λ a. inr m)

  was_to_be_sent : (t : ℕ) (l : List Job) (k : Option (Sent Job)) → Settled cost t l k → (x : Sent Job)
      → Memᴰ x (future (suc t) l (still (suc t) k)) → Memᴰ x (future t l k)
  unfolding future plan
  was_to_be_sent t l None h x = λ m. absurd (mathlib.Core.List.Memᴰ.not-nil (rw h at m))
  was_to_be_sent t l (Some s) h x = by_leb s.ends (suc t)
      (λ (k : Option (Sent Job)). Memᴰ x (future (suc t) l k) → Memᴰ x (s ∷ plan s.ends l))
      (λ a m. let now : s.ends ≡ suc t = omega arith in rw now (mathlib.Core.List.Memᴰ.tail m)) (λ a m. m)

  sent_now : (t : ℕ) (l : List Job) (k : Option (Sent Job)) → Settled cost t l k → (j : Job) → Memᴰ j (ended (suc t) k)
      → Memᴰ (record { job = j; ends = suc t }) (future t l k)
  unfolding future
  sent_now t l None h j = λ m. absurd (mathlib.Core.List.Memᴰ.not-nil m)
  sent_now t l (Some s) h j = by_leb s.ends (suc t)
      (λ (o : List Job). Memᴰ j o → Memᴰ (record { job = j; ends = suc t }) (s ∷ plan s.ends l))
      (λ a m. let now : suc t ≡ s.ends = omega arith in let p : j ≡ s.job = mathlib.Core.List.Memᴰ.eq_of_singleton m in mathlib.Core.List.Memᴰ.head (rw (now, p)))
      (λ a m. absurd (mathlib.Core.List.Memᴰ.not-nil m))

  not_yet : (t : ℕ) (l : List Job) (k : Option (Sent Job)) → Settled cost t l k → (x : Sent Job) → Memᴰ x (future t l k) → t < x.ends
  unfolding future plan
  not_yet t l None h x m = absurd (mathlib.Core.List.Memᴰ.not-nil (rw h at m))
  not_yet t l (Some s) h x m = ⊎_elim (λ p. omega (arith, ap (λ (z : Sent Job). z.ends) p))
      (λ i. omega (arith, (plan_known s.ends l x i).1))
      (mathlib.Core.List.Memᴰ.cases_cons m)

  late : (t : ℕ) (k : Option (Sent Job)) → t ≤ free cost t (still t k)
  unfolding free
  late t None = le_refl t
  late t (Some s) = by_leb s.ends t (λ (k : Option (Sent Job)). t ≤ free cost t k) (λ m. le_refl t) (λ m. omega arith)

  idle_starts : (t : ℕ) (l : List Job) → Starts cost t l None (start cost t l None).line (start cost t l None).link
  idle_starts t [] = rests (Permᴰ.refl []) refl
  idle_starts t (j ∷ l) = takes (Permᴰ.refl (j ∷ l))

  starts : (t : ℕ) (l : List Job) (k : Option (Sent Job))
      → Starts cost t l (still t k) (start cost t l (still t k)).line (start cost t l (still t k)).link
  starts t l None = idle_starts t l
  starts t l (Some s) = by_leb s.ends t (λ (k : Option (Sent Job)). Starts cost t l k (start cost t l k).line (start cost t l k).link)
      (λ m. idle_starts t l) (λ m. goes_on_lem m (Permᴰ.refl l))

  -- ---- tick by tick
  module _ (ins : ℕ → List Job) (pos : (t : ℕ) (j : Job) → Memᴰ j (ins t) → 0 < cost j) where
    abbrev line : ℕ → List Job
    line t = (fifo cost ins t).line

    abbrev link : ℕ → Option (Sent Job)
    link t = (fifo cost ins t).link

    port : Sending cost
    unfolding fifo
    port = record { line = line; link = link; ins = ins; none₀ = (refl, refl); step = λ t. starts t (line t ++ ins t) (link t); pos = pos }

    -- all that the port will send after tick t: what was left, and what has come
    to_send : ℕ → List (Sent Job)
    to_send t = future t (line (suc t)) (link (suc t))

    abbrev left : ℕ → List (Sent Job)
    left t = future t (line t) (still t (link t))

    abbrev added : ℕ → List (Sent Job)
    added t = plan (free cost t (still t (link t)) + weigh cost (line t)) (ins t)

    to_send_is : (t : ℕ) → to_send t ≡ left t ++ added t
    unfolding to_send fifo
    to_send_is t = future_start t (line t ++ ins t) (still t (link t)) ∙ future_append t (line t) (ins t) (still t (link t))

    settled : (t : ℕ) → Settled cost t (line (suc t)) (link (suc t))
    unfolding port
    settled = Link.settled cost port

    pub weighed : (w : Job → ℕ) (t : ℕ) → upto (λ u. weigh w (fifo_out cost ins u)) t ≤ upto (λ u. weigh w (ins u)) t
    unfolding fifo_out port
    weighed = Moves.weighed (Link.there cost port) ins (Link.out cost port) (Link.none_first cost port) (Link.moves cost port)

    -- ---- with an arrival bound and a figure that covers it
    module _ (env : ℕ → ℕ) (f : ℕ) (bound : (x d : ℕ) → span (λ t. weigh cost (ins t)) x d ≤ env d) (covers : (d : ℕ) → env d ≤ f + d) where
      pub work_within : (t : ℕ) → free cost t (still t (link t)) + weigh cost (line t ++ ins t) ≤ t + f
      unfolding port
      work_within t = omega (arith, Link.e_is cost port t, Link.e_bound cost port env f bound covers t)

      -- a job came at a tick from which its own cost, and no more than the figure, has passed when it is sent whole
      abbrev Within : ℕ → Sent Job → Type 0
      Within t x = Memᴰ x.job (ins t) × (t + cost x.job ≤ x.ends) × (x.ends ≤ t + f)

      new : (t : ℕ) (x : Sent Job) → Memᴰ x (added t) → Within t x
      new t x m =
          let w = plan_known (free cost t (still t (link t)) + weigh cost (line t)) (ins t) x m in
          (w.0, omega (arith, w.1, late t (link t)), omega (arith, w.2, work_within t, weigh_append cost (line t) (ins t)))

      came : (t : ℕ) (x : Sent Job) → Memᴰ x (left t ++ added t) → (u : ℕ) × Within u x
      unfolding fifo future plan to_send
      came zero x m = ⊎_elim (λ i. absurd (mathlib.Core.List.Memᴰ.not-nil i)) (λ i. (zero, new zero x i)) (mathlib.Core.List.Memᴰ.append_cases (left zero) m)
      came (suc t) x m = ⊎_elim
          (λ i. came t x (rw (to_send_is t) at (was_to_be_sent t (line (suc t)) (link (suc t)) (settled t) x i)))
          (λ i. (suc t, new (suc t) x i))
          (mathlib.Core.List.Memᴰ.append_cases (left (suc t)) m)

      goes : (n t : ℕ) (x : Sent Job) → x.ends ≤ t + n → Memᴰ x (to_send t) → Memᴰ x.job (fifo_out cost ins x.ends)
      unfolding to_send fifo_out
      goes zero t x b m = absurd (omega (arith, not_yet t (line (suc t)) (link (suc t)) (settled t) x m))
      goes (suc n) t x b m = ⊎_elim
          (λ g. subst (λ (u : ℕ). Memᴰ x.job (ended u (link u))) (sym g.0) g.1)
          (λ g. goes n (suc t) x (omega arith) (subst (Memᴰ x) (sym (to_send_is (suc t))) (mathlib.Core.List.Memᴰ.append_left (added (suc t)) g)))
          (sent_or_later t (line (suc t)) (link (suc t)) (settled t) x m)

      back : (t : ℕ) (j : Job) → Memᴰ j (fifo_out cost ins t) → (u : ℕ) × Within u (record { job = j; ends = t })
      unfolding fifo_out fifo to_send
      back zero j m = absurd (mathlib.Core.List.Memᴰ.not-nil m)
      back (suc t) j m = came t (record { job = j; ends = suc t })
          (rw (to_send_is t) at (sent_now t (line (suc t)) (link (suc t)) (settled t) j m))

      -- a port as a stage
      pub fifo_delay : (lo : ℕ) → ((t : ℕ) (j : Job) → Memᴰ j (ins t) → lo ≤ cost j) → Delay ins (fifo_out cost ins) lo f
      fifo_delay lo h = record {
        forward = λ t j m.
            let p = plan_has (free cost t (still t (link t)) + weigh cost (line t)) (ins t) j m in
            let x : Sent Job = record { job = j; ends = p.0 } in
            let w = new t x p.1 in
            let i : Memᴰ x (to_send t) = rw (to_send_is t) (mathlib.Core.List.Memᴰ.append_right (left t) p.1) in
            record { at = p.0; there = goes p.0 t x (omega arith) i; least = omega (arith, w.1, h t j m); most = w.2 };
        backward = λ t j m.
            let w = back t j m in
            record { at = w.0; there = w.1.0; least = omega (arith, w.1.1, h w.0 j w.1.0); most = w.1.2 };
        weighed = weighed;
      }

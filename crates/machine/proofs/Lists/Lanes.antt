-- All that is in the lanes in one list, and their names: what is brought to lanes stands beside what was in them, and a turn takes one out.
-- Assumes nothing.
use Prim.Native.Nat.{ℕ, zero, suc}
use mathlib.Core.List.{List, [], ◌∷◌, ◌++◌, append_assoc, append-nil, map, map-append, Memᴰ}
use mathlib.Core.List.Permᴰ
use mathlib.Core.List.{Permᴰ}
use mathlib.Core.Logic.{⊎_elim}
use Rattle.std.specs.Prelude.{Option, None, Some}
use Rattle.std.proofs.lemmas.Option.{none-some}
use mathlib.Core.Path.{◌≡◌, refl, sym, ap, ◌∙◌}
use Rattle.machine.specs.Sum.{weigh}
use Rattle.machine.specs.Lists.{gather}
use Rattle.machine.specs.Turn.{Lane, Served, add, serve}
use Rattle.machine.proofs.Lists.Turns.{Empty, Took, turn}
use Rattle.machine.proofs.Lists.Orders.{perm_between, perm_mem, perm_weigh, is_gathered, weigh_gather}

-- what is got, as a list
abbrev pub listed : {X : Type 0} → Option X → List X
listed None = []
listed (Some x) = x ∷ []

module _ {X : Type 0} where
  abbrev pub flat : List (Lane X) → List X
  flat [] = []
  flat (l ∷ ls) = l.line ++ flat ls

  abbrev pub names : List (Lane X) → List ℕ
  names ls = map (λ l. l.name) ls

  flat_append : (a b : List (Lane X)) → flat (a ++ b) ≡ flat a ++ flat b
  flat_append [] b = refl
  flat_append (l ∷ a) b = rw (flat_append a b) (sym (append_assoc l.line (flat a) (flat b)))

  pub flat_empty : (ls : List (Lane X)) → Empty ls → flat ls ≡ []
  flat_empty [] h = refl
  flat_empty (l ∷ ls) h = rw h.0 (flat_empty ls h.1)

  pub flat_perm : {a b : List (Lane X)} → Permᴰ a b → Permᴰ (flat a) (flat b)
  flat_perm Permᴰ.nil = Permᴰ.nil
  flat_perm (Permᴰ.cons {b = l} e h) = rw e (Permᴰ.append_left l.line (flat_perm h))
  flat_perm (Permᴰ.swap {a' = l} {b' = m} {l = ls} e f) = rw (e, f) (perm_between m.line l.line (flat ls))
  flat_perm (Permᴰ.trans h k) = Permᴰ.trans (flat_perm h) (flat_perm k)

  pub names_add : (f : ℕ → List X) (ls : List (Lane X)) → names (add f ls) ≡ names ls
  names_add f [] = refl
  names_add f (l ∷ ls) = ap (λ (ns : List ℕ). l.name ∷ ns) (names_add f ls)

  pub flat_add : (f : ℕ → List X) (ls : List (Lane X)) → Permᴰ (flat ls ++ gather f (names ls)) (flat (add f ls))
  flat_add f [] = Permᴰ.nil
  flat_add f (l ∷ ls) =
      rw (append_assoc l.line (flat ls) (gather f (names (l ∷ ls))), append_assoc l.line (f l.name) (flat (add f ls)))
      (Permᴰ.append_left l.line
      (Permᴰ.trans (perm_between (flat ls) (f l.name) (gather f (names ls))) (Permᴰ.append_left (f l.name) (flat_add f ls))))

  -- what a turn takes, and what it leaves, is what was there; every lane is left its name
  pub record Turned (ls : List (Lane X)) (r : Served X) : Type 0 where
    pub same : Permᴰ (flat ls) (listed r.got ++ flat r.lanes)
    pub names_same : Permᴰ (names ls) (names r.lanes)

  took_turned : (ls : List (Lane X)) (r : Served X) → Took ls r → Turned ls r
  took_turned ls r k =
      let b = names k.before in
      record {
        same = rw (k.was, k.got, k.now) (simp (flat_append, flat_empty k.before k.passed, append-nil)
            (Permᴰ.cons refl (Permᴰ.append_comm k.rest (flat k.after))));
        names_same = rw (k.was, k.now) (simp (map-append)
            (rw (← append_assoc b (k.name ∷ []) (names k.after)) (Permᴰ.append_comm (b ++ (k.name ∷ [])) (names k.after))));
      }

  pub turned : (ls : List (Lane X)) → Turned ls (serve [] ls)
  turned ls = ⊎_elim (took_turned ls (serve [] ls))
      (λ k. record { same = rw (k.got, k.now) (Permᴰ.refl (flat ls)); names_same = rw k.now (Permᴰ.refl (names ls)) })
      (turn ls)

  -- it takes none only if there is none
  pub none_waits : (ls : List (Lane X)) → (serve [] ls).got ≡ None → flat (serve [] ls).lanes ≡ []
  none_waits ls e = ⊎_elim (λ k. absurd (none-some k.head (sym e ∙ k.got))) (λ k. rw k.now (flat_empty ls k.empty))
      (turn ls)

  -- ---- lanes tick by tick, each with its name: what a tick brings to them, `new t i` to the lane named i
  module _ (new : ℕ → ℕ → List X) (lanes : ℕ → List (Lane X)) (stay : (t : ℕ) → Permᴰ (names (lanes t)) (names (lanes (suc t)))) where
    abbrev pub brought : ℕ → List X
    brought t = gather (new t) (names (lanes t))

    same_names : (t : ℕ) → Permᴰ (names (lanes zero)) (names (lanes t))
    same_names zero = Permᴰ.refl (names (lanes zero))
    same_names (suc t) = Permᴰ.trans (same_names t) (stay t)

    pub brought_weigh : (w : X → ℕ) (t : ℕ) → weigh w (brought t) ≡ weigh (λ i. weigh w (new t i)) (names (lanes zero))
    brought_weigh w t = weigh_gather w (new t) (names (lanes t)) ∙ sym (perm_weigh (λ i. weigh w (new t i)) (same_names t))

    pub is_brought : (t i : ℕ) (y : X) → Memᴰ i (names (lanes zero)) → Memᴰ y (new t i) → Memᴰ y (brought t)
    is_brought t i y n m = is_gathered (new t) (names (lanes t)) i y (perm_mem (same_names t) n) m

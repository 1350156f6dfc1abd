-- What a turn does to the lanes: the first that is not empty gives its head and goes behind all others, or all are empty; the rest of each lane stays.
-- Assumes nothing.
use Prim.Native.Nat.{ℕ, suc, ◌+◌}
use mathlib.Core.List.{List, [], ◌∷◌, ◌++◌, append_assoc, append-nil}
use mathlib.Core.Logic.{◌⊎◌, inl, inr}
use Rattle.std.specs.Prelude.{None, Some}
use mathlib.Core.Path.{◌≡◌, refl, sym, ap, subst}
use native.Mathlib.Omega.{arith}
use lib.ListN.{length, length-append}
use Rattle.machine.specs.Turn.{Lane, Served, add, serve}

module _ {X : Type 0} where
  abbrev pub Empty : List (Lane X) → Type 0
  Empty [] = Unit {0}
  Empty (l ∷ ls) = (l.line ≡ []) × Empty ls

  pub empty_append : (a b : List (Lane X)) → Empty a → Empty b → Empty (a ++ b)
  empty_append [] b h k = k
  empty_append (l ∷ a) b h k = (h.0, empty_append a b h.1 k)

  pub record Took (ls : List (Lane X)) (r : Served X) : Type 0 where
    pub before : List (Lane X)
    pub after : List (Lane X)
    pub name : ℕ
    pub head : X
    pub rest : List X
    pub passed : Empty before
    pub was : ls ≡ before ++ (record { name = name; line = head ∷ rest } ∷ after)
    pub got : r.got ≡ Some head
    pub now : r.lanes ≡ after ++ (before ++ (record { name = name; line = rest } ∷ []))

  pub record Rested (ls : List (Lane X)) (r : Served X) : Type 0 where
    pub empty : Empty ls
    pub got : r.got ≡ None
    pub now : r.lanes ≡ ls

  turn_of_lem : (b ls : List (Lane X)) → Empty b → Took (b ++ ls) (serve b ls) ⊎ Rested (b ++ ls) (serve b ls)
  turn_of_lem b [] h = inr (record { empty = empty_append b [] h tt; got = refl; now = sym (append-nil b) })
  turn_of_lem b (l ∷ ls) h = go (λ k. turn_of_lem (b ++ (l ∷ [])) ls k) l.line refl
    where
      R : List X → Served X
      R m = elim m [ [] ↦ serve (b ++ (l ∷ [])) ls | x ∷ xs ↦ record { got = Some x; lanes = ls ++ (b ++ (record { name = l.name; line = xs } ∷ [])) } ]

      go : (Empty (b ++ (l ∷ [])) → Took ((b ++ (l ∷ [])) ++ ls) (serve (b ++ (l ∷ [])) ls) ⊎ Rested ((b ++ (l ∷ [])) ++ ls) (serve (b ++ (l ∷ [])) ls)) → (m : List X) → l.line ≡ m → Took (b ++ (l ∷ ls)) (R m) ⊎ Rested (b ++ (l ∷ ls)) (R m)
      go rec [] e = subst (λ (k : List (Lane X)). Took k (serve (b ++ (l ∷ [])) ls) ⊎ Rested k (serve (b ++ (l ∷ [])) ls)) (append_assoc b (l ∷ []) ls)
          (rec (empty_append b (l ∷ []) h (e, tt)))
      go rec (x ∷ xs) e = inl (record {
        before = b;
        after = ls;
        name = l.name;
        head = x;
        rest = xs;
        passed = h;
        was = ap (λ (m : List X). b ++ (record { name = l.name; line = m } ∷ ls)) e;
        got = refl;
        now = refl;
      })

  pub turn : (ls : List (Lane X)) → Took ls (serve [] ls) ⊎ Rested ls (serve [] ls)
  turn ls = turn_of_lem [] ls tt

  -- R holds of each lane and the number of lanes that stand behind it, `off` more counted
  abbrev pub Each : (Lane X → ℕ → Type 0) → ℕ → List (Lane X) → Type 0
  Each R off [] = Unit {0}
  Each R off (l ∷ ls) = R l (length ls + off) × Each R off ls

  pub each_append : (R : Lane X → ℕ → Type 0) (off : ℕ) (a b : List (Lane X)) → Each R (length b + off) a → Each R off b → Each R off (a ++ b)
  each_append R off [] b h k = k
  each_append R off (l ∷ a) b h k = (subst (λ (n : ℕ). R l n) (omega (arith, length-append a b)) h.0, each_append R off a b h.1 k)

  pub each_right : (R : Lane X → ℕ → Type 0) (off : ℕ) (a b : List (Lane X)) → Each R off (a ++ b) → Each R off b
  each_right R off [] b h = h
  each_right R off (l ∷ a) b h = each_right R off a b h.1

  pub each_map : (R S : Lane X → ℕ → Type 0) (o p : ℕ) → ((l : Lane X) (n : ℕ) → R l (n + o) → S l (n + p)) → (ls : List (Lane X)) → Each R o ls → Each S p ls
  each_map R S o p f [] h = tt
  each_map R S o p f (l ∷ ls) h = (f l (length ls) h.0, each_map R S o p f ls h.1)

  pub each_empty : (S : Lane X → ℕ → Type 0) (p : ℕ) → ((l : Lane X) (n : ℕ) → l.line ≡ [] → S l (n + p)) → (ls : List (Lane X)) → Empty ls → Each S p ls
  each_empty S p f [] h = tt
  each_empty S p f (l ∷ ls) h = (f l (length ls) h.0, each_empty S p f ls h.1)

  pub length_add : (f : ℕ → List X) (ls : List (Lane X)) → length (add f ls) ≡ length ls
  length_add f [] = refl
  length_add f (l ∷ ls) = ap suc (length_add f ls)

  pub each_add : (R S : Lane X → ℕ → Type 0) (f : ℕ → List X) (o : ℕ)
      → ((l : Lane X) (n : ℕ) → R l n → S (record { name = l.name; line = l.line ++ f l.name }) n)
      → (ls : List (Lane X)) → Each R o ls → Each S o (add f ls)
  each_add R S f o g [] h = tt
  each_add R S f o g (l ∷ ls) h = (
    subst (λ (n : ℕ). S (record { name = l.name; line = l.line ++ f l.name }) (n + o)) (sym (length_add f ls)) (g l (length ls + o) h.0),
    each_add R S f o g ls h.1,
  )

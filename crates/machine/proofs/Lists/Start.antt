-- The lanes with which a run starts: empty, one for each number, from any turn on.
-- Assumes nothing.
use Prim.Native.Nat.{ℕ, zero, suc}
use mathlib.Core.Bool.{true}
use mathlib.Core.List.Memᴰ
use mathlib.Core.List.{List, [], ◌∷◌, Memᴰ}
use mathlib.Core.Logic.{⊎_elim}
use mathlib.Core.Path.{◌≡◌, refl, sym, ap, subst}
use native.Mathlib.Omega.{arith}
use lib.ListN.{length, take, drop, length-append, take-append-drop}
use Rattle.base.specs.Tabulate.{passing}
use Rattle.machine.specs.Sum.{weigh}
use Rattle.machine.specs.Turn.{lanes_of, from_turn}
use Rattle.machine.proofs.Lists.Sums.{weigh_append}
use Rattle.machine.proofs.Lists.Turns.{Empty}
use Rattle.machine.proofs.Lists.Lanes.{names}

module _ (X : Type 0) where
  pub lanes_empty : (ns : List ℕ) → Empty (lanes_of {X = X} ns)
  lanes_empty [] = tt
  lanes_empty (n ∷ ns) = (refl, lanes_empty ns)

  pub lanes_length : (ns : List ℕ) → length (lanes_of {X = X} ns) ≡ length ns
  lanes_length [] = refl
  lanes_length (n ∷ ns) = ap suc (lanes_length ns)

  pub lanes_names : (ns : List ℕ) → names (lanes_of {X = X} ns) ≡ ns
  lanes_names [] = refl
  lanes_names (n ∷ ns) = ap (λ (l : List ℕ). n ∷ l) (lanes_names ns)

pub turn_length : (k : ℕ) (ns : List ℕ) → length (from_turn k ns) ≡ length ns
turn_length k ns = omega (arith, length-append (drop k ns) (take k ns), length-append (take k ns) (drop k ns), ap (length {A = ℕ}) (take-append-drop k ns))

pub turn_mem : (k i : ℕ) (ns : List ℕ) → Memᴰ i ns → Memᴰ i (from_turn k ns)
turn_mem k i ns m = ⊎_elim (λ j. Memᴰ.append_right (drop k ns) j) (λ j. Memᴰ.append_left (take k ns) j)
    (Memᴰ.append_cases (take k ns) (subst (λ (l : List ℕ). Memᴰ i l) (sym (take-append-drop k ns)) m))

pub turn_weigh : (g : ℕ → ℕ) (k : ℕ) (ns : List ℕ) → weigh g (from_turn k ns) ≡ weigh g ns
turn_weigh g k ns = omega (arith, weigh_append g (drop k ns) (take k ns), weigh_append g (take k ns) (drop k ns), ap (weigh g) (take-append-drop k ns))

pub passing_all : (n : ℕ) → length (passing (λ i. true) n) ≡ n
unfolding passing
passing_all zero = refl
passing_all (suc n) = omega (arith, length-append (passing (λ i. true) n) (n ∷ []), passing_all n)

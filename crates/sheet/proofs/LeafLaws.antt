-- The leaves, one hop after the other: a hop is noted as soon as it is the parent of one of those that are passed.
-- Assumes nothing.
use Prim.Native.Nat.{ℕ, suc, ◌+◌, ◌≤◌, ◌<◌}
use mathlib.Core.Bool.{Bool, true, false, not}
use mathlib.Core.List.{List}
use mathlib.Core.Logic.{⊎_elim}
use Rattle.std.specs.Prelude.{Option, None, Some}
use mathlib.Core.Path.{◌≡◌, refl, sym, ap, ◌∙◌}
use native.Mathlib.Decide.{ℕ_discrete}
use native.Mathlib.Nat.{eq-or-lt_of_le}
use native.Mathlib.Omega.{arith}
use borrow.Author.Tests.{eq-eqb, ne_eqb}
use lib.ListN.{length, get_or, set, replicate, length-replicate, get_or-replicate, length-set}
use lib.Seq.{get_or-set_same, get_or-set_other}
use Rattle.base.specs.Least.{least_from}
use Rattle.base.specs.Tests.{is_some}
use Rattle.base.proofs.LeastLaws.{least_is, least_none, least_was, none_was, least_exists}
use Rattle.base.proofs.TabulateLaws.{tabulate_at, tabulate_same, tabulate_rows}
use Rattle.base.proofs.TestLaws.{some_is}
use Rattle.layout.specs.Limits.{limits}
use Rattle.layout.proofs.SizeLaws.{most_are}
use Rattle.network.specs.declared.Hop.{Hop}
use Rattle.network.specs.Network.{Network, parent_at}
use Rattle.network.specs.Views.{is_parent, leaf}
use Rattle.sheet.specs.declared.Sheet.{Sheet}
use Rattle.sheet.specs.Sheet.{network_on}
use Rattle.sheet.specs.Walks.{hop_row, leaves_on}
use Rattle.sheet.proofs.WalkLaws.{hop_row_lem}

-- ---- one number more at the end of those that a least is looked for among
least_more_hit : (p : ℕ → Bool) (n : ℕ) → p n ≡ true → is_some (least_from p 0 (n + 1)) ≡ true
least_more_hit p n here =
    let r = least_exists p 0 (n + 1) n (omega arith) (omega arith) here in
    some_is (least_from p 0 (n + 1)) r.at r.is

least_more_miss : (p : ℕ → Bool) (n : ℕ) → p n ≡ false → least_from p 0 (n + 1) ≡ least_from p 0 n
least_more_miss p n here = go (least_from p 0 n) refl
  where
    go : (o : Option ℕ) → least_from p 0 n ≡ o → least_from p 0 (n + 1) ≡ o
    go None e = least_none p 0 (n + 1)
        (λ i a b. ⊎_elim
        (λ (s : suc i ≡ n + 1). let same : i ≡ n = omega arith in ap p same ∙ here)
        (λ (l : suc i < n + 1). none_was p 0 n i e a (omega arith))
        (eq-or-lt_of_le (omega arith)))
    go (Some j) e = let r = least_was p 0 n j e in least_is p 0 (n + 1) j r.low (omega (arith, r.high)) r.passes r.fails

-- the parent of a hop that was read in a walk
pub parent_walked : (sheet : Sheet) (h : ℕ) → h < length (network_on sheet).hops → {r : Hop} {x : Option ℕ} → r ≡ hop_row sheet h → r.parent ≡ x
    → parent_at (network_on sheet) h ≡ x
parent_walked sheet h row is e =
    ap (λ (r : Hop). r.parent) (sym (is ∙ hop_row_lem sheet h row)) ∙ e

module _ (net : Network) where
  -- whether hop h is the parent of one of the first n hops
  abbrev is_parent_below : ℕ → ℕ → Bool
  is_parent_below n h = is_some (least_from (λ g. is_parent h (parent_at net g)) 0 n)

  pub record LeavesTo (n : ℕ) (leaves : List Bool) : Type 0 where
    pub long : length leaves ≡ limits.hops
    pub leaf_is : (h : ℕ) → h < limits.hops → get_or leaves h false ≡ not (is_parent_below n h)

  pub leaves_start : LeavesTo 0 (replicate limits.hops true)
  unfolding least_from is_some
  leaves_start = record { long = length-replicate limits.hops true; leaf_is = λ h l. get_or-replicate limits.hops h true false l }

  module _ (n : ℕ) (leaves : List Bool) (so_far : LeavesTo n leaves) where
    -- nothing changes where hop n's parent is none of the rows that are noted
    same_leaves : ((h : ℕ) → h < limits.hops → is_parent h (parent_at net n) ≡ false) → LeavesTo (n + 1) leaves
    same_leaves miss = record {
      long = so_far.long;
      leaf_is = λ h l.
          so_far.leaf_is h l
          ∙ ap (λ (o : Option ℕ). not (is_some o)) (sym (least_more_miss (λ g. is_parent h (parent_at net g)) n (miss h l)));
    }

    pub leaves_at_root : parent_at net n ≡ None → LeavesTo (n + 1) leaves
    unfolding is_parent
    leaves_at_root e = same_leaves (λ h l. ap (is_parent h) e)

    module _ (g : ℕ) (e : parent_at net n ≡ Some g) where
      pub leaves_at_far : limits.hops ≤ g → LeavesTo (n + 1) leaves
      unfolding is_parent
      leaves_at_far far = same_leaves (λ h l. ap (is_parent h) e ∙ ne_eqb g h (λ s. omega arith))

      pub leaves_at_child : g < limits.hops → LeavesTo (n + 1) (set leaves g false)
      unfolding is_parent
      leaves_at_child inside = record {
        long = length-set leaves g false ∙ so_far.long;
        leaf_is = λ h l. elim (ℕ_discrete h g) [
          | yes same ↦
              let hit : is_parent h (parent_at net n) ≡ true = ap (is_parent h) e ∙ eq-eqb g h (sym same) in
              ap (λ (i : ℕ). get_or (set leaves g false) i false) same
              ∙ get_or-set_same leaves g false false (omega (arith, so_far.long))
              ∙ ap not (sym (least_more_hit (λ g. is_parent h (parent_at net g)) n hit))
          | no other ↦
              let miss : is_parent h (parent_at net n) ≡ false = ap (is_parent h) e ∙ ne_eqb g h (λ s. other (sym s)) in
              get_or-set_other leaves g h false false other
              ∙ so_far.leaf_is h l
              ∙ ap (λ (o : Option ℕ). not (is_some o)) (sym (least_more_miss (λ g. is_parent h (parent_at net g)) n miss))
        ];
      }

pub leaves_all : (sheet : Sheet) (n : ℕ) (leaves : List Bool) → n ≡ length (network_on sheet).hops → LeavesTo (network_on sheet) n leaves → leaves ≡ leaves_on sheet
unfolding leaves_on leaf
leaves_all sheet n leaves e all =
    sym (tabulate_rows leaves false)
    ∙ rw (all.long, most_are.hops) (tabulate_same (λ h. get_or leaves h false) (leaf (network_on sheet)) limits.hops
    (λ h l. all.leaf_is h l ∙ ap (λ (m : ℕ). not (is_parent_below (network_on sheet) m h)) e))

-- a leaf as it is read
pub leaf_read : (sheet : Sheet) (leaves : List Bool) (h : ℕ) → leaves ≡ leaves_on sheet → h < limits.hops → get_or leaves h false ≡ leaf (network_on sheet) h
unfolding leaves_on
leaf_read sheet leaves h e l =
    ap (λ (ls : List Bool). get_or ls h false) e ∙ tabulate_at (leaf (network_on sheet)) _ h false (rw most_are.hops l)

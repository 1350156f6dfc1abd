-- The rows of a network counted: the destinations of each VL hop by hop, and the rows stream by stream.
-- Assumes nothing.
use Prim.Native.Nat.{ℕ, ◌+◌, ◌≤◌, ◌<◌}
use mathlib.Core.Bool.{Bool, true, false, ◌&&◌, and-false}
use mathlib.Core.List.{List, [], ◌∷◌, ◌++◌, map}
use mathlib.Core.Path.{◌≡◌, sym, ap, ap₂, ◌∙◌}
use native.Mathlib.Decide.{ℕ_discrete}
use native.Mathlib.Numerals.{add-one}
use native.Mathlib.Omega.{arith}
use borrow.Author.Tests.{eq-eqb, ne_eqb}
use lib.Dec.{eqb}
use lib.ListN.{length, get_or, set, length-append, length-map, length-set}
use lib.Seq.{get_or-set_same, get_or-set_other}
use Rattle.base.specs.Tabulate.{tabulate, passing}
use Rattle.base.proofs.TabulateLaws.{length_passing, passing_hit, passing_miss, tabulate_same, tabulate_rows}
use Rattle.layout.specs.Limits.{limits}
use Rattle.network.specs.Network.{Network, stream_at, hop_at}
use Rattle.network.specs.Views.{leaf, leaves_of}
use Rattle.rows.specs.Rows.{row_of, rows_to}

module _ (net : Network) where
  -- ---- the destinations of VL v among the first n hops
  abbrev pub is_destination : ℕ → ℕ → Bool
  is_destination v h = eqb (hop_at net h).vl v && leaf net h

  abbrev pub leaves_to : ℕ → ℕ → List ℕ
  leaves_to v n = passing (is_destination v) n

  pub leaves_of_all : (v n : ℕ) → n ≡ length net.hops → leaves_to v n ≡ leaves_of net v
  unfolding leaves_of
  leaves_of_all v n e = ap (leaves_to v) e

  pub leaves_to_hit : (v n : ℕ) → (hop_at net n).vl ≡ v → leaf net n ≡ true → leaves_to v (n + 1) ≡ leaves_to v n ++ (n ∷ [])
  leaves_to_hit v n e t = rw (add-one n) (passing_hit (is_destination v) n (ap₂ ◌&&◌ (eq-eqb (hop_at net n).vl v e) t))

  pub leaves_to_other : (v n : ℕ) → ((hop_at net n).vl ≡ v → ⊥) → leaves_to v (n + 1) ≡ leaves_to v n
  leaves_to_other v n e =
      rw (add-one n) (passing_miss (is_destination v) n (ap (λ (b : Bool). b && leaf net n) (ne_eqb (hop_at net n).vl v e)))

  pub leaves_to_inner : (v n : ℕ) → leaf net n ≡ false → leaves_to v (n + 1) ≡ leaves_to v n
  leaves_to_inner v n t =
      let here = eqb (hop_at net n).vl v in
      rw (add-one n) (passing_miss (is_destination v) n (ap (λ (b : Bool). here && b) t ∙ and-false here))

  -- ---- the count of each VL's
  pub record CountsTo (n : ℕ) (counts : List ℕ) : Type 0 where
    pub long : length counts ≡ limits.vls
    pub count_is : (v : ℕ) → v < limits.vls → get_or counts v 0 ≡ length (leaves_to v n)

  pub counts_none : (counts : List ℕ) → length counts ≡ limits.vls → ((v : ℕ) → get_or counts v 0 ≡ 0) → CountsTo 0 counts
  unfolding passing
  counts_none counts long zero = record { long = long; count_is = λ v l. zero v }

  module _ (n : ℕ) (counts : List ℕ) (so_far : CountsTo n counts) where
    pub count_bound : (v : ℕ) → v < limits.vls → get_or counts v 0 ≤ n
    count_bound v l = omega (arith, so_far.count_is v l, length_passing (is_destination v) n)

    pub counts_inner : leaf net n ≡ false → CountsTo (n + 1) counts
    counts_inner t = record { long = so_far.long; count_is = λ v l. so_far.count_is v l ∙ ap length (sym (leaves_to_inner v n t)) }

    pub counts_more : (v : ℕ) → v ≡ (hop_at net n).vl → v < limits.vls → leaf net n ≡ true
        → CountsTo (n + 1) (set counts v (get_or counts v 0 + 1))
    counts_more v e l t = record {
      long = length-set counts v (get_or counts v 0 + 1) ∙ so_far.long;
      count_is = λ u k. elim (ℕ_discrete u v) [
        | yes same ↦
            ap (λ (i : ℕ). get_or (set counts v (get_or counts v 0 + 1)) i 0) same
            ∙ get_or-set_same counts v (get_or counts v 0 + 1) 0 (omega (arith, so_far.long))
            ∙ ap (λ (x : ℕ). x + 1) (so_far.count_is v l)
            ∙ sym (length-append (leaves_to v n) (n ∷ []))
            ∙ ap length (sym (leaves_to_hit v n (sym e) t))
            ∙ ap (λ (i : ℕ). length (leaves_to i (n + 1))) (sym same)
        | no other ↦
            get_or-set_other counts v u (get_or counts v 0 + 1) 0 other
            ∙ so_far.count_is u k
            ∙ ap length (sym (leaves_to_other u n (λ on. other (sym (e ∙ on)))))
      ];
    }

  pub counts_all : (n : ℕ) (counts : List ℕ) → n ≡ length net.hops → CountsTo n counts → counts ≡ tabulate (λ v. length (leaves_of net v)) limits.vls
  counts_all n counts e all =
      sym (tabulate_rows counts 0)
      ∙ rw all.long (tabulate_same (λ v. get_or counts v 0) (λ v. length (leaves_of net v)) limits.vls (λ v l. all.count_is v l ∙ ap length (leaves_of_all v n e)))

  pub few_leaves : (v : ℕ) → length (leaves_of net v) ≤ length net.hops
  unfolding leaves_of
  few_leaves v = length_passing (is_destination v) (length net.hops)

  -- ---- the rows
  -- of the first s streams, and of stream s those at these hops
  abbrev pub rows_with : ℕ → List ℕ → List (List ℕ)
  rows_with s hs = rows_to net s ++ map (row_of net s) hs

  pub length_rows_with : (s : ℕ) (hs : List ℕ) → length (rows_with s hs) ≡ length (rows_to net s) + length hs
  length_rows_with s hs = length-append (rows_to net s) (map (row_of net s) hs) ∙ ap (λ (n : ℕ). length (rows_to net s) + n) (length-map hs (row_of net s))

  pub rows_more : (s : ℕ) → rows_to net (s + 1) ≡ rows_with s (leaves_of net (stream_at net s).vl)
  unfolding rows_to
  rows_more s = rw (add-one s)

  pub length_rows_more : (s : ℕ) → length (rows_to net (s + 1)) ≡ length (rows_to net s) + length (leaves_of net (stream_at net s).vl)
  length_rows_more s = ap length (rows_more s) ∙ length_rows_with s (leaves_of net (stream_at net s).vl)

-- Each named test of a reference as the comparison that it is, also where it fails; and the first failing test of a row by what was tested.
-- Assumes nothing.
use Prim.Native.Nat.{ℕ, suc, ◌<◌}
use mathlib.Core.Bool.{Bool, true, false, ◌||◌, not}
use mathlib.Core.List.{List, [], ◌∷◌}
use Rattle.std.specs.Prelude.{None, Some, option_map}
use mathlib.Core.Path.{◌≡◌, refl, ap, ◌∙◌}
use native.Mathlib.Omega.{arith}
use borrow.Author.Tests.{ne_eqb}
use lib.Dec.{leb, ltb, eqb}
use lib.ListN.{length, get_or}
use Rattle.base.specs.Least.{least_from}
use Rattle.base.specs.Tests.{first_failing}
use Rattle.base.proofs.LeastLaws.{least_none, least_exists}
use Rattle.base.proofs.TestLaws.{some_is, none_is, first_fails, first_passes}
use Rattle.frame.specs.Packets.{packets}
use Rattle.network.specs.Network.{Network, vl_at, stream_at, hop_at, parent_at}
use Rattle.network.specs.References.{names_system, has_hop, stream_names_vl, names_sub_link, hop_names_vl, names_port, of_parent, parent_earlier, parent_same_vl, parent_lower_port, twin_of, no_earlier_twin, route_longer, not_too_deep, vl_tests, stream_tests, hop_tests, ref_fault, naming_rows, one_sample}

module _ (net : Network) (i : ℕ) where
  -- ---- the comparisons
  pub names_system_is : names_system net i ≡ ltb (vl_at net i).system (length net.systems)
  unfolding names_system
  names_system_is = refl

  pub stream_names_vl_is : stream_names_vl net i ≡ ltb (stream_at net i).vl (length net.vls)
  unfolding stream_names_vl
  stream_names_vl_is = refl

  pub names_sub_link_is : names_sub_link net i ≡ ltb (stream_at net i).sublink (vl_at net (stream_at net i).vl).sublinks
  unfolding names_sub_link
  names_sub_link_is = refl

  pub hop_names_vl_is : hop_names_vl net i ≡ ltb (hop_at net i).vl (length net.vls)
  unfolding hop_names_vl
  hop_names_vl_is = refl

  pub names_port_is : names_port net i ≡ ltb (hop_at net i).port (length net.ports)
  unfolding names_port
  names_port_is = refl

  pub one_sample_is : one_sample net i ≡ not (stream_at net i).sampling || leb (packets (stream_at net i).size (vl_at net (stream_at net i).vl).lmax) 1
  unfolding one_sample
  one_sample_is = refl

  -- ---- of the parent
  without_parent : (test : ℕ → Bool) → parent_at net i ≡ None → of_parent net test i ≡ true
  unfolding of_parent
  without_parent test e = rw (e, of_parent)

  with_parent : (test : ℕ → Bool) (g : ℕ) → parent_at net i ≡ Some g → of_parent net test i ≡ test g
  unfolding of_parent
  with_parent test g e = rw (e, of_parent)

  pub no_parent_earlier : parent_at net i ≡ None → parent_earlier net i ≡ true
  unfolding parent_earlier
  no_parent_earlier e = without_parent (λ g. ltb g i) e

  pub parent_earlier_is : (g : ℕ) → parent_at net i ≡ Some g → parent_earlier net i ≡ ltb g i
  unfolding parent_earlier
  parent_earlier_is g e = with_parent (λ g. ltb g i) g e

  pub no_parent_same_vl : parent_at net i ≡ None → parent_same_vl net i ≡ true
  unfolding parent_same_vl
  no_parent_same_vl e = without_parent (λ g. eqb (hop_at net g).vl (hop_at net i).vl) e

  pub parent_same_vl_is : (g : ℕ) → parent_at net i ≡ Some g → parent_same_vl net i ≡ eqb (hop_at net g).vl (hop_at net i).vl
  unfolding parent_same_vl
  parent_same_vl_is g e = with_parent (λ g. eqb (hop_at net g).vl (hop_at net i).vl) g e

  pub no_parent_lower : parent_at net i ≡ None → parent_lower_port net i ≡ true
  unfolding parent_lower_port
  no_parent_lower e = without_parent (λ g. ltb (hop_at net g).port (hop_at net i).port) e

  pub parent_lower_is : (g : ℕ) → parent_at net i ≡ Some g → parent_lower_port net i ≡ ltb (hop_at net g).port (hop_at net i).port
  unfolding parent_lower_port
  parent_lower_is g e = with_parent (λ g. ltb (hop_at net g).port (hop_at net i).port) g e

  -- ---- the tests that search, where they fail
  pub no_hop_lem : ((h : ℕ) → h < length net.hops → (hop_at net h).vl ≡ i → ⊥) → has_hop net i ≡ false
  unfolding has_hop
  no_hop_lem apart =
      none_is (least_from (λ h. eqb (hop_at net h).vl i) 0 (length net.hops))
      (least_none (λ h. eqb (hop_at net h).vl i) 0 (length net.hops) (λ h a b. ne_eqb (hop_at net h).vl i (apart h (omega arith))))

  pub twin_before : (g : ℕ) → g < i → twin_of net i g ≡ true → no_earlier_twin net i ≡ false
  unfolding no_earlier_twin
  twin_before g l t =
      let here = least_exists (twin_of net i) 0 i g (omega arith) (omega arith) t in
      ap not (some_is (least_from (twin_of net i) 0 i) here.at here.is)

  pub no_twins : ((g : ℕ) → g < i → twin_of net i g ≡ false) → no_earlier_twin net i ≡ true
  unfolding no_earlier_twin
  no_twins apart = ap not (none_is (least_from (twin_of net i) 0 i) (least_none (twin_of net i) 0 i (λ g a b. apart g (omega arith))))

  pub nothing_shorter : route_longer net 0 i ≡ true
  unfolding route_longer
  nothing_shorter = refl

  pub not_too_deep_is : not_too_deep net i ≡ not (route_longer net 8 i)
  unfolding not_too_deep
  not_too_deep_is = refl

-- ---- the first failing test, one test at a time
fails_here : (t : Bool) (ts : List Bool) → t ≡ false → first_failing (t ∷ ts) ≡ Some 0
fails_here t ts e = ap (λ (b : Bool). first_failing (b ∷ ts)) e ∙ first_fails ts

fails_later : (t : Bool) (ts : List Bool) (k : ℕ) → t ≡ true → first_failing ts ≡ Some k → first_failing (t ∷ ts) ≡ Some (suc k)
fails_later t ts k e rest = ap (λ (b : Bool). first_failing (b ∷ ts)) e ∙ (first_passes ts ∙ ap (option_map suc) rest)

module _ (net : Network) (i : ℕ) where
  pub vl_fails_0 : names_system net i ≡ false → ref_fault net 2 i ≡ Some 0
  unfolding ref_fault vl_tests
  vl_fails_0 a = fails_here _ _ a

  pub vl_fails_1 : names_system net i ≡ true → has_hop net i ≡ false → ref_fault net 2 i ≡ Some 1
  unfolding ref_fault vl_tests
  vl_fails_1 a b = fails_later _ _ _ a (fails_here _ _ b)

  pub stream_fails_0 : stream_names_vl net i ≡ false → ref_fault net 3 i ≡ Some 0
  unfolding ref_fault stream_tests
  stream_fails_0 a = fails_here _ _ a

  pub stream_fails_1 : stream_names_vl net i ≡ true → names_sub_link net i ≡ false → ref_fault net 3 i ≡ Some 1
  unfolding ref_fault stream_tests
  stream_fails_1 a b = fails_later _ _ _ a (fails_here _ _ b)

  pub hop_fails_0 : hop_names_vl net i ≡ false → ref_fault net 5 i ≡ Some 0
  unfolding ref_fault hop_tests
  hop_fails_0 a = fails_here _ _ a

  pub hop_fails_1 : hop_names_vl net i ≡ true → names_port net i ≡ false → ref_fault net 5 i ≡ Some 1
  unfolding ref_fault hop_tests
  hop_fails_1 a b = fails_later _ _ _ a (fails_here _ _ b)

  module _ (vl : hop_names_vl net i ≡ true) (port : names_port net i ≡ true) where
    pub hop_fails_2 : parent_earlier net i ≡ false → ref_fault net 5 i ≡ Some 2
    unfolding ref_fault hop_tests
    hop_fails_2 a = fails_later _ _ _ vl (fails_later _ _ _ port (fails_here _ _ a))

    module _ (earlier : parent_earlier net i ≡ true) where
      pub hop_fails_3 : parent_same_vl net i ≡ false → ref_fault net 5 i ≡ Some 3
      unfolding ref_fault hop_tests
      hop_fails_3 a = fails_later _ _ _ vl (fails_later _ _ _ port (fails_later _ _ _ earlier (fails_here _ _ a)))

      module _ (same_vl : parent_same_vl net i ≡ true) where
        pub hop_fails_4 : parent_lower_port net i ≡ false → ref_fault net 5 i ≡ Some 4
        unfolding ref_fault hop_tests
        hop_fails_4 a = fails_later _ _ _ vl (fails_later _ _ _ port (fails_later _ _ _ earlier (fails_later _ _ _ same_vl (fails_here _ _ a))))

        module _ (lower : parent_lower_port net i ≡ true) where
          pub hop_fails_5 : no_earlier_twin net i ≡ false → ref_fault net 5 i ≡ Some 5
          unfolding ref_fault hop_tests
          hop_fails_5 a =
              fails_later _ _ _ vl
              (fails_later _ _ _ port (fails_later _ _ _ earlier (fails_later _ _ _ same_vl (fails_later _ _ _ lower (fails_here _ _ a)))))

          pub hop_fails_6 : no_earlier_twin net i ≡ true → not_too_deep net i ≡ false → ref_fault net 5 i ≡ Some 6
          unfolding ref_fault hop_tests
          hop_fails_6 twin a =
              fails_later _ _ _ vl
              (fails_later _ _ _ port
              (fails_later _ _ _ earlier (fails_later _ _ _ same_vl (fails_later _ _ _ lower (fails_later _ _ _ twin (fails_here _ _ a))))))

-- ---- the rows of a section that are tested
pub rows_are : (net : Network) (s : ℕ) → naming_rows net s ≡ get_or (0 ∷ 0 ∷ length net.vls ∷ length net.streams ∷ 0 ∷ length net.hops ∷ []) s 0
unfolding naming_rows
rows_are net s = refl

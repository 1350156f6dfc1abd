-- No reference is bad exactly if the plain facts of `References` hold: no row has a failing test. The same of samples.
-- Assumes nothing.
use Prim.Native.Nat.{ℕ, zero, suc, ◌<◌}
use mathlib.Core.Bool.{true, not}
use mathlib.Core.Logic.{⊎_elim}
use Rattle.std.specs.Prelude.{None}
use mathlib.Core.Path.{◌≡◌, sym, ap}
use native.Mathlib.Decide.{dec_le}
use native.Mathlib.Nat.{eq-or-lt_of_le}
use native.Mathlib.Omega.{arith}
use borrow.Author.Tests.{not-false}
use lib.ListN.{length}
use Rattle.base.proofs.LeastLaws.{least_none, none_was}
use Rattle.base.proofs.TestLaws.{no_row, no_row_was, one_more_passes, one_more_passed, first_of_no_tests}
use Rattle.network.specs.Network.{Network, hop_at}
use Rattle.network.specs.References.{names_system, has_hop, stream_names_vl, names_sub_link, hop_names_vl, names_port, parent_earlier, parent_same_vl, parent_lower_port, no_earlier_twin, not_too_deep, vl_tests, stream_tests, hop_tests, ref_fault, naming_rows, bad_reference, one_sample, bad_sample}
use Rattle.network.specs.ReferenceFacts.{References, ReferencesExactly, SamplesFit, SamplesExactly}
use Rattle.network.proofs.ReferenceTests.{names_system_lem, names_system_was, has_hop_lem, has_hop_was, stream_names_vl_lem, stream_names_vl_was, names_sub_link_lem, names_sub_link_was, hop_names_vl_lem, hop_names_vl_was, names_port_lem, names_port_was, parent_is_earlier, parent_was_earlier, parent_has_vl, parent_had_vl, parent_is_lower, parent_was_lower, no_twin_before, no_twin_was_before, not_too_deep_lem, not_too_deep_was, one_sample_lem, one_sample_was}

-- ---- rows: no test of a row fails
module _ (net : Network) (i : ℕ) where
  pub vl_row : names_system net i ≡ true → has_hop net i ≡ true → ref_fault net 2 i ≡ None
  unfolding ref_fault vl_tests
  vl_row a b = one_more_passes _ _ a (one_more_passes _ _ b first_of_no_tests)

  pub vl_row_was : ref_fault net 2 i ≡ None → (names_system net i ≡ true) × (has_hop net i ≡ true)
  unfolding ref_fault vl_tests
  vl_row_was e =
      let a = one_more_passed (names_system net i) _ e in
      let b = one_more_passed (has_hop net i) _ a.1 in
      (a.0, b.0)

  pub stream_row_lem : stream_names_vl net i ≡ true → names_sub_link net i ≡ true → ref_fault net 3 i ≡ None
  unfolding ref_fault stream_tests
  stream_row_lem a b = one_more_passes _ _ a (one_more_passes _ _ b first_of_no_tests)

  pub stream_row_was : ref_fault net 3 i ≡ None → (stream_names_vl net i ≡ true) × (names_sub_link net i ≡ true)
  unfolding ref_fault stream_tests
  stream_row_was e =
      let a = one_more_passed (stream_names_vl net i) _ e in
      let b = one_more_passed (names_sub_link net i) _ a.1 in
      (a.0, b.0)

  pub record HopPasses : Type 0 where
    pub vl : hop_names_vl net i ≡ true
    pub port : names_port net i ≡ true
    pub earlier : parent_earlier net i ≡ true
    pub same_vl : parent_same_vl net i ≡ true
    pub lower_port : parent_lower_port net i ≡ true
    pub no_twin : no_earlier_twin net i ≡ true
    pub not_deep : not_too_deep net i ≡ true

  pub hop_row_lem : HopPasses → ref_fault net 5 i ≡ None
  unfolding ref_fault hop_tests
  hop_row_lem t =
      one_more_passes _ _ t.vl
      (one_more_passes _ _ t.port
      (one_more_passes _ _ t.earlier
      (one_more_passes _ _ t.same_vl
      (one_more_passes _ _ t.lower_port (one_more_passes _ _ t.no_twin (one_more_passes _ _ t.not_deep first_of_no_tests))))))

  pub hop_row_was : ref_fault net 5 i ≡ None → HopPasses
  unfolding ref_fault hop_tests
  hop_row_was e =
      let a = one_more_passed (hop_names_vl net i) _ e in
      let b = one_more_passed (names_port net i) _ a.1 in
      let c = one_more_passed (parent_earlier net i) _ b.1 in
      let d = one_more_passed (parent_same_vl net i) _ c.1 in
      let f = one_more_passed (parent_lower_port net i) _ d.1 in
      let g = one_more_passed (no_earlier_twin net i) _ f.1 in
      let h = one_more_passed (not_too_deep net i) _ g.1 in
      record { vl = a.0; port = b.0; earlier = c.0; same_vl = d.0; lower_port = f.0; no_twin = g.0; not_deep = h.0 }

-- ---- sections: no row has a failing test
pub no_bad_row : (net : Network) (s : ℕ) → ((i : ℕ) → i < naming_rows net s → ref_fault net s i ≡ None) → bad_reference net s ≡ None
unfolding bad_reference
no_bad_row net s all = no_row (ref_fault net s) 0 (naming_rows net s) (λ i a b. all i (omega arith))

pub no_bad_row_was : (net : Network) (s i : ℕ) → bad_reference net s ≡ None → i < naming_rows net s → ref_fault net s i ≡ None
unfolding bad_reference
no_bad_row_was net s i e h = no_row_was (ref_fault net s) 0 (naming_rows net s) e i (omega arith) (omega arith)

-- ---- the plain facts from the three sections that name something
pub references_hold : (net : Network) → bad_reference net 2 ≡ None → bad_reference net 3 ≡ None → bad_reference net 5 ≡ None → References net
unfolding naming_rows
references_hold net e2 e3 e5 =
    let vls : (v : ℕ) → v < length net.vls → (names_system net v ≡ true) × (has_hop net v ≡ true) = λ v l. vl_row_was net v (no_bad_row_was net 2 v e2 l) in
    let streams : (s : ℕ) → s < length net.streams → (stream_names_vl net s ≡ true) × (names_sub_link net s ≡ true) = λ s l. stream_row_was net s (no_bad_row_was net 3 s e3 l) in
    let hops : (h : ℕ) → h < length net.hops → HopPasses net h = λ h l. hop_row_was net h (no_bad_row_was net 5 h e5 l) in
    record {
      vl_system = λ v l. names_system_was net v (vls v l).0;
      vl_hop = λ v l. has_hop_was net v (vls v l).1;
      stream_vl = λ s l. stream_names_vl_was net s (streams s l).0;
      stream_sub_link = λ s l. names_sub_link_was net s (streams s l).1;
      hop_vl = λ h l. hop_names_vl_was net h (hops h l).vl;
      hop_port = λ h l. names_port_was net h (hops h l).port;
      parent_earlier_says = λ h g l e. parent_was_earlier net h g (hops h l).earlier e;
      parent_vl = λ h g l e. parent_had_vl net h g (hops h l).same_vl e;
      parent_port = λ h g l e. parent_was_lower net h g (hops h l).lower_port e;
      no_twin = λ h g l b v p. no_twin_was_before net h g (hops h l).no_twin b v p;
      not_deep = λ h l. not_too_deep_was net h (hops h l).not_deep;
    }

-- ---- and from the plain facts no section has a bad reference
module _ (net : Network) (refs : References net) where
  vls_good : bad_reference net 2 ≡ None
  unfolding naming_rows
  vls_good = no_bad_row net 2 (λ v l. vl_row net v (names_system_lem net v (refs.vl_system v l)) (has_hop_lem net v (refs.vl_hop v l)))

  streams_good : bad_reference net 3 ≡ None
  unfolding naming_rows
  streams_good = no_bad_row net 3 (λ s l. stream_row_lem net s (stream_names_vl_lem net s (refs.stream_vl s l)) (names_sub_link_lem net s (refs.stream_sub_link s l)))

  hops_good : bad_reference net 5 ≡ None
  unfolding naming_rows
  hops_good = no_bad_row net 5
      (λ h l. hop_row_lem net h
      record {
        vl = hop_names_vl_lem net h (refs.hop_vl h l);
        port = names_port_lem net h (refs.hop_port h l);
        earlier = parent_is_earlier net h (λ g e. refs.parent_earlier_says h g l e);
        same_vl = parent_has_vl net h (λ g e. refs.parent_vl h g l e);
        lower_port = parent_is_lower net h (λ g e. refs.parent_port h g l e);
        no_twin = no_twin_before net h (λ g b. refs.no_twin h g l b);
        not_deep = not_too_deep_lem net h (refs.not_deep h l);
      })

  pub no_bad_reference : (s : ℕ) → bad_reference net s ≡ None
  unfolding naming_rows
  no_bad_reference zero = no_bad_row net 0 (λ i l. absurd (omega arith))
  no_bad_reference (suc zero) = no_bad_row net 1 (λ i l. absurd (omega arith))
  no_bad_reference (suc (suc zero)) = vls_good
  no_bad_reference (suc (suc (suc zero))) = streams_good
  no_bad_reference (suc (suc (suc (suc zero)))) = no_bad_row net 4 (λ i l. absurd (omega arith))
  no_bad_reference (suc (suc (suc (suc (suc zero))))) = hops_good
  no_bad_reference (suc (suc (suc (suc (suc (suc s)))))) = no_bad_row net (suc (suc (suc (suc (suc (suc s)))))) (λ i l. absurd (omega arith))

  -- two hops of one VL on one port are one
  pub one_hop : (g h : ℕ) → g < length net.hops → h < length net.hops → (hop_at net g).vl ≡ (hop_at net h).vl → (hop_at net g).port ≡ (hop_at net h).port → g ≡ h
  one_hop g h lg lh v p = elim (dec_le g h) [
    | yes a ↦ ⊎_elim (λ e. e) (λ (l : g < h). absurd (refs.no_twin h g lh l v p)) (eq-or-lt_of_le a)
    | no a ↦ absurd (refs.no_twin g h lg (omega arith) (sym v) (sym p))
  ]

pub references_exactly : ReferencesExactly
references_exactly net =
    (λ refs. (no_bad_reference net refs 2, no_bad_reference net refs 3, no_bad_reference net refs 5), λ e. references_hold net e.0 e.1 e.2)

-- ---- 6: no sample is bad exactly if every sampling message is one packet at most
pub samples_fit : (net : Network) → bad_sample net ≡ None → SamplesFit net
unfolding bad_sample
samples_fit net e s l t =
    let passed = none_was (λ s. not (one_sample net s)) 0 (length net.streams) s e (omega arith) (omega arith) in
    one_sample_was net s (not-false (one_sample net s) passed) t

pub no_bad_sample : (net : Network) → SamplesFit net → bad_sample net ≡ None
unfolding bad_sample
no_bad_sample net fits =
    least_none (λ s. not (one_sample net s)) 0 (length net.streams) (λ s a b. ap not (one_sample_lem net s (fits s (omega arith))))

pub samples_exactly : SamplesExactly
samples_exactly net = (no_bad_sample net, samples_fit net)

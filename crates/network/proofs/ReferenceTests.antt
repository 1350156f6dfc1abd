-- Each named test of a reference passes exactly if its plain fact holds.
-- Assumes nothing.
use Prim.Native.Nat.{ℕ, ◌≤◌, ◌<◌}
use mathlib.Core.Bool.{Bool, true, false, true≢false, ◌||◌, not, and-eq-true_iff}
use Rattle.std.specs.Prelude.{Option, None, Some}
use mathlib.Core.Path.{◌≡◌, refl, sym, ap, ◌∙◌}
use native.Mathlib.Omega.{arith}
use borrow.Author.Tests.{lt-ltb, ltb-true, le-leb, leb-true, eq-eqb, eqb-true, not-true}
use lib.Dec.{leb, ltb, eqb}
use lib.ListN.{length}
use Rattle.base.specs.Least.{least_from}
use Rattle.base.specs.Tests.{is_some, number_or0}
use Rattle.base.proofs.LeastLaws.{least_none, none_was, least_was, least_exists}
use Rattle.base.proofs.TestLaws.{some_is, is_some_was, none_is, is_none_was}
use Rattle.frame.specs.Packets.{packets}
use Rattle.network.specs.Network.{Network, vl_at, stream_at, hop_at, parent_at}
use Rattle.network.specs.References.{names_system, has_hop, stream_names_vl, names_sub_link, hop_names_vl, names_port, of_parent, parent_earlier, parent_same_vl, parent_lower_port, twin_of, no_earlier_twin, route_longer, not_too_deep, one_sample}
use Rattle.network.specs.ReferenceFacts.{HopOf}

-- ---- VLs
pub names_system_lem : (net : Network) (v : ℕ) → (vl_at net v).system < length net.systems → names_system net v ≡ true
unfolding names_system
names_system_lem net v h = lt-ltb (vl_at net v).system (length net.systems) h

pub names_system_was : (net : Network) (v : ℕ) → names_system net v ≡ true → (vl_at net v).system < length net.systems
unfolding names_system
names_system_was net v e = ltb-true (vl_at net v).system (length net.systems) e

pub has_hop_lem : (net : Network) (v : ℕ) → HopOf net v → has_hop net v ≡ true
unfolding has_hop
has_hop_lem net v r =
    let here = least_exists (λ h. eqb (hop_at net h).vl v) 0 (length net.hops) r.at (omega arith) (omega (arith, r.row)) (eq-eqb (hop_at net r.at).vl v r.on_vl) in
    some_is (least_from (λ h. eqb (hop_at net h).vl v) 0 (length net.hops)) here.at here.is

pub has_hop_was : (net : Network) (v : ℕ) → has_hop net v ≡ true → HopOf net v
unfolding has_hop
has_hop_was net v e =
    let o = least_from (λ h. eqb (hop_at net h).vl v) 0 (length net.hops) in
    let r = least_was (λ h. eqb (hop_at net h).vl v) 0 (length net.hops) (number_or0 o) (is_some_was o e) in
    record { at = number_or0 o; row = omega (arith, r.high); on_vl = eqb-true (hop_at net (number_or0 o)).vl v r.passes }

-- ---- streams
pub stream_names_vl_lem : (net : Network) (s : ℕ) → (stream_at net s).vl < length net.vls → stream_names_vl net s ≡ true
unfolding stream_names_vl
stream_names_vl_lem net s h = lt-ltb (stream_at net s).vl (length net.vls) h

pub stream_names_vl_was : (net : Network) (s : ℕ) → stream_names_vl net s ≡ true → (stream_at net s).vl < length net.vls
unfolding stream_names_vl
stream_names_vl_was net s e = ltb-true (stream_at net s).vl (length net.vls) e

pub names_sub_link_lem : (net : Network) (s : ℕ) → (stream_at net s).sublink < (vl_at net (stream_at net s).vl).sublinks → names_sub_link net s ≡ true
unfolding names_sub_link
names_sub_link_lem net s h = lt-ltb (stream_at net s).sublink (vl_at net (stream_at net s).vl).sublinks h

pub names_sub_link_was : (net : Network) (s : ℕ) → names_sub_link net s ≡ true → (stream_at net s).sublink < (vl_at net (stream_at net s).vl).sublinks
unfolding names_sub_link
names_sub_link_was net s e = ltb-true (stream_at net s).sublink (vl_at net (stream_at net s).vl).sublinks e

-- ---- hops
pub hop_names_vl_lem : (net : Network) (h : ℕ) → (hop_at net h).vl < length net.vls → hop_names_vl net h ≡ true
unfolding hop_names_vl
hop_names_vl_lem net h l = lt-ltb (hop_at net h).vl (length net.vls) l

pub hop_names_vl_was : (net : Network) (h : ℕ) → hop_names_vl net h ≡ true → (hop_at net h).vl < length net.vls
unfolding hop_names_vl
hop_names_vl_was net h e = ltb-true (hop_at net h).vl (length net.vls) e

pub names_port_lem : (net : Network) (h : ℕ) → (hop_at net h).port < length net.ports → names_port net h ≡ true
unfolding names_port
names_port_lem net h l = lt-ltb (hop_at net h).port (length net.ports) l

pub names_port_was : (net : Network) (h : ℕ) → names_port net h ≡ true → (hop_at net h).port < length net.ports
unfolding names_port
names_port_was net h e = ltb-true (hop_at net h).port (length net.ports) e

-- a test of the parent passes exactly if it passes of each parent that there is
pub of_parent_lem : (net : Network) (test : ℕ → Bool) (h : ℕ) → ((g : ℕ) → parent_at net h ≡ Some g → test g ≡ true) → of_parent net test h ≡ true
unfolding of_parent
of_parent_lem net test h all = go (parent_at net h) refl
  where
    go : (o : Option ℕ) → parent_at net h ≡ o → elim o [ None ↦ true | Some g ↦ test g ] ≡ true
    go None e = refl
    go (Some g) e = all g e

pub of_parent_was : (net : Network) (test : ℕ → Bool) (h g : ℕ) → of_parent net test h ≡ true → parent_at net h ≡ Some g → test g ≡ true
unfolding of_parent
of_parent_was net test h g t e = sym (ap (λ (o : Option ℕ). elim o [ None ↦ true | Some i ↦ test i ]) e) ∙ t

module _ (net : Network) (h : ℕ) where
  pub parent_is_earlier : ((g : ℕ) → parent_at net h ≡ Some g → g < h) → parent_earlier net h ≡ true
  unfolding parent_earlier
  parent_is_earlier all = of_parent_lem net (λ g. ltb g h) h (λ g e. lt-ltb g h (all g e))

  pub parent_was_earlier : (g : ℕ) → parent_earlier net h ≡ true → parent_at net h ≡ Some g → g < h
  unfolding parent_earlier
  parent_was_earlier g t e = ltb-true g h (of_parent_was net (λ g. ltb g h) h g t e)

  pub parent_has_vl : ((g : ℕ) → parent_at net h ≡ Some g → (hop_at net g).vl ≡ (hop_at net h).vl) → parent_same_vl net h ≡ true
  unfolding parent_same_vl
  parent_has_vl all =
      of_parent_lem net (λ g. eqb (hop_at net g).vl (hop_at net h).vl) h (λ g e. eq-eqb (hop_at net g).vl (hop_at net h).vl (all g e))

  pub parent_had_vl : (g : ℕ) → parent_same_vl net h ≡ true → parent_at net h ≡ Some g → (hop_at net g).vl ≡ (hop_at net h).vl
  unfolding parent_same_vl
  parent_had_vl g t e =
      eqb-true (hop_at net g).vl (hop_at net h).vl (of_parent_was net (λ g. eqb (hop_at net g).vl (hop_at net h).vl) h g t e)

  pub parent_is_lower : ((g : ℕ) → parent_at net h ≡ Some g → (hop_at net g).port < (hop_at net h).port) → parent_lower_port net h ≡ true
  unfolding parent_lower_port
  parent_is_lower all =
      of_parent_lem net (λ g. ltb (hop_at net g).port (hop_at net h).port) h (λ g e. lt-ltb (hop_at net g).port (hop_at net h).port (all g e))

  pub parent_was_lower : (g : ℕ) → parent_lower_port net h ≡ true → parent_at net h ≡ Some g → (hop_at net g).port < (hop_at net h).port
  unfolding parent_lower_port
  parent_was_lower g t e =
      ltb-true (hop_at net g).port (hop_at net h).port (of_parent_was net (λ g. ltb (hop_at net g).port (hop_at net h).port) h g t e)

  pub is_twin : (g : ℕ) → (hop_at net g).vl ≡ (hop_at net h).vl → (hop_at net g).port ≡ (hop_at net h).port → twin_of net h g ≡ true
  unfolding twin_of
  is_twin g v p = rw (eq-eqb (hop_at net g).vl (hop_at net h).vl v, eq-eqb (hop_at net g).port (hop_at net h).port p)

  pub was_twin : (g : ℕ) → twin_of net h g ≡ true → ((hop_at net g).vl ≡ (hop_at net h).vl) × ((hop_at net g).port ≡ (hop_at net h).port)
  unfolding twin_of
  was_twin g e =
      let both = (and-eq-true_iff (eqb (hop_at net g).vl (hop_at net h).vl) (eqb (hop_at net g).port (hop_at net h).port)).0 e in
      (eqb-true (hop_at net g).vl (hop_at net h).vl both.0, eqb-true (hop_at net g).port (hop_at net h).port both.1)

  pub no_twin_before :
      ((g : ℕ) → g < h → (hop_at net g).vl ≡ (hop_at net h).vl → (hop_at net g).port ≡ (hop_at net h).port → ⊥) → no_earlier_twin net h ≡ true
  unfolding no_earlier_twin
  no_twin_before apart = ap not (none_is (least_from (twin_of net h) 0 h) (least_none (twin_of net h) 0 h (λ g a b. go g (omega arith) (twin_of net h g) refl)))
    where
      go : (g : ℕ) → g < h → (t : Bool) → twin_of net h g ≡ t → twin_of net h g ≡ false
      go g l true e = let w = was_twin g e in absurd (apart g l w.0 w.1)
      go g l false e = e

  pub no_twin_was_before :
      (g : ℕ) → no_earlier_twin net h ≡ true → g < h → (hop_at net g).vl ≡ (hop_at net h).vl → (hop_at net g).port ≡ (hop_at net h).port → ⊥
  unfolding no_earlier_twin
  no_twin_was_before g t l v p =
      let o = least_from (twin_of net h) 0 h in
      let e = none_was (twin_of net h) 0 h g (is_none_was o (not-true (is_some o) t)) (omega arith) (omega arith) in
      true≢false (sym (is_twin g v p) ∙ e)

  pub not_too_deep_lem : route_longer net 8 h ≡ false → not_too_deep net h ≡ true
  unfolding not_too_deep
  not_too_deep_lem e = ap not e

  pub not_too_deep_was : not_too_deep net h ≡ true → route_longer net 8 h ≡ false
  unfolding not_too_deep
  not_too_deep_was e = not-true (route_longer net 8 h) e

-- ---- samples
module _ (net : Network) (s : ℕ) where
  abbrev packets_of_stream : ℕ
  packets_of_stream = packets (stream_at net s).size (vl_at net (stream_at net s).vl).lmax

  pub one_sample_lem : ((stream_at net s).sampling ≡ true → packets_of_stream ≤ 1) → one_sample net s ≡ true
  unfolding one_sample
  one_sample_lem fits = go (stream_at net s).sampling refl
    where
      go : (b : Bool) → (stream_at net s).sampling ≡ b → not b || leb packets_of_stream 1 ≡ true
      go true e = le-leb packets_of_stream 1 (fits e)
      go false e = refl

  pub one_sample_was : one_sample net s ≡ true → (stream_at net s).sampling ≡ true → packets_of_stream ≤ 1
  unfolding one_sample
  one_sample_was t e = leb-true packets_of_stream 1 (sym (ap (λ (b : Bool). not b || leb packets_of_stream 1) e) ∙ t)

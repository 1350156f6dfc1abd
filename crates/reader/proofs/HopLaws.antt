-- The tests of a hop together, as the first that fails of its row; and the sampling rule.
-- Assumes nothing.
use Prim.Native.Nat.{ℕ, suc, ◌-◌, ◌≤◌, ◌<◌}
use mathlib.Core.Bool.{Bool, true, false, not}
use Rattle.std.specs.Prelude.{Option, None, Some}
use Rattle.std.proofs.lemmas.Option.{none-some, same_Some}
use mathlib.Core.Path.{◌≡◌, refl, sym, ap, ◌∙◌}
use native.Mathlib.Omega.{arith}
use borrow.Author.Tests.{lt-ltb, le-ltb}
use lib.Dec.{ltb, leb}
use lib.ListN.{length}
use Rattle.base.specs.Pick.{pick}
use Rattle.frame.specs.Packets.{packets}
use Rattle.frame.specs.Offered.{packets_of}
use Rattle.frame.proofs.PacketLaws.{packets_given}
use Rattle.network.specs.declared.Hop.{Hop}
use Rattle.network.specs.Network.{Network, vl_at, stream_at, hop_at, parent_at}
use Rattle.network.specs.References.{hop_names_vl, names_port, parent_earlier, parent_same_vl, parent_lower_port, no_earlier_twin, route_longer, not_too_deep, ref_fault, one_sample}
use Rattle.network.proofs.ReferenceLaws.{hop_row_lem}
use Rattle.network.proofs.RouteLaws.{root_not_longer, child_longer}
use Rattle.network.proofs.TestsAre.{hop_names_vl_is, names_port_is, hop_fails_0, hop_fails_1, hop_fails_2, hop_fails_3, hop_fails_4, hop_fails_5, hop_fails_6, one_sample_is, not_too_deep_is, nothing_shorter}
use Rattle.reader.specs.Referring.{parent_fault, Named}

-- ---- the tests of the parent
abbrev first_of : Bool → Bool → Bool → Option ℕ
first_of a b d = pick a (pick b (pick d None (Some 4)) (Some 3)) (Some 2)

all_of : (a b d : Bool) → None ≡ first_of a b d → (a ≡ true) × (b ≡ true) × (d ≡ true)
all_of true true true e = (refl, refl, refl)
all_of true true false e = absurd (none-some 4 e)
all_of true false d e = absurd (none-some 3 e)
all_of false b d e = absurd (none-some 2 e)

-- ---- a hop as it was read
module _ (net : Network) (h : ℕ) (hop : Hop) (read : hop ≡ hop_at net h) where
  vl_tested : hop_names_vl net h ≡ ltb hop.vl (length net.vls)
  vl_tested = hop_names_vl_is net h ∙ ap (λ (x : Hop). ltb x.vl (length net.vls)) (sym read)

  port_tested : names_port net h ≡ ltb hop.port (length net.ports)
  port_tested = names_port_is net h ∙ ap (λ (x : Hop). ltb x.port (length net.ports)) (sym read)

  pub hop_no_vl : length net.vls ≤ hop.vl → Some 0 ≡ ref_fault net 5 h
  hop_no_vl m = sym (hop_fails_0 net h (vl_tested ∙ le-ltb _ _ m))

  module _ (vl : hop.vl < length net.vls) where
    names_vl : hop_names_vl net h ≡ true
    names_vl = vl_tested ∙ lt-ltb _ _ vl

    pub hop_no_port : length net.ports ≤ hop.port → Some 1 ≡ ref_fault net 5 h
    hop_no_port m = sym (hop_fails_1 net h names_vl (port_tested ∙ le-ltb _ _ m))

    module _ (port : hop.port < length net.ports) where
      names_the_port : names_port net h ≡ true
      names_the_port = port_tested ∙ lt-ltb _ _ port

      pub hop_bad_parent : (test : ℕ) → Some test ≡ parent_fault net h → Some test ≡ ref_fault net 5 h
      unfolding parent_fault
      hop_bad_parent test e = go (parent_earlier net h) (parent_same_vl net h) (parent_lower_port net h) refl refl refl e
        where
          go : (a b d : Bool) → parent_earlier net h ≡ a → parent_same_vl net h ≡ b → parent_lower_port net h ≡ d → Some test ≡ first_of a b d
              → Some test ≡ ref_fault net 5 h
          go false b d ea eb ed is = is ∙ sym (hop_fails_2 net h names_vl names_the_port ea)
          go true false d ea eb ed is = is ∙ sym (hop_fails_3 net h names_vl names_the_port ea eb)
          go true true false ea eb ed is = is ∙ sym (hop_fails_4 net h names_vl names_the_port ea eb ed)
          go true true true ea eb ed is = absurd (none-some test (sym is))

      module _ (none-bad : None ≡ parent_fault net h) where
        parent_passes : (parent_earlier net h ≡ true) × (parent_same_vl net h ≡ true) × (parent_lower_port net h ≡ true)
        unfolding parent_fault
        parent_passes = all_of (parent_earlier net h) (parent_same_vl net h) (parent_lower_port net h) none-bad

        pub hop_twin : false ≡ no_earlier_twin net h → Some 5 ≡ ref_fault net 5 h
        hop_twin t = let a = parent_passes in sym (hop_fails_5 net h names_vl names_the_port a.0 a.1 a.2 (sym t))

        pub hop_deep : true ≡ no_earlier_twin net h → false ≡ not_too_deep net h → Some 6 ≡ ref_fault net 5 h
        hop_deep t d =
            let a = parent_passes in
            sym (hop_fails_6 net h names_vl names_the_port a.0 a.1 a.2 (sym t) (sym d))

        pub hop_good : true ≡ no_earlier_twin net h → true ≡ not_too_deep net h → None ≡ ref_fault net 5 h
        hop_good t d =
            let a = parent_passes in
            sym
            (hop_row_lem net h
            record {
              vl = names_vl;
              port = names_the_port;
              earlier = a.0;
              same_vl = a.1;
              lower_port = a.2;
              no_twin = sym t;
              not_deep = sym d;
            })

-- the route is followed for 8 hops: it ends, it goes on with the parent, or it is too long
module _ (net : Network) (h n g : ℕ) (left : 0 < n) (so_far : route_longer net 8 h ≡ route_longer net n g) where
  one_of : route_longer net n g ≡ route_longer net (suc (n - 1)) g
  one_of = let e : n ≡ suc (n - 1) = omega arith in ap (λ (m : ℕ). route_longer net m g) e

  pub route_ends : parent_at net g ≡ None → true ≡ not_too_deep net h
  route_ends root = sym (not_too_deep_is net h ∙ ap not (so_far ∙ one_of ∙ root_not_longer net (n - 1) g root))

  pub route_goes_on : (p : ℕ) → parent_at net g ≡ Some p → route_longer net 8 h ≡ route_longer net (n - 1) p
  route_goes_on p is = so_far ∙ one_of ∙ child_longer net (n - 1) g p is

pub route_too_long : (net : Network) (h n g : ℕ) → n ≤ 0 → route_longer net 8 h ≡ route_longer net n g → false ≡ not_too_deep net h
route_too_long net h n g l e =
    let z : n ≡ 0 = omega arith in
    sym (not_too_deep_is net h ∙ ap not (e ∙ ap (λ (m : ℕ). route_longer net m g) z ∙ nothing_shorter net g))

-- ---- samples
module _ (net : Network) (s : ℕ) (named : Named net) (h : s < length net.streams) where
  abbrev m : ℕ
  m = (stream_at net s).size

  abbrev lmax : ℕ
  lmax = (vl_at net (stream_at net s).vl).lmax

  given : packets_of m lmax ≡ Some (packets m lmax)
  given =
      let vl = named.ranges.vl (stream_at net s).vl (named.vl s h) in
      let stream = named.ranges.stream s h in
      packets_given m lmax vl.lmax_least vl.lmax_greatest (omega (arith, stream)) stream.size_greatest

  pub not_sampling : (stream_at net s).sampling ≡ false → true ≡ one_sample net s
  not_sampling e = sym (one_sample_is net s ∙ rw e)

  -- the packets of a sampling message, as they were counted
  module _ (sampling : (stream_at net s).sampling ≡ true) (o : Option ℕ) (told : o ≡ packets_of m lmax) where
    pub sample_counted : (n : ℕ) → o ≡ Some n → leb n 1 ≡ one_sample net s
    sample_counted n is =
        let same = same_Some _ _ (sym given ∙ sym told ∙ is) in
        sym (one_sample_is net s ∙ rw (sampling, same))

    pub sample_asked : o ≡ None → ⊥
    sample_asked is = none-some _ (sym is ∙ told ∙ given)

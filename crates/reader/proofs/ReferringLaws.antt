-- The tests of references over a network: each comparison of the code, as the named test that it decides and the first that fails of the row.
-- Assumes nothing.
use Prim.Native.Nat.{ℕ, ◌≤◌, ◌<◌}
use mathlib.Core.Bool.{true, false, ◌&&◌}
use Rattle.std.specs.Prelude.{None, Some}
use mathlib.Core.Logic.{◌⊎◌, ⊎_elim}
use mathlib.Core.Path.{◌≡◌, sym, ap, ap₂, ◌∙◌}
use native.Mathlib.Omega.{arith}
use borrow.Author.Tests.{lt-ltb, le-ltb, eq-eqb, ne_eqb}
use lib.Dec.{ltb, eqb}
use lib.ListN.{length}
use Rattle.network.specs.declared.Vl.{Vl}
use Rattle.network.specs.declared.Stream.{Stream}
use Rattle.network.specs.Network.{Network, vl_at, stream_at, hop_at, parent_at}
use Rattle.network.specs.References.{names_system, has_hop, stream_names_vl, names_sub_link, parent_earlier, twin_of, ref_fault}
use Rattle.network.proofs.ReferenceTests.{has_hop_lem}
use Rattle.network.proofs.ReferenceLaws.{vl_row, stream_row_lem}
use Rattle.network.proofs.TestsAre.{names_system_is, stream_names_vl_is, names_sub_link_is, no_parent_earlier, parent_earlier_is, no_parent_same_vl, parent_same_vl_is, no_parent_lower, parent_lower_is, no_hop_lem, vl_fails_0, vl_fails_1, stream_fails_0, stream_fails_1}
use Rattle.network.specs.declared.Hop.{Hop}
use Rattle.sheet.specs.declared.Sheet.{Sheet}
use Rattle.sheet.specs.Sheet.{network_on}
use Rattle.sheet.specs.Walks.{hop_row}
use Rattle.sheet.proofs.WalkLaws.{hop_row_lem}
use Rattle.reader.specs.Referring.{parent_fault}

module _ (net : Network) where
  -- ---- VLs, as they were read
  module _ (v : ℕ) (vl : Vl) (read : vl ≡ vl_at net v) where
    system_tested : names_system net v ≡ ltb vl.system (length net.systems)
    system_tested = names_system_is net v ∙ ap (λ (x : Vl). ltb x.system (length net.systems)) (sym read)

    pub vl_no_system : length net.systems ≤ vl.system → Some 0 ≡ ref_fault net 2 v
    vl_no_system l = sym (vl_fails_0 net v (system_tested ∙ le-ltb _ _ l))

    module _ (l : vl.system < length net.systems) where
      pub vl_no_hop : false ≡ has_hop net v → Some 1 ≡ ref_fault net 2 v
      vl_no_hop e = sym (vl_fails_1 net v (system_tested ∙ lt-ltb _ _ l) (sym e))

      pub vl_good : true ≡ has_hop net v → None ≡ ref_fault net 2 v
      vl_good e = sym (vl_row net v (system_tested ∙ lt-ltb _ _ l) (sym e))

  -- ---- streams, as they were read
  module _ (s : ℕ) (stream : Stream) (read : stream ≡ stream_at net s) where
    vl_tested : stream_names_vl net s ≡ ltb stream.vl (length net.vls)
    vl_tested = stream_names_vl_is net s ∙ ap (λ (x : Stream). ltb x.vl (length net.vls)) (sym read)

    pub stream_no_vl : length net.vls ≤ stream.vl → Some 0 ≡ ref_fault net 3 s
    stream_no_vl l = sym (stream_fails_0 net s (vl_tested ∙ le-ltb _ _ l))

    module _ (named : stream.vl < length net.vls) (vl : Vl) (of : vl ≡ vl_at net stream.vl) where
      sub_link_tested : names_sub_link net s ≡ ltb stream.sublink vl.sublinks
      sub_link_tested =
          names_sub_link_is net s
          ∙ ap (λ (x : Stream). ltb x.sublink (vl_at net x.vl).sublinks) (sym read)
          ∙ ap (λ (x : Vl). ltb stream.sublink x.sublinks) (sym of)

      pub stream_no_sub_link : vl.sublinks ≤ stream.sublink → Some 1 ≡ ref_fault net 3 s
      stream_no_sub_link l = sym (stream_fails_1 net s (vl_tested ∙ lt-ltb _ _ named) (sub_link_tested ∙ le-ltb _ _ l))

      pub stream_good : stream.sublink < vl.sublinks → None ≡ ref_fault net 3 s
      stream_good l = sym (stream_row_lem net s (vl_tested ∙ lt-ltb _ _ named) (sub_link_tested ∙ lt-ltb _ _ l))

  -- ---- a hop's parent
  module _ (h : ℕ) where
    pub parent_nothing : parent_at net h ≡ None → None ≡ parent_fault net h
    unfolding parent_fault
    parent_nothing root = rw (no_parent_earlier net h root, no_parent_same_vl net h root, no_parent_lower net h root)

    module _ (g : ℕ) (is : parent_at net h ≡ Some g) where
      pub parent_later : h ≤ g → Some 2 ≡ parent_fault net h
      unfolding parent_fault
      parent_later late = rw (parent_earlier_is net h g is ∙ le-ltb _ _ late)

      module _ (early : g < h) where
        earlier : parent_earlier net h ≡ true
        earlier = parent_earlier_is net h g is ∙ lt-ltb _ _ early

        pub parent_of_other : ((hop_at net g).vl ≡ (hop_at net h).vl → ⊥) → Some 3 ≡ parent_fault net h
        unfolding parent_fault
        parent_of_other differs = rw (earlier, parent_same_vl_is net h g is ∙ ne_eqb _ _ differs)

        module _ (same : (hop_at net g).vl ≡ (hop_at net h).vl) where
          pub parent_not_lower : (hop_at net h).port ≤ (hop_at net g).port → Some 4 ≡ parent_fault net h
          unfolding parent_fault
          parent_not_lower high = rw (earlier, parent_same_vl_is net h g is ∙ eq-eqb _ _ same, parent_lower_is net h g is ∙ le-ltb _ _ high)

          pub parent_good : (hop_at net g).port < (hop_at net h).port → None ≡ parent_fault net h
          unfolding parent_fault
          parent_good low = rw (earlier, parent_same_vl_is net h g is ∙ eq-eqb _ _ same, parent_lower_is net h g is ∙ lt-ltb _ _ low)

-- ---- what a walk over the hops reads
module _ (sheet : Sheet) where
  abbrev net_on : Network
  net_on = network_on sheet

  module _ (v h : ℕ) (row : h < length net_on.hops) (hop : Hop) (read : hop ≡ hop_row sheet h) where
    pub hop_of : hop.vl ≡ v → true ≡ has_hop net_on v
    hop_of e =
        let is : (hop_at net_on h).vl ≡ v = ap (λ (x : Hop). x.vl) (sym (read ∙ hop_row_lem sheet h row)) ∙ e in
        sym (has_hop_lem net_on v (record { at = h; row = row; on_vl = is }))

    pub hop_of_other : (hop.vl ≡ v → ⊥) → (hop_at net_on h).vl ≡ v → ⊥
    hop_of_other other e = other (ap (λ (x : Hop). x.vl) (read ∙ hop_row_lem sheet h row) ∙ e)

  pub no_hop : (v : ℕ) → ((h : ℕ) → h < length net_on.hops → (hop_at net_on h).vl ≡ v → ⊥) → false ≡ has_hop net_on v
  no_hop v apart = sym (no_hop_lem net_on v apart)

  module _ (h g : ℕ) (row : h < length net_on.hops) (early : g < h) (hop other : Hop) (read : hop ≡ hop_row sheet h) (other_read : other ≡ hop_row sheet g) where
    twin_read : twin_of net_on h g ≡ eqb other.vl hop.vl && eqb other.port hop.port
    unfolding twin_of
    twin_read =
        sym
        (ap₂ (λ (x y : Hop). eqb y.vl x.vl && eqb y.port x.port) (read ∙ hop_row_lem sheet h row) (other_read ∙ hop_row_lem sheet g (omega arith)))

    pub twin : other.vl ≡ hop.vl → other.port ≡ hop.port → twin_of net_on h g ≡ true
    twin same_vl same_port = twin_read ∙ rw (eq-eqb _ _ same_vl, eq-eqb _ _ same_port)

    pub not_twin : ((other.vl ≡ hop.vl) × (other.port ≡ hop.port → ⊥)) ⊎ (other.vl ≡ hop.vl → ⊥) → twin_of net_on h g ≡ false
    not_twin differs =
        twin_read ∙ ⊎_elim (λ p. rw (eq-eqb _ _ p.0, ne_eqb other.port hop.port p.1)) (λ vl. rw (ne_eqb other.vl hop.vl vl)) differs

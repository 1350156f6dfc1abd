-- The records that are read off a good sheet keep to their ranges and name rows that are there. One law for each kind of record, of a record that is the network's.
-- Assumes nothing.
use Prim.Native.Nat.{ℕ, ◌≤◌, ◌<◌}
use mathlib.Core.Path.{◌≡◌, sym, ap, ◌∙◌}
use native.Mathlib.Omega.{arith}
use Rattle.std.specs.Prelude.{Option}
use lib.ListN.{length}
use Rattle.network.specs.declared.EndSystem.{EndSystem}
use Rattle.network.specs.declared.Vl.{Vl}
use Rattle.network.specs.declared.Stream.{Stream}
use Rattle.network.specs.declared.Port.{Port}
use Rattle.network.specs.declared.Hop.{Hop}
use Rattle.network.specs.Network.{Network, system_at, vl_at, stream_at, port_at, hop_at, parent_at}
use Rattle.network.specs.Ranges.{VlRange, StreamRange}
use Rattle.sheet.specs.declared.Delays.{Delays}
use Rattle.sheet.specs.declared.Sheet.{Sheet}
use Rattle.sheet.specs.Sheet.{network_on, Good, delays_in}
use Rattle.sheet.specs.Walks.{stream_row, hop_row}
use Rattle.sheet.proofs.WalkLaws.{stream_row_lem, hop_row_lem}
use Rattle.figures.specs.Computing.{DelayRange, PortRange, OnLink}
use Rattle.figures.proofs.BoundLaws.{per_byte_bounds}

module _ {sheet : Sheet} (good : Good sheet) where
  pub delays_range : {d : Delays} → d ≡ delays_in (network_on sheet) → DelayRange d
  delays_range is =
      let ranges = good.ranges in
      rw is record {
        send_ordered = ranges.send_least_lem;
        send_bound = ranges.send_greatest_lem;
        receive_ordered = ranges.receive_least_lem;
        receive_bound = ranges.receive_greatest_lem;
      }

  pub system_range : {e : ℕ} {r : EndSystem} → r ≡ system_at (network_on sheet) e → e < length (network_on sheet).systems
      → (1 ≤ r.perbyte) × (r.perbyte ≤ 10)
  system_range {e} {r} is h = rw is (per_byte_bounds (system_at (network_on sheet) e).perbyte (good.ranges.system e h))

  pub vl_range : {v : ℕ} {r : Vl} → r ≡ vl_at (network_on sheet) v → v < length (network_on sheet).vls → VlRange r
  vl_range {v} is h = rw is (good.ranges.vl v h)

  pub vl_system : {v : ℕ} {r : Vl} → r ≡ vl_at (network_on sheet) v → v < length (network_on sheet).vls → r.system < length (network_on sheet).systems
  vl_system {v} is h = rw is (good.references.vl_system v h)

  -- on its end system's link, and on a port's
  pub vl_on_link : {v : ℕ} {r : Vl} {x : EndSystem} → r ≡ vl_at (network_on sheet) v → v < length (network_on sheet).vls → x ≡ system_at (network_on sheet) r.system
      → OnLink r x.perbyte
  vl_on_link is h on =
      let bounds = system_range on (vl_system is h) in
      record { vl_range = vl_range is h; per_byte_least = bounds.0; per_byte_greatest = bounds.1 }

  pub stream_range : {s : ℕ} {r : Stream} → r ≡ stream_at (network_on sheet) s → s < length (network_on sheet).streams → StreamRange r
  stream_range {s} is h = rw is (good.ranges.stream s h)

  pub stream_vl : {s : ℕ} {r : Stream} → r ≡ stream_at (network_on sheet) s → s < length (network_on sheet).streams → r.vl < length (network_on sheet).vls
  stream_vl {s} is h = rw is (good.references.stream_vl s h)

  pub stream_sub_link : {s : ℕ} {r : Stream} → r ≡ stream_at (network_on sheet) s → s < length (network_on sheet).streams
      → (r.sublink < (vl_at (network_on sheet) r.vl).sublinks) × (r.sublink < 4)
  stream_sub_link {s} is h =
      let refs = good.references in
      rw is
      (refs.stream_sub_link s h, omega (arith, refs.stream_sub_link s h, (good.ranges.vl (stream_at (network_on sheet) s).vl (refs.stream_vl s h)).sub_links_greatest))

  pub port_range : {p : ℕ} {r : Port} → r ≡ port_at (network_on sheet) p → p < length (network_on sheet).ports → PortRange r
  port_range {p} is h =
      let range = good.ranges.port p h in
      let bounds = per_byte_bounds (port_at (network_on sheet) p).perbyte range.per_byte_says in
      rw is record {
        per_byte_least = bounds.0;
        per_byte_greatest = bounds.1;
        ordered = range.delay_least;
        delay_greatest = range.delay_greatest;
      }

  -- a VL's frames on a port's link
  pub vl_on_port : {v p : ℕ} {r : Vl} {x : Port} → r ≡ vl_at (network_on sheet) v → v < length (network_on sheet).vls → x ≡ port_at (network_on sheet) p
      → p < length (network_on sheet).ports → OnLink r x.perbyte
  vl_on_port is h on there =
      let bounds = port_range on there in
      record { vl_range = vl_range is h; per_byte_least = bounds.per_byte_least; per_byte_greatest = bounds.per_byte_greatest }

  -- a row that was read in a walk
  pub hop_walked : {h : ℕ} {r : Hop} → r ≡ hop_row sheet h → h < length (network_on sheet).hops → r ≡ hop_at (network_on sheet) h
  hop_walked {h} is row = is ∙ hop_row_lem sheet h row

  pub stream_walked : {s : ℕ} {r : Stream} → r ≡ stream_row sheet s → s < length (network_on sheet).streams → r ≡ stream_at (network_on sheet) s
  stream_walked {s} is row = is ∙ stream_row_lem sheet s row

  pub hop_names : {h : ℕ} {r : Hop} → r ≡ hop_at (network_on sheet) h → h < length (network_on sheet).hops
      → (r.vl < length (network_on sheet).vls) × (r.port < length (network_on sheet).ports)
  hop_names {h} is row = rw is (good.references.hop_vl h row, good.references.hop_port h row)

-- the parent of a hop that was read
pub parent_read : (net : Network) (h : ℕ) {r : Hop} {x : Option ℕ} → r ≡ hop_at net h → r.parent ≡ x → parent_at net h ≡ x
parent_read net h is e = ap (λ (r : Hop). r.parent) (sym is) ∙ e

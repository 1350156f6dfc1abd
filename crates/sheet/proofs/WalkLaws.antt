-- What a walk over the rows reads is below the count the network's record: both are the one that stands there.
-- Assumes nothing.
use Prim.Native.Nat.{ℕ, ◌<◌}
use mathlib.Core.Path.{◌≡◌, refl, sym, ◌∙◌}
use native.Mathlib.Omega.{arith}
use lib.ListN.{length}
use Rattle.layout.specs.Limits.{most}
use Rattle.network.specs.Network.{stream_at, hop_at}
use Rattle.sheet.specs.declared.Sheet.{Sheet}
use Rattle.sheet.specs.Sheet.{count_on, count_for, network_on}
use Rattle.sheet.specs.Walks.{stream_row, hop_row}
use Rattle.sheet.proofs.SheetLaws.{stream_read, hop_read, streams_on_lem, hops_on_lem}

module _ (sheet : Sheet) where
  pub stream_row_lem : (s : ℕ) → s < length (network_on sheet).streams → stream_row sheet s ≡ stream_at (network_on sheet) s
  unfolding stream_row network_on count_on count_for
  stream_row_lem s h =
      let few = streams_on_lem sheet in
      sym (stream_read most sheet s (omega arith)) ∙ stream_read (count_on sheet) sheet s (omega arith)

  pub hop_row_lem : (h : ℕ) → h < length (network_on sheet).hops → hop_row sheet h ≡ hop_at (network_on sheet) h
  unfolding hop_row network_on count_on count_for
  hop_row_lem h l =
      let few = hops_on_lem sheet in
      sym (hop_read most sheet h _ (omega arith) refl) ∙ hop_read (count_on sheet) sheet h _ (omega arith) refl

-- A count of rows has at most 12 bits, whatever the bytes.
-- Assumes nothing.
use mathlib.Core.List.{List}
use Prim.Native.Nat.{ℕ, ◌^◌, ◌≤◌, ◌<◌}
use native.Mathlib.Omega.{arith}
use lib.Dec.{leb, leb→le}
use lib.ListN.{get_or}
use Rattle.base.proofs.Every.{at}
use Rattle.bits.proofs.PartLaws.{fit_at}
use Rattle.layout.specs.Layout.{layout_in, widths}
use Rattle.layout.specs.Rows.{row_at}
use Rattle.layout.proofs.LayoutLaws.{length_widths, header_fields}
use Rattle.layout.proofs.RoomLaws.{row_fits}

few_bits : (s : ℕ) → s < 6 → 2 ^ get_or (widths 0) s 0 ≤ 4096
unfolding widths layout_in
few_bits s h = leb→le _ _ (at (λ k. leb (2 ^ get_or (widths 0) k 0) 4096) 6 tt s h)

pub count_lt : (bytes : List ℕ) (a s : ℕ) → s < 6 → get_or (row_at bytes a 0) s 0 < 4096
count_lt bytes a s h =
    omega (arith, few_bits s h, fit_at (widths 0) (row_at bytes a 0) s (row_fits bytes a 0) (omega (arith, length_widths 0, header_fields)))

-- The numbers of a section's records are what the rows of the table mean, and so are in their ranges where the rows are good.
-- Assumes nothing.
use Prim.Native.Nat.{ℕ, ◌+◌, ◌*◌, ◌<◌}
use mathlib.Core.List.{List}
use native.Mathlib.Omega.{arith}
use Rattle.layout.specs.declared.Way.TheVariants.{Reading}
use Rattle.bits.specs.Tables.{Fit}
use Rattle.layout.specs.Layout.{layout, widths, size}
use Rattle.layout.specs.Rows.{converted}
use Rattle.layout.proofs.RoomLaws.{row_fits}
use Rattle.layout.proofs.PlainLaws.{PlainEndSystem, end_system_plain, PlainVl, vl_plain, PlainStream, stream_plain, PlainPort, port_plain}
use Rattle.table.specs.Sections.{version, kind_in, rows, from, row}
use Rattle.table.proofs.AnswerLaws.{Sound}
use Rattle.table.proofs.UnpackLaws.{sound_rows}

-- ---- the numbers of a section's records
module _ (bytes : List ℕ) where
  -- a row that is read fits its fields
  fit_row : (s i : ℕ) → Fit (widths (kind_in bytes s)) (row bytes s i)
  unfolding row
  fit_row s i = row_fits bytes (8 * (from bytes s + i * size (kind_in bytes s))) (kind_in bytes s)

  -- ---- the rows in plain facts
  module _ (sound : Sound bytes) (i : ℕ) where
    pub system_row : i < rows bytes 1 → PlainEndSystem (converted Reading (layout (kind_in bytes 1)) (row bytes 1 i))
    system_row h = end_system_plain (version bytes) (row bytes 1 i) (sound_rows bytes sound 1 i (omega arith) h)

    pub vl_row : i < rows bytes 2 → PlainVl (converted Reading (layout (kind_in bytes 2)) (row bytes 2 i))
    vl_row h = vl_plain (version bytes) (row bytes 2 i) (sound_rows bytes sound 2 i (omega arith) h) (fit_row 2 i)

    pub stream_row_lem : i < rows bytes 3 → PlainStream (converted Reading (layout (kind_in bytes 3)) (row bytes 3 i))
    stream_row_lem h = stream_plain (version bytes) (row bytes 3 i) (sound_rows bytes sound 3 i (omega arith) h) (fit_row 3 i)

    pub port_row : i < rows bytes 4 → PlainPort (converted Reading (layout (kind_in bytes 4)) (row bytes 4 i))
    port_row h = port_plain (version bytes) (row bytes 4 i) (sound_rows bytes sound 4 i (omega arith) h)

-- `layout::rows::put_row` meets its contract: after k turns the first k fields are written, and the cursor is behind them.
-- Assumes nothing.
use mathlib.Core.Path.{◌≡◌}
use Prim.Native.Nat.{◌+◌}
use lib.ListN.{take}
use Rattle.base.specs.Tabulate.{total}
use Rattle.bits.specs.Rows.{put_all}
use Rattle.layout.specs.Layout.{widths}
use Rattle.layout.proofs.rows.put_row.Given as goal

abbrev pub invariant-loop-k : goal.invariant-loop-k
invariant-loop-k l = (l.cursor.at ≡ l.at + total (take l.k (widths l.kind))) × (l.table ≡ put_all l.initial.table l.at (take l.k (widths l.kind)) (take l.k l.row))

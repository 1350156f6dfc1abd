-- `layout::rows::read_row` meets its contract: after k turns the first k fields stand in the array, and the cursor behind them.
-- Assumes nothing.
use mathlib.Core.Path.{◌≡◌}
use Prim.Native.Nat.{◌+◌}
use lib.ListN.{take}
use Rattle.base.specs.Tabulate.{total}
use Rattle.bits.specs.Rows.{read_all}
use Rattle.layout.specs.Layout.{widths}
use Rattle.layout.specs.Promises.{wide}
use Rattle.layout.proofs.rows.read_row.Given as goal

abbrev pub invariant-loop-k : goal.invariant-loop-k
invariant-loop-k l = (l.cursor.at ≡ l.at + total (take l.k (widths l.kind))) × (l.row ≡ wide (take l.k (read_all l.table l.at (widths l.kind))))

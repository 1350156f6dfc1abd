-- `layout::rows::converted_row` meets its contract: after k turns the first k numbers stand in the array.
-- Assumes nothing.
use mathlib.Core.Path.{◌≡◌}
use lib.ListN.{take}
use Rattle.layout.specs.Layout.{layout}
use Rattle.layout.specs.Promises.{wide}
use Rattle.layout.specs.Rows.{converted}
use Rattle.layout.proofs.rows.converted_row.Given as goal

abbrev pub invariant-loop-k : goal.invariant-loop-k
invariant-loop-k l = l.out ≡ wide (take l.k (converted l.way (layout l.kind) l.row))

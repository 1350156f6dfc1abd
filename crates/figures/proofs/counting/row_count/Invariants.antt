-- `figures::counting::row_count` meets its contract: after s turns the rows of the first s streams are counted.
-- Assumes nothing.
use mathlib.Core.Path.{◌≡◌}
use Prim.Native.Nat.{◌*◌, ◌≤◌}
use lib.ListN.{length}
use Rattle.rows.specs.Rows.{rows_to}
use Rattle.sheet.specs.Sheet.{network_on}
use Rattle.figures.proofs.counting.row_count.Given as goal

abbrev pub invariant-loop-s : goal.invariant-loop-s
invariant-loop-s l = (l.count ≤ l.s * 4095) × (l.count ≡ length (rows_to (network_on l.net.sheet.now) l.s))

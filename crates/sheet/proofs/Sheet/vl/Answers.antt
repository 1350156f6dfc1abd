-- `Sheet::vl` meets its contract: VL v is the four numbers of its record.
-- Assumes nothing.
use native.Mathlib.Omega.{arith}
use Rattle.sheet.specs.Sheet.{count_on, count_for, network_on}
use Rattle.sheet.proofs.SheetLaws.{vl_read, vls_on}
use Rattle.sheet.proofs.Sheet.vl.Goals as goal

pub returns : goal.returns
unfolding network_on count_on count_for
returns c = let a = c.args in vl_read (count_on a.self.now) a.self.now a.v (omega (arith, vls_on a.self.now))

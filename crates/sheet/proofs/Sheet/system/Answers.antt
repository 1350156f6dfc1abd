-- `Sheet::system` meets its contract: end system e is the speed of its record.
-- Assumes nothing.
use native.Mathlib.Omega.{arith}
use Rattle.sheet.specs.Sheet.{count_on, count_for, network_on}
use Rattle.sheet.proofs.SheetLaws.{system_read, systems_on}
use Rattle.sheet.proofs.Sheet.system.Goals as goal

pub returns : goal.returns
unfolding network_on count_on count_for
returns c =
    let a = c.args in
    system_read (count_on a.self.now) a.self.now a.e _ (omega (arith, systems_on a.self.now)) c.ticks_at.ensures

-- `Sheet::port` meets its contract: port p is the speed and the two delays of its record.
-- Assumes nothing.
use native.Mathlib.Omega.{arith}
use Rattle.sheet.specs.Sheet.{count_on, count_for, network_on}
use Rattle.sheet.proofs.SheetLaws.{port_read, ports_on}
use Rattle.sheet.proofs.Sheet.port.Goals as goal

pub returns : goal.returns
unfolding network_on count_on count_for
returns c =
    let a = c.args in
    port_read (count_on a.self.now) a.self.now a.p _ (omega (arith, ports_on a.self.now)) c.ticks_at.ensures

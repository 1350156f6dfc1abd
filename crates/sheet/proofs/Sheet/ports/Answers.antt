-- `Sheet::ports` meets its contract: as many ports as the sheet says, and no more than it has room for.
-- Assumes nothing.
use native.Mathlib.Omega.{arith}
use Rattle.layout.proofs.SizeLaws.{most_are}
use Rattle.sheet.proofs.SheetLaws.{ports_on}
use Rattle.sheet.proofs.Sheet.ports.Goals as goal

pub returns-clause-is : goal.returns-clause-is
returns-clause-is c = omega (arith, most_are.ports, ports_on c.args.self.now)

-- `Sheet::systems` meets its contract: as many end systems as the sheet says, and no more than it has room for.
-- Assumes nothing.
use native.Mathlib.Omega.{arith}
use Rattle.layout.proofs.SizeLaws.{most_are}
use Rattle.sheet.proofs.SheetLaws.{systems_on}
use Rattle.sheet.proofs.Sheet.systems.Goals as goal

pub returns-clause-is : goal.returns-clause-is
returns-clause-is c = omega (arith, most_are.systems, systems_on c.args.self.now)

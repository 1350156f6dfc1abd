-- `Sheet::vls` meets its contract: as many VLs as the sheet says, and no more than it has room for.
-- Assumes nothing.
use native.Mathlib.Omega.{arith}
use Rattle.layout.proofs.SizeLaws.{most_are}
use Rattle.sheet.proofs.SheetLaws.{vls_on}
use Rattle.sheet.proofs.Sheet.vls.Goals as goal

pub returns-clause-is : goal.returns-clause-is
returns-clause-is c = omega (arith, most_are.vls, vls_on c.args.self.now)

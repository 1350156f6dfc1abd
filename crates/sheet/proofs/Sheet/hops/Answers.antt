-- `Sheet::hops` meets its contract: as many hops as the sheet says, and no more than it has room for.
-- Assumes nothing.
use native.Mathlib.Omega.{arith}
use Rattle.layout.proofs.SizeLaws.{most_are}
use Rattle.sheet.proofs.SheetLaws.{hops_on_lem}
use Rattle.sheet.proofs.Sheet.hops.Goals as goal

pub returns-clause-is : goal.returns-clause-is
returns-clause-is c = omega (arith, most_are.hops, hops_on_lem c.args.self.now)

-- `Sheet::hop` meets its contract: below the count it is the record that stands there.
-- Assumes nothing.
use mathlib.Core.Path.{◌∙◌}
use native.Mathlib.Omega.{arith}
use Rattle.sheet.proofs.WalkLaws.{hop_row_lem}
use Rattle.sheet.proofs.Sheet.hop.Goals as goal

pub returns : goal.returns
returns c = let a = c.args in c.hop_row.ensures ∙ hop_row_lem a.self.now a.h (omega arith)

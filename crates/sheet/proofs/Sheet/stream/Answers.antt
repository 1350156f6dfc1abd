-- `Sheet::stream` meets its contract: below the count it is the record that stands there.
-- Assumes nothing.
use mathlib.Core.Path.{◌∙◌}
use native.Mathlib.Omega.{arith}
use Rattle.sheet.proofs.WalkLaws.{stream_row_lem}
use Rattle.sheet.proofs.Sheet.stream.Goals as goal

pub returns : goal.returns
returns c = let a = c.args in c.stream_row.ensures ∙ stream_row_lem a.self.now a.s (omega arith)

-- What the reader leaves on the lent sheet: the lists of an accepted table, and "Each refusal leaves every lent result all zero".
-- Assumes nothing.
use Rattle.std.specs.Prelude.{ℕ, List, eqb}
use Rattle.base.specs.Pick.{pick}
use Rattle.table.specs.Lists.{unpacked}
use Rattle.table.specs.Read.{read_answer}
use Rattle.sheet.specs.declared.Sheet.{Sheet}
use Rattle.sheet.specs.Sheet.{sheet_of, blank}

unfoldable pub read_sheet : List ℕ → Sheet
read_sheet bytes = pick (eqb (read_answer bytes).number 0) (sheet_of (unpacked bytes)) blank

-- `parser::filling::fill` meets its contract: at each turn the list holds what the lines before the place say, and those from it on say the rest.
-- Assumes nothing.
use Prim.Native.Nat.{◌+◌, ◌-◌}
use lib.ListN.{length}
use Rattle.notation.specs.Meant.{section_in, text_lines}
use Rattle.notation.specs.Steps.{fields_of, lines_from}
use Rattle.parser.proofs.FillLaws.{Filling}
use Rattle.parser.proofs.filling.fill.Given as goal

abbrev pub invariant-loop-at : goal.invariant-loop-at
invariant-loop-at l = Filling (fields_of l.section) (length l.fn.list) (section_in l.version l.section (text_lines l.text)) l.list l.put (section_in l.version l.section (lines_from l.text l.at))

abbrev pub decreases-loop-at : goal.decreases-loop-at
decreases-loop-at l = length l.text + 1 - l.at

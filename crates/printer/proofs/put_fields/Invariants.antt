-- `printer::put_fields` meets its contract: after k turns the first k numbers are put in words.
-- Assumes nothing.
use Rattle.std.proofs.Common.{take}
use Rattle.words.specs.Printed.{line_from}
use Rattle.text.specs.Gains.{Gains}
use Rattle.notation.specs.Notation.{line_fields}
use Rattle.notation.specs.Printed.{fields_words}
use Rattle.printer.proofs.put_fields.Given as goal

abbrev pub invariant-loop-k : goal.invariant-loop-k
invariant-loop-k l = Gains l.initial.text (line_from (fields_words (line_fields l.version l.section) (take l.k l.numbers))) l.text

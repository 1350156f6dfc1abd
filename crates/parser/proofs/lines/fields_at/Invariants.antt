-- `parser::lines::fields_at` meets its contract: at each turn the first k fields are said, and the words from the place on say the rest.
-- Assumes nothing.
use Rattle.parser.proofs.FieldsLaws.{Reading}
use Rattle.parser.proofs.lines.fields_at.Given as goal

abbrev pub invariant-loop-k : goal.invariant-loop-k
invariant-loop-k l = Reading l.text l.at l.end l.version l.section l.numbers l.k l.place

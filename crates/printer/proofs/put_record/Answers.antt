-- `printer::put_record` meets its contract: the keyword, the words of the fields, and the line feed.
-- Assumes nothing.
use Rattle.words.specs.Printed.{line_of}
use Rattle.notation.specs.Printed.{line_words}
use Rattle.text.proofs.GainLaws.{gains_more}
use Rattle.printer.proofs.put_record.Goals as goal

pub returns : goal.returns
unfolding line_of line_words
returns c =
    gains_more _ _ _ _ _ (gains_more _ _ _ _ _ c.put_keyword.ensures c.put_fields.ensures) c.put_byte.ensures

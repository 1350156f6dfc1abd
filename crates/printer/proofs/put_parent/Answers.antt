-- `printer::put_parent` meets its contract: `none` for 0, and else `after` and the row, which is one less.
-- Assumes nothing.
use Rattle.std.proofs.Common.{◌∷◌, arith}
use Rattle.words.specs.Printed.{line_from}
use Rattle.text.proofs.GainLaws.{gains_more}
use Rattle.notation.specs.Notation.{none_word, after_word, parent_words}
use Rattle.notation.proofs.PrintedLaws.{parent_after}
use Rattle.printer.proofs.put_parent.Goals as goal

pub returns-in-0 : goal.returns-in-0
unfolding parent_words none_word line_from
returns-in-0 c = rw c.in-0.is c.put_bytes.ensures

pub returns-in_default : goal.returns-in_default
unfolding after_word
returns-in_default c =
    rw (parent_after c.args.n (omega arith))
    (gains_more _ _ _ (32 ∷ after_word) _ c.put_bytes-in_default.ensures c.put_spaced_number.ensures)

-- `writer::source::row_of` meets its contract: the header is the one row of section 0, and the records are those of the sections behind it.
-- Assumes nothing.
use Rattle.std.proofs.Common.{arith, rules, sym, ap, ◌∙◌}
use Rattle.layout.specs.Promises.{wide}
use Rattle.table.specs.Write.{meant}
use Rattle.writer.proofs.SectionLaws.{meant_record}
use Rattle.writer.proofs.source.row_of.Goals as goal

pub returns-in-0 : goal.returns-in-0
unfolding meant
returns-in-0 c = search rules

pub returns-in_default : goal.returns-in_default
returns-in_default c = c.record_row.ensures ∙ ap wide (sym (meant_record _ c.args.section c.args.i (omega arith)))

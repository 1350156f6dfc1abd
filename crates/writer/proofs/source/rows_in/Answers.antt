-- `writer::source::rows_in` meets its contract: the header has one row; a section behind it has as many as its list has whole records.
-- Assumes nothing.
use Rattle.std.proofs.Common.{rules, arith, sym, ◌∙◌}
use native.Mathlib.Nat.{div-mul-le_self}
use lib.ListN.{length}
use Rattle.layout.proofs.LayoutLaws.{listed_some}
use Rattle.table.specs.Write.{count, numbers_in}
use Rattle.writer.proofs.SectionLaws.{count_by_length, numbers_record}
use Rattle.writer.proofs.source.rows_in.Goals as goal

pub nonzero_div-result : goal.nonzero_div-result
nonzero_div-result c =
    let s = c.args.section in
    omega (arith, listed_some s c.requires, c.numbers_in.ensures ∙ numbers_record s (omega arith))

pub returns-in-0 : goal.returns-in-0
unfolding count numbers_in
returns-in-0 c = search rules

pub returns-in_default : goal.returns-in_default
returns-in_default c =
    let s = c.args.section in
    let numbers = c.numbers_in.ensures ∙ numbers_record s (omega arith) in
    record {
      is = rw (numbers, c.list_of-list.ensures) (sym (count_by_length _ s (omega arith)));
      few = rw (c.numbers_in.ensures) (omega (arith, div-mul-le_self (length c.list_of-list.result.now) (numbers_in s)));
    }

-- `writer::source::record_row` meets its contract: the part of the list that is taken is the record, and padding is zero as well.
-- Assumes nothing.
use Rattle.std.proofs.Common.{arith, sym, ◌∙◌}
use Rattle.std.proofs.Math.Nat.{add-sub_cancel_left}
use Rattle.std.proofs.lemmas.List.{length-take}
use Rattle.layout.proofs.LayoutLaws.{listed_most}
use Rattle.table.specs.Lent.{lists_of}
use Rattle.writer.proofs.SectionLaws.{record_wide}
use Rattle.writer.proofs.source.record_row.Goals as goal

pub widened-requires : goal.widened-requires
widened-requires c = rw add-sub_cancel_left (simp length-take (omega (arith, c.numbers_in-n.ensures, listed_most c.args.section)))

pub returns : goal.returns
returns c =
    let a = c.args in
    c.widened.ensures
    ∙ rw (add-sub_cancel_left, c.numbers_in-n.ensures, c.list_of-list.ensures)
    (sym (record_wide (lists_of a.lists) a.section a.i c.requires.1 c.requires.0))

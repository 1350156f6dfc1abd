use Rattle.std.proofs.Common.{◌≡◌, arith, sym, ◌∙◌, below_more}
use Rattle.layout.specs.declared.Way.TheVariants.{Writing}
use Rattle.layout.specs.Rows.{row_fault}
use Rattle.table.specs.Lent.{lists_of}
use Rattle.table.specs.Lists.{kind_for, records_in}
use Rattle.table.specs.Refusals.{answer_of, given}
use Rattle.table.specs.Write.{meant_row}
use Rattle.writer.proofs.SectionLaws.{count_records, fault_record}
use Rattle.writer.proofs.RefusalLaws.{record_bad, records_good}
use Rattle.writer.proofs.refusals.section_tested.Goals.{After-fault_of}
use Rattle.writer.proofs.refusals.section_tested.Goals as goal

-- what `layout` says of a record
fault : (c : After-fault_of)
    → c.fault_of.result ≡ row_fault Writing (kind_for (lists_of c.args.lists) c.args.section) (meant_row (lists_of c.args.lists) c.args.section c.loop-i.i)
fault c = c.fault_of.ensures ∙ rw (c.kind_of-kind.ensures, c.row_of.ensures) (fault_record (lists_of c.args.lists) c.args.section c.loop-i.i c.requires.0)

pub returns-in-Some : goal.returns-in-Some
unfolding given answer_of
returns-in-Some c =
    let a = c.args in
    let counted = count_records (lists_of a.lists) a.section c.requires.0 in
    record_bad (lists_of a.lists) a.section c.loop-i.i c.in-Some.test
    (omega (arith, c.rows_in-i-end.ensures.is, counted)) c.loop-i.invariant
    (sym (fault (goal.at.returns-in-Some c).After-fault_of) ∙ c.in-Some.is)

pub loop-i-preserved : goal.loop-i-preserved
loop-i-preserved c = below_more _ _ c.loop-i.invariant (sym (fault (goal.at.loop-i-preserved c).After-fault_of) ∙ c.in_default.is)

pub returns : goal.returns
unfolding given
returns c =
    let a = c.args in
    let all : c.loop-i.i ≡ records_in (lists_of a.lists) a.section =
    omega (arith, c.rows_in-i-end.ensures.is, count_records (lists_of a.lists) a.section c.requires.0) in
    records_good (lists_of a.lists) a.section (rw all at c.loop-i.invariant)

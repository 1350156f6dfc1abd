-- `writer::refusals::header_tested` meets its contract: where each list is whole, the answer goes by the first test of the header that fails.
-- Assumes nothing.
use Rattle.std.proofs.Common.{◌≡◌, arith, sym, ◌∙◌}
use Rattle.layout.specs.declared.Way.TheVariants.{Writing}
use Rattle.layout.specs.Rows.{row_fault}
use Rattle.layout.proofs.FaultLaws.{fault_wide}
use Rattle.table.specs.Lent.{lists_of}
use Rattle.table.specs.Refusals.{answer_of, given}
use Rattle.table.specs.Write.{header_for, meant, count, write2}
use Rattle.writer.proofs.refusals.header_tested.Goals.{After-fault_of}
use Rattle.writer.proofs.refusals.header_tested.Goals as goal

-- what `layout` says of the header
fault : (c : After-fault_of) → c.fault_of.result ≡ row_fault Writing 0 (header_for (lists_of c.args.lists))
unfolding meant
fault c = c.fault_of.ensures ∙ rw c.row_of.ensures (fault_wide Writing 0 (header_for (lists_of c.args.lists)))

pub returns-then-not-all_whole : goal.returns-then-not-all_whole
unfolding given answer_of write2
returns-then-not-all_whole c = sym (rw (sym c.all_whole.ensures ∙ c.if-not-all_whole.true, write2))

pub row_of-requires : goal.row_of-requires
unfolding count
row_of-requires c = record { known = omega arith; inside = omega arith }

pub returns-in-None : goal.returns-in-None
unfolding given write2
returns-in-None c =
    let f = fault (goal.at.returns-in-None c).After-fault_of in
    sym (rw (sym c.all_whole.ensures ∙ c.if-not-all_whole.false, sym f ∙ c.in-None.is, write2))

pub returns-in-Some : goal.returns-in-Some
unfolding given answer_of write2
returns-in-Some c =
    let f = fault (goal.at.returns-in-Some c).After-fault_of in
    sym (rw (sym c.all_whole.ensures ∙ c.if-not-all_whole.false, sym f ∙ c.in-Some.is, write2))

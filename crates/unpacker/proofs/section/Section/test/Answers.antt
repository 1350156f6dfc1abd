use native.Mathlib.Omega.{arith}
use Rattle.table.specs.Refusals.{said}
use Rattle.table.proofs.SectionLaws.{rows_few}
use Rattle.unpacker.proofs.ExamineLaws.{good_more, section_bad, section_good}
use Rattle.unpacker.proofs.section.Section.test.Goals as goal

pub test_row-requires : goal.test_row-requires
test_row-requires c =
    let self = c.args.self.now in
    omega (arith, rows_few self.table.now self.section self.known)

pub returns-in-Err : goal.returns-in-Err
unfolding said
returns-in-Err c =
    let self = c.args.self.now in
    section_bad self.table.now self.section c.loop-i.i _ (omega arith) c.loop-i.invariant c.in-Err.ensures

pub loop-i-preserved : goal.loop-i-preserved
unfolding said
loop-i-preserved c =
    let self = c.args.self.now in
    good_more self.table.now self.section c.loop-i.i c.loop-i.invariant c.in_default.ensures

pub returns : goal.returns
unfolding said
returns c =
    let self = c.args.self.now in
    section_good self.table.now self.section (λ j h. c.loop-i.invariant j (omega (arith, self.counted)))

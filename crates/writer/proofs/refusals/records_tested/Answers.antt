use Rattle.std.proofs.Common.{◌≡◌, arith}
use Rattle.table.specs.Lent.{lists_of}
use Rattle.table.specs.Refusals.{given}
use Rattle.writer.proofs.RefusalLaws.{section_bad, clean_more, sections_good}
use Rattle.writer.proofs.refusals.records_tested.Goals as goal

pub returns-in-Err : goal.returns-in-Err
unfolding given
returns-in-Err c =
    section_bad (lists_of c.args.lists) c.loop-section.section _ (omega arith) (omega arith) c.loop-section.invariant
    c.in-Err.ensures

pub loop-section-preserved : goal.loop-section-preserved
unfolding given
loop-section-preserved c =
    clean_more (lists_of c.args.lists) c.loop-section.section c.loop-section.invariant c.in_default.ensures

pub returns : goal.returns
unfolding given
returns c = let all : c.loop-section.section ≡ 6 = omega arith in sections_good (lists_of c.args.lists) (rw all at c.loop-section.invariant)

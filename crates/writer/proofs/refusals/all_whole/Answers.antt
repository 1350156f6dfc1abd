use Rattle.std.proofs.Common.{◌≡◌, arith, sym, ◌∙◌, below_more}
use Rattle.table.specs.Lent.{lists_of}
use Rattle.writer.proofs.RefusalLaws.{all_whole, one_broken}
use Rattle.writer.proofs.refusals.all_whole.Goals as goal

pub returns-then-not-is_whole : goal.returns-then-not-is_whole
returns-then-not-is_whole c = one_broken (lists_of c.args.lists) c.loop-section.section (omega arith) (sym c.is_whole.ensures ∙ c.if-not-is_whole.true)

pub loop-section-preserved : goal.loop-section-preserved
loop-section-preserved c = below_more _ _ c.loop-section.invariant (sym c.is_whole.ensures ∙ c.if-not-is_whole.false)

pub returns : goal.returns
returns c = let all : c.loop-section.section ≡ 6 = omega arith in all_whole (lists_of c.args.lists) (rw all at c.loop-section.invariant)

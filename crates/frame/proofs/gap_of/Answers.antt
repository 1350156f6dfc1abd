-- `frame::gap_of` meets its contract: the code's table is the definition's.
-- Assumes nothing.
use mathlib.Core.Path.{sym}
use Rattle.frame.specs.Gap.{gaps}
use Rattle.frame.proofs.GapLaws.{gap_given, gap_refused}
use Rattle.frame.proofs.gap_of.Goals as goal

pub returns-then-code-lt8 : goal.returns-then-code-lt8
unfolding gaps
returns-then-code-lt8 c = sym (gap_given _ c.if-code-lt8.true)

pub returns-else-code-lt8 : goal.returns-else-code-lt8
returns-else-code-lt8 c = sym (gap_refused _ c.if-code-lt8.false)

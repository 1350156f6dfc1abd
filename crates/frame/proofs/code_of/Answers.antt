-- `frame::code_of` meets its contract: the tests on the way are those of a good gap.
-- Assumes nothing.
use mathlib.Core.Path.{sym}
use mathlib.Core.Logic.{inl, inr}
use native.Mathlib.Omega.{arith}
use lib.Count.{trailing_le}
use Rattle.frame.proofs.GapLaws.{good_ms_lem, outside_not_good, bits_not_good, code_given, code_refused}
use Rattle.frame.proofs.code_of.Goals as goal

pub overflow_cast-result : goal.overflow_cast-result
overflow_cast-result c = omega (arith, trailing_le 64 c.args.ms)

pub returns-then-ms-eq1 : goal.returns-then-ms-eq1
returns-then-ms-eq1 c = sym (code_given _ (good_ms_lem _ (omega arith) (omega arith) c.if-ms-eq1.true))

pub returns-else-ms-eq1 : goal.returns-else-ms-eq1
returns-else-ms-eq1 c = sym (code_refused _ (bits_not_good _ (omega arith) (omega arith) c.if-ms-eq1.false))

pub returns-in_default : goal.returns-in_default
returns-in_default c = sym (code_refused _ (outside_not_good _ (inl (omega arith))))

pub returns-in_default-2 : goal.returns-in_default-2
returns-in_default-2 c = sym (code_refused _ (outside_not_good _ (inr (omega arith))))

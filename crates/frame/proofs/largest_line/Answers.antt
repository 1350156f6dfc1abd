-- `frame::largest_line` meets its contract: the arm is the range of Lmax.
-- Assumes nothing.
use mathlib.Core.Logic.{inl, inr}
use mathlib.Core.Path.{sym, ap, ◌∙◌}
use Rattle.std.specs.Prelude.{Some}
use native.Mathlib.Omega.{arith}
use Rattle.frame.proofs.FrameLaws.{largest_line_is, largest_line_given, largest_line_refused}
use Rattle.frame.proofs.largest_line.Goals as goal

pub returns-in-64-to-1518 : goal.returns-in-64-to-1518
returns-in-64-to-1518 c = sym (largest_line_given _ (omega arith) (omega arith) ∙ ap Some (largest_line_is _))

pub returns-in_default : goal.returns-in_default
returns-in_default c = sym (largest_line_refused _ (inl (omega arith)))

pub returns-in_default-2 : goal.returns-in_default-2
returns-in_default-2 c = sym (largest_line_refused _ (inr (omega arith)))

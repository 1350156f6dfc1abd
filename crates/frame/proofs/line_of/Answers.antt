-- `frame::line_of` meets its contract: each arm's tests choose a case of the frame rule.
-- Assumes nothing.
use mathlib.Core.Path.{sym}
use mathlib.Core.Logic.{inl, inr}
use native.Mathlib.Omega.{arith}
use Rattle.frame.proofs.FrameLaws.{protocol_overhead_is, greatest_frame_is, line_small, line_large, line_refused}
use Rattle.frame.proofs.line_of.Goals as goal

pub returns-in-1-to-17 : goal.returns-in-1-to-17
returns-in-1-to-17 c = sym (line_small _ (omega arith) (omega arith))

pub returns-in-18-to-1471 : goal.returns-in-18-to-1471
returns-in-18-to-1471 c = sym (line_large _ (omega arith) (omega arith))

pub returns-in_default : goal.returns-in_default
returns-in_default c = sym (line_refused _ (inl (omega arith)))

pub returns-in_default-2 : goal.returns-in_default-2
returns-in_default-2 c = sym (line_refused _ (inr (omega (arith, protocol_overhead_is, greatest_frame_is))))

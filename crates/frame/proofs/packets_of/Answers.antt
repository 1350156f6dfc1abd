-- `frame::packets_of` meets its contract: the arms are the ranges of Lmax and M, and the quotient is the least count.
-- Assumes nothing.
use mathlib.Core.Logic.{inl, inr}
use mathlib.Core.Path.{sym, ap, ◌∙◌}
use Rattle.std.specs.Prelude.{Some}
use Prim.Native.Nat.{ℕ, ◌-◌, ◌<◌, ◌%◌}
use native.Mathlib.Nat.{mod-lt}
use native.Mathlib.Omega.{arith}
use Rattle.frame.proofs.FrameLaws.{protocol_overhead_is}
use Rattle.frame.proofs.PacketLaws.{packets_computed, packets_given, packets_frame_refused, packets_message_refused}
use Rattle.frame.proofs.packets_of.Goals as goal

-- what S has beyond a full fragment is less than a unit
spare_below : (n : ℕ) → n % 8 < 8
spare_below n = mod-lt n (omega arith)

pub overflow_sub-full : goal.overflow_sub-full
overflow_sub-full c = omega (arith, spare_below (c.args.lmax - 39))

pub returns-in-1-to-8192 : goal.returns-in-1-to-8192
returns-in-1-to-8192 c = sym
    (packets_given _ _ (omega arith) (omega arith) (omega arith) (omega arith)
    ∙ ap Some (packets_computed _ _ (omega (arith, protocol_overhead_is))))

pub returns-in_default-m : goal.returns-in_default-m
returns-in_default-m c = sym (packets_message_refused _ _ (inl (omega arith)))

pub returns-in_default-m-2 : goal.returns-in_default-m-2
returns-in_default-m-2 c = sym (packets_message_refused _ _ (inr (omega arith)))

pub returns-in_default : goal.returns-in_default
returns-in_default c = sym (packets_frame_refused _ _ (inl (omega arith)))

pub returns-in_default-2 : goal.returns-in_default-2
returns-in_default-2 c = sym (packets_frame_refused _ _ (inr (omega arith)))

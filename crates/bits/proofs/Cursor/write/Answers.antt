-- `bits::Cursor::write` meets its contract: a turn writes the next bit of the field.
-- Assumes nothing.
use mathlib.Core.Path.{sym, ◌∙◌}
use native.Mathlib.Omega.{arith}
use borrow.Author.Rules.{rules}
use Rattle.bits.specs.Bits.{put_at}
use Rattle.bits.proofs.FieldLaws.{put_step}
use Rattle.bits.proofs.Cursor.write.Goals as goal

pub loop-i-init : goal.loop-i-init
unfolding put_at
loop-i-init c = search rules

pub loop-i-preserved : goal.loop-i-preserved
loop-i-preserved c =
    let a = c.args in
    let l = c.loop-i in
    c.put_bit.ensures ∙ rw l.invariant (sym (put_step a.s.now a.self.at a.v a.w l.i (omega arith)))

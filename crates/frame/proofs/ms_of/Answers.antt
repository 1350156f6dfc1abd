-- `frame::ms_of` meets its contract: a shift by less than 8 drops no bit.
-- Assumes nothing.
use mathlib.Core.Path.{sym, ap, ◌∙◌}
use Rattle.std.specs.Prelude.{Some}
use native.Mathlib.Omega.{arith}
use lib.Pow.{pow_mono}
use Rattle.frame.proofs.GapLaws.{ms_given, ms_refused}
use Rattle.frame.proofs.ms_of.Goals as goal

pub returns-then-code-lt8 : goal.returns-then-code-lt8
returns-then-code-lt8 c =
    let low = c.if-code-lt8.true in
    sym (ms_given _ low ∙ ap Some (omega (arith, pow_mono {i = c.args.code} {j = 7} (omega arith))))

pub returns-else-code-lt8 : goal.returns-else-code-lt8
returns-else-code-lt8 c = sym (ms_refused _ c.if-code-lt8.false)

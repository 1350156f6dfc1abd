-- `sheet::walking::parent_of` meets its contract: 0 is no parent, and another number the row before it.
-- Assumes nothing.
use Prim.Native.Nat.{suc, ◌-◌}
use mathlib.Core.Path.{◌≡◌, sym, ap}
use native.Mathlib.Omega.{arith}
use Rattle.table.specs.Decoded.{parent_of}
use Rattle.sheet.proofs.walking.parent_of.Goals as goal

pub returns-then-stored-eq0 : goal.returns-then-stored-eq0
unfolding parent_of
returns-then-stored-eq0 c = sym (ap parent_of c.if-stored-eq0.true)

pub returns-else-stored-eq0 : goal.returns-else-stored-eq0
unfolding parent_of
returns-else-stored-eq0 c =
    let n = c.args.stored in
    let more : suc (n - 1) ≡ n = omega arith in
    ap parent_of more

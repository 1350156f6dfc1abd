-- `unpacker::clear` meets its contract: after each turn the numbers so far are zero.
-- Assumes nothing.
use mathlib.Core.Path.{◌≡◌}
use lib.ListN.{take, replicate}
use Rattle.unpacker.proofs.clear.Given as goal

abbrev pub invariant-loop-number : goal.invariant-loop-number
invariant-loop-number l = take l.number-index l.out ≡ replicate l.number-index 0

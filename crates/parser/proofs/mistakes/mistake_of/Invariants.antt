-- `parser::mistakes::mistake_of` meets its contract: at each turn no line before the place has a mistake, and the first of the rest is the first.
-- Assumes nothing.
use Prim.Native.Nat.{◌+◌, ◌-◌, ◌≤◌}
use mathlib.Core.Path.{◌≡◌}
use lib.ListN.{length}
use Rattle.notation.specs.Steps.{lines_from}
use Rattle.parser.specs.Mistakes.{line_start, mistake_from, mistake_in}
use Rattle.parser.proofs.mistakes.mistake_of.Given as goal

abbrev pub invariant-loop-at : goal.invariant-loop-at
invariant-loop-at l =
    (l.number ≤ l.at)
    × (l.at ≡ line_start l.text l.number)
    × (mistake_from l.text l.version l.tally.most l.tally.counts l.number (lines_from l.text l.at) ≡ mistake_in l.text l.version l.fn.most)

abbrev pub decreases-loop-at : goal.decreases-loop-at
decreases-loop-at l = length l.text + 1 - l.at

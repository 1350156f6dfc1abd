-- `words::numeral_of` meets its contract: at each turn the bytes before the place are digits, and the rest spells the number behind them.
-- Assumes nothing.
use Prim.Native.Nat.{◌≤◌, min}
use mathlib.Core.Path.{◌≡◌}
use lib.ListN.{drop}
use Rattle.text.specs.Text.{spells, all, digit}
use Rattle.words.proofs.SpelledLaws.{greatest}
use Rattle.words.proofs.numeral_of.Given as goal

abbrev pub invariant-loop-byte : goal.invariant-loop-byte
invariant-loop-byte l =
    (all digit (drop l.byte-index l.word) ≡ all digit l.word)
    × (min (spells l.number (drop l.byte-index l.word)) greatest ≡ min (spells 0 l.word) greatest)
    × (l.number ≤ greatest)

-- `fields::keyword_of` meets its contract: at each turn the word is none of the keywords before.
-- Assumes nothing.
use mathlib.Core.Path.{◌≡◌}
use lib.ListN.{drop}
use Rattle.words.specs.Places.{part}
use Rattle.notation.specs.Notation.{keywords, word_in}
use Rattle.fields.proofs.KeywordLaws.{behind}
use Rattle.fields.proofs.keyword_of.Given as goal

abbrev pub invariant-loop-section : goal.invariant-loop-section
invariant-loop-section l =
    word_in keywords (part l.text l.span.from l.span.to)
    ≡ behind l.section (word_in (drop l.section keywords) (part l.text l.span.from l.span.to))

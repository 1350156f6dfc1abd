-- `fields::parent_at` meets its contract: one test for each word that begins a parent.
-- Assumes nothing.
use mathlib.Core.Path.{sym, ◌∙◌}
use Rattle.notation.specs.Notation.{none_word, after_word}
use Rattle.notation.specs.Steps.{parent_from}
use Rattle.fields.proofs.FieldLaws.{behind_here, takes_none, takes_said, takes_later}
use Rattle.fields.proofs.parent_at.Goals as goal

pub returns-then-is_word : goal.returns-then-is_word
unfolding parent_from none_word
returns-then-is_word c =
    let a = c.args in
    takes_said a.text.now a.word.to a.end _ _ (rw (sym c.is_word.ensures ∙ c.if-is_word.true)) (behind_here a.text.now a.word.to a.end)

pub returns-then-is_word-2 : goal.returns-then-is_word-2
unfolding parent_from none_word after_word
returns-then-is_word-2 c =
    let a = c.args in
    let first = sym c.is_word.ensures ∙ c.if-is_word.false in
    let second = sym c.is_word-else-is_word.ensures ∙ c.if-is_word-2.true in
    takes_later a.text.now a.word.to a.end _ _ _ a.word.to (rw (first, second))
    (behind_here a.text.now a.word.to a.end) c.row_at.ensures

pub returns-else-is_word-2 : goal.returns-else-is_word-2
unfolding parent_from none_word after_word
returns-else-is_word-2 c =
    let a = c.args in
    let first = sym c.is_word.ensures ∙ c.if-is_word.false in
    let second = sym c.is_word-else-is_word.ensures ∙ c.if-is_word-2.false in
    takes_none a.text.now a.word.to a.end _ (rw (first, second))

-- `fields::row_at` meets its contract: the number of the word, + 1.
-- Assumes nothing.
use mathlib.Core.Path.{refl, sym, ap, ◌∙◌}
use Rattle.std.specs.Prelude.{None, Some}
use native.Mathlib.Omega.{arith}
use Rattle.notation.specs.Meant.{row_from, taken}
use Rattle.notation.proofs.MeantLaws.{row_none, row_wrong, row_said}
use Rattle.fields.proofs.FieldLaws.{none_left, takes_none, word_takes, word_not}
use Rattle.fields.proofs.row_at.Goals as goal

pub returns-then-word : goal.returns-then-word
returns-then-word c =
    let a = c.args in
    takes_none a.text.now a.at a.end _ (ap row_from (none_left a.text.now a.at a.end _ c.word_at-word.ensures (omega arith)) ∙ row_none)

pub returns-in_err-row : goal.returns-in_err-row
unfolding taken
returns-in_err-row c =
    let a = c.args in
    let word = c.word_at-word in
    let none_is = sym c.number_at.ensures ∙ c.in_err-row.was in
    word_not a.text.now a.at a.end word.result word.ensures (omega arith) row_from None _ (row_wrong _ _ none_is) refl c.from_residual.ensures

pub returns : goal.returns
returns c =
    let a = c.args in
    let word = c.word_at-word in
    let row = sym c.number_at.ensures ∙ c.in_ok-row.was in
    word_takes a.text.now a.at a.end word.result word.ensures (omega arith) row_from _ _ (row_said _ _ _ row) (ap Some (omega (arith, c.saturating_add.ensures)))

-- `fields::field_at` meets its contract: the form of the field says what its first word is.
-- Assumes nothing.
use mathlib.Core.Path.{sym, ap, ◌∙◌}
use native.Mathlib.Omega.{arith}
use Rattle.notation.specs.Meant.{field_from}
use Rattle.notation.proofs.MeantLaws.{field_none, field_decimal, field_choice}
use Rattle.fields.proofs.FieldLaws.{none_left, takes_none, word_takes, word_not, parent_takes}
use Rattle.fields.proofs.field_at.Goals as goal

pub returns-then-word : goal.returns-then-word
returns-then-word c =
    let a = c.args in
    let none-are = none_left a.text.now a.at a.end _ c.word_at-word.ensures (omega arith) in
    takes_none a.text.now a.at a.end _ (ap (field_from a.name) none-are ∙ field_none a.name)

pub returns-in_err-number-in-Decimal : goal.returns-in_err-number-in-Decimal
returns-in_err-number-in-Decimal c =
    let a = c.args in
    let word = c.word_at-word in
    let form = sym c.form_of.ensures ∙ c.in-Decimal.is in
    let none_is = sym c.number_at.ensures ∙ c.in_err-number-in-Decimal.was in
    word_not a.text.now a.at a.end word.result word.ensures (omega arith) (field_from a.name) _ _
    (field_decimal a.name _ _ form) none_is c.from_residual.ensures

pub returns-in_err-number-in-Choice : goal.returns-in_err-number-in-Choice
returns-in_err-number-in-Choice c =
    let a = c.args in
    let word = c.word_at-word in
    let form = sym c.form_of.ensures ∙ c.in-Choice.is in
    let none_is = sym c.choice_of.ensures ∙ c.in_err-number-in-Choice.was in
    word_not a.text.now a.at a.end word.result word.ensures (omega arith) (field_from a.name) _ _
    (field_choice a.name _ _ form) none_is c.from_residual-in_err-number-in-Choice.ensures

pub returns-in-Parent : goal.returns-in-Parent
returns-in-Parent c =
    let a = c.args in
    let word = c.word_at-word in
    let form = sym c.form_of.ensures ∙ c.in-Parent.is in
    parent_takes a.text.now a.at a.end word.result word.ensures (omega arith) a.name _ form c.parent_at.ensures

pub returns-in_ok-number-in-Decimal : goal.returns-in_ok-number-in-Decimal
returns-in_ok-number-in-Decimal c =
    let a = c.args in
    let word = c.word_at-word in
    let form = sym c.form_of.ensures ∙ c.in-Decimal.is in
    let number = sym c.number_at.ensures ∙ c.in_ok-number-in-Decimal.was in
    word_takes a.text.now a.at a.end word.result word.ensures (omega arith) (field_from a.name) _ _
    (field_decimal a.name _ _ form) number

pub returns-in_ok-number-in-Choice : goal.returns-in_ok-number-in-Choice
returns-in_ok-number-in-Choice c =
    let a = c.args in
    let word = c.word_at-word in
    let form = sym c.form_of.ensures ∙ c.in-Choice.is in
    let number = sym c.choice_of.ensures ∙ c.in_ok-number-in-Choice.was in
    word_takes a.text.now a.at a.end word.result word.ensures (omega arith) (field_from a.name) _ _
    (field_choice a.name _ _ form) number

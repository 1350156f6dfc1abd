-- `parser::lines::line_of` meets its contract: the first word tells the section, and the words behind it the fields.
-- Assumes nothing.
use mathlib.Core.Path.{sym, ap, ◌∙◌}
use native.Mathlib.Omega.{arith}
use Rattle.notation.specs.Meant.{line_said}
use Rattle.notation.proofs.MeantLaws.{line_silent, line_unknown, line_of}
use Rattle.fields.proofs.FieldLaws.{none_left, one_more, behind_word}
use Rattle.parser.specs.Lines.{line_told, Stands}
use Rattle.parser.proofs.LineLaws.{keyword_few, tells_later}
use Rattle.parser.proofs.lines.line_of.Goals as goal

pub returns-then-word : goal.returns-then-word
unfolding line_told Stands
returns-then-word c =
    let a = c.args in
    let none-are = none_left a.text.now a.at a.end _ c.word_at-word.ensures (omega arith) in
    record { said = sym (ap (line_said a.version) none-are ∙ line_silent a.version); stands = tt }

pub fields_at-requires : goal.fields_at-requires
fields_at-requires c = keyword_few _ _ (sym c.keyword_of.ensures ∙ c.in-Some.is)

pub returns-in-Some : goal.returns-in-Some
returns-in-Some c =
    let a = c.args in
    let word = c.word_at-word in
    let first = one_more a.text.now a.at a.end word.result word.ensures (omega arith) in
    let section = sym c.keyword_of.ensures ∙ c.in-Some.is in
    tells_later a.text.now a.at a.end _ _ _ word.result.to (ap (line_said a.version) first ∙ line_of a.version _ _ _ section)
    (behind_word a.text.now a.at a.end word.result word.ensures (omega arith)) c.fields_at.ensures

pub returns-in-None : goal.returns-in-None
unfolding line_told Stands
returns-in-None c =
    let a = c.args in
    let word = c.word_at-word in
    let first = one_more a.text.now a.at a.end word.result word.ensures (omega arith) in
    let none_is = sym c.keyword_of.ensures ∙ c.in-None.is in
    record { said = sym (ap (line_said a.version) first ∙ line_unknown a.version _ _ none_is); stands = tt }

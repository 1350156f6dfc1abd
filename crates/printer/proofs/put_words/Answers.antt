-- `printer::put_words` meets its contract: the form of a field is that of its name, and all but two are in decimal.
-- Assumes nothing.
use lib.ListN.{get_or}
use Rattle.layout.specs.declared.Name.TheVariants as name
use Rattle.text.specs.Text.{decimal}
use Rattle.notation.specs.Notation.{choices}
use Rattle.notation.proofs.FieldLaws.{kind_form, parent_form, other_form, decimal_words, choice_words, parent_words_lem}
use Rattle.notation.proofs.PrintedLaws.{line_from_one}
use Rattle.printer.proofs.put_words.Goals as goal

pub returns-in-Kind : goal.returns-in-Kind
returns-in-Kind c =
    let n = c.args.n in
    let word = get_or (choices name.Kind) n (decimal n) in
    rw (c.in-Kind.is, choice_words name.Kind n kind_form, line_from_one word)
    c.put_kind.ensures

pub returns-in-Parent : goal.returns-in-Parent
returns-in-Parent c =
    let n = c.args.n in
    rw (c.in-Parent.is, parent_words_lem name.Parent n parent_form)
    c.put_parent.ensures

pub returns-in_default : goal.returns-in_default
returns-in_default c =
    let a = c.args in
    let form = other_form a.name c.in_default.not-Kind c.in_default.not-Parent in
    rw (decimal_words a.name a.n form, line_from_one (decimal a.n)) c.put_spaced_number.ensures

use mathlib.Core.Path.{sym, ap, ◌∙◌}
use Rattle.std.specs.Prelude.{Some}
use Rattle.std.proofs.Common.{rules}
use native.Mathlib.Omega.{arith}
use native.Mathlib.Numerals.{add-one}
use Rattle.text.specs.Text.{digit}
use Rattle.words.proofs.SpelledLaws.{numeral_some, numeral_none, numeral_empty}
use Rattle.words.proofs.SpelledLaws.{digits_next, digits_broken, digits_end, capped_next, capped_end}
use Rattle.words.proofs.numeral_of.Goals as goal

pub returns-then-is_empty : goal.returns-then-is_empty
returns-then-is_empty c = sym (numeral_empty c.args.word.now (search rules))

pub returns-then-not-is_ascii_digit : goal.returns-then-not-is_ascii_digit
unfolding digit
returns-then-not-is_ascii_digit c =
    let w = c.args.word.now in
    let l = c.loop-byte in
    let no_digit = sym c.is_ascii_digit.ensures.value ∙ c.if-not-is_ascii_digit.true in
    sym (numeral_none w (sym l.invariant.0 ∙ digits_broken w l.byte-index (omega arith) no_digit))

pub loop-byte-preserved : goal.loop-byte-preserved
unfolding digit
loop-byte-preserved c =
    let w = c.args.word.now in
    let l = c.loop-byte in
    let is_digit = sym c.is_ascii_digit.ensures.value ∙ c.if-not-is_ascii_digit.false in (
      rw add-one (sym (digits_next w l.byte-index (omega arith) is_digit) ∙ l.invariant.0),
      rw (add-one, c.with_digit-number.ensures) (sym (capped_next w l.byte-index l.number (omega arith)) ∙ l.invariant.1),
      omega (arith, c.with_digit-number.ensures),
    )

pub returns : goal.returns
returns c =
    let w = c.args.word.now in
    let l = c.loop-byte in
    let alone = sym l.invariant.0 ∙ digits_end w l.byte-index (omega arith) in
    let number = sym l.invariant.1 ∙ capped_end w l.byte-index l.number (omega arith) l.invariant.2 in
    sym (numeral_some w (search rules) alone ∙ ap Some number)

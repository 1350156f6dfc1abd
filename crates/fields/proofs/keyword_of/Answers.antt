use mathlib.Core.Path.{◌≡◌, sym, ◌∙◌}
use native.Mathlib.Numerals.{add-one}
use native.Mathlib.Omega.{arith}
use Rattle.notation.specs.Notation.{keywords, word_in}
use Rattle.fields.proofs.KeywordLaws.{behind, behind_none, not_this, this}
use Rattle.fields.proofs.keyword_of.Goals as goal

pub loop-section-init : goal.loop-section-init
loop-section-init c = behind_none _

pub returns-then-is_word : goal.returns-then-is_word
unfolding keywords
returns-then-is_word c =
    let l = c.loop-section in
    sym (l.invariant ∙ this keywords l.section _ (omega arith) (rw c.keyword.ensures at (sym c.is_word.ensures ∙ c.if-is_word.true)))

pub loop-section-preserved : goal.loop-section-preserved
unfolding keywords
loop-section-preserved c =
    let l = c.loop-section in
    rw add-one (l.invariant ∙ not_this keywords l.section _ (omega arith) (rw c.keyword.ensures at (sym c.is_word.ensures ∙ c.if-is_word.false)))

pub returns : goal.returns
unfolding keywords word_in behind
returns c =
    let l = c.loop-section in
    let e : l.section ≡ 7 = omega arith in
    sym (rw e at l.invariant)

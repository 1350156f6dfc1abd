-- `parser::mistakes::mistake_at` meets its contract: the kind of the line tells its fault, and the word that it is said of.
-- Assumes nothing.
use Prim.Native.Nat.{ℕ}
use mathlib.Core.Path.{ap, ◌∙◌}
use Rattle.std.specs.Prelude.{Some}
use native.Mathlib.Omega.{arith}
use borrow.Author.Tests.{le-ltb}
use lib.Dec.{ltb}
use lib.ListN.{get_or}
use Rattle.base.specs.Pick.{pick}
use Rattle.words.specs.Places.{word_at}
use Rattle.notation.specs.Steps.{fields_of}
use Rattle.fields.specs.Fields.{Behind, words_from, place_behind}
use Rattle.parser.specs.declared.mistakes.Fault.{Fault}
use Rattle.parser.specs.declared.mistakes.Fault.TheVariants.{NotSaid, Over}
use Rattle.parser.specs.declared.mistakes.Mistake.{Mistake}
use Rattle.parser.specs.declared.mistakes.Mistake.TheVariants.{InLine}
use Rattle.parser.specs.Lines.{line_told, Stands}
use Rattle.parser.specs.Mistakes.{line_fault, mistake_at}
use Rattle.parser.proofs.LineLaws.{good_few}
use Rattle.parser.proofs.mistakes.mistake_at.Goals as goal

pub offset_bounds-tally-section : goal.offset_bounds-tally-section
offset_bounds-tally-section c = omega (arith, good_few _ _ _ _ _ _ c.requires c.in-Good.is)

pub bounds-tally-section : goal.bounds-tally-section
bounds-tally-section c = good_few _ _ _ _ _ _ c.requires c.in-Good.is

pub offset_bounds-tally-section-in-Good : goal.offset_bounds-tally-section-in-Good
offset_bounds-tally-section-in-Good c = omega (arith, good_few _ _ _ _ _ _ c.requires c.in-Good.is)

pub bounds-tally-section-in-Good : goal.bounds-tally-section-in-Good
bounds-tally-section-in-Good c = good_few _ _ _ _ _ _ c.requires c.in-Good.is

pub returns-in-Unknown-clause-found : goal.returns-in-Unknown-clause-found
unfolding line_told line_fault mistake_at place_behind
returns-in-Unknown-clause-found c = rw c.in-Unknown.is (ap Some c.made.ensures)

pub returns-else-tally-section-clause-found : goal.returns-else-tally-section-clause-found
unfolding line_told line_fault mistake_at place_behind
returns-else-tally-section-clause-found c =
    let a = c.args in
    let s = c.in-Good.section in
    rw (c.in-Good.is, le-ltb (get_or a.tally.now.counts s 0) (get_or a.tally.now.most s 0) c.if-tally-section.false) (ap Some c.made-in-Good.ensures)

pub returns-in-Wrong-clause-found : goal.returns-in-Wrong-clause-found
unfolding line_told line_fault mistake_at Stands words_from
returns-in-Wrong-clause-found c =
    let a = c.args in
    let w = c.in-Wrong in
    let behind : Behind a.text.now a.here.at a.here.end w.place = rw w.is at c.requires in
    let fault : Fault = pick (ltb w.count (fields_of w.section)) NotSaid Over in
    let made : Fault → ℕ → Mistake = λ (f : Fault) (p : ℕ). InLine f a.here.number w.section w.count (word_at a.text.now p a.here.end) in
    rw w.is
    (ap Some (c.made-in-Wrong.ensures ∙ ap (λ (f : Fault). made f w.place) c.field_fault.ensures ∙ ap (made fault) behind.place))

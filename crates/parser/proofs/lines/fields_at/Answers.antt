use mathlib.Core.Path.{refl}
use native.Mathlib.Numerals.{add-one}
use native.Mathlib.Omega.{arith}
use Rattle.notation.proofs.ShapeLaws.{fields_few}
use Rattle.fields.proofs.FieldLaws.{none_left, one_more}
use Rattle.parser.proofs.FieldsLaws.{reading_start, reading_more, reading_stop, reading_over, reading_end}
use Rattle.parser.proofs.lines.fields_at.Goals as goal

pub loop-k-init : goal.loop-k-init
loop-k-init c = let a = c.args in reading_start a.text.now a.at a.end a.version a.section _ refl

pub offset_bounds-numbers-k : goal.offset_bounds-numbers-k
offset_bounds-numbers-k c = omega (arith, fields_few c.args.section)

pub bounds-numbers-k : goal.bounds-numbers-k
bounds-numbers-k c = omega (arith, fields_few c.args.section)

pub loop-k-preserved : goal.loop-k-preserved
loop-k-preserved c =
    let a = c.args in
    let l = c.loop-k in
    let shape = c.field_at-shape in
    let taken = c.shape_taken in
    rw add-one
    (reading_more a.text.now a.at a.end a.version a.section l.numbers l.k l.place l.invariant
    shape.result taken.result c.in-Some.said (omega arith) shape.ensures c.in-Some.is taken.ensures)

pub returns-in_default : goal.returns-in_default
returns-in_default c =
    let a = c.args in
    let l = c.loop-k in
    let shape = c.field_at-shape in
    let taken = c.shape_taken in
    reading_stop a.text.now a.at a.end a.version a.section l.numbers l.k l.place l.invariant
    shape.result taken.result (omega arith) shape.ensures c.in_default.is taken.ensures

pub returns-then-over : goal.returns-then-over
returns-then-over c =
    let a = c.args in
    let l = c.loop-k in
    reading_over a.text.now a.at a.end a.version a.section l.numbers l.k l.place l.invariant _ _ _ (omega arith) (omega arith)
    (one_more a.text.now l.place a.end _ c.word_at-over.ensures (omega arith))

pub returns : goal.returns
returns c =
    let a = c.args in
    let l = c.loop-k in
    reading_end a.text.now a.at a.end a.version a.section l.numbers l.k l.place l.invariant c.requires (omega arith)
    (none_left a.text.now l.place a.end _ c.word_at-over.ensures (omega arith))

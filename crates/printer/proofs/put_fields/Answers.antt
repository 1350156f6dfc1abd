-- `printer::put_fields` meets its contract: a turn puts the words of one number more.
-- Assumes nothing.
use Rattle.std.proofs.Common.{take, add-one, arith}
use Rattle.words.specs.Printed.{line_from}
use Rattle.text.proofs.GainLaws.{gains_none, gains_more}
use Rattle.notation.specs.Notation.{line_fields}
use Rattle.notation.specs.Printed.{fields_words}
use Rattle.notation.proofs.ShapeLaws.{fields_many}
use Rattle.notation.proofs.PrintedLaws.{line_from_append, words_at, fields_none, fields_next, fields_all}
use Rattle.printer.proofs.put_fields.Goals as goal

pub loop-k-init : goal.loop-k-init
unfolding line_from
loop-k-init c = rw (fields_none (line_fields _ _)) (gains_none _)

pub loop-k-preserved : goal.loop-k-preserved
loop-k-preserved c =
    let l = c.loop-k in
    let a = c.args in
    let ss = line_fields a.version a.section in
    let ns = a.numbers.now in
    let many = fields_many a.version a.section in
    let words = rw c.field_at-shape.ensures at c.put_field.ensures in
    rw (
      add-one,
      fields_next ss ns l.k (omega arith) (omega arith),
      line_from_append (fields_words ss (take l.k ns)) (words_at ss ns l.k),
    )
    (gains_more _ _ _ _ _ l.invariant words)

pub returns : goal.returns
returns c =
    let a = c.args in
    let ss = line_fields a.version a.section in
    let many = fields_many a.version a.section in
    rw (fields_all ss a.numbers.now c.loop-k.k (omega arith)) at c.loop-k.invariant

use mathlib.Core.Path.{sym, ◌∙◌}
use native.Mathlib.Omega.{arith}
use lib.Seq.{take_all}
use Rattle.layout.proofs.LayoutLaws.{listed_most}
use Rattle.unpacker.proofs.RowLaws.{length_record, number_is, more_alike}
use Rattle.unpacker.proofs.section.Section.put.Goals as goal

pub bounds-raw-k : goal.bounds-raw-k
bounds-raw-k c = omega (arith, listed_most c.args.self.now.section)

pub loop-k-preserved : goal.loop-k-preserved
loop-k-preserved c =
    let self = c.args.self.now in
    let long = length_record self.table.now self.section c.args.i in
    more_alike c.loop-k.numbers _ c.loop-k.k _ (omega arith) (omega (arith, c.requires.long)) c.loop-k.invariant
    (c.converted_number.ensures ∙ rw self.of_kind (number_is self.table.now self.section c.args.i c.read.new.raw c.loop-k.k c.read.ensures (omega (arith, c.requires.long))))

pub returns : goal.returns
returns c =
    let self = c.args.self.now in
    let long = length_record self.table.now self.section c.args.i in
    sym (take_all c.loop-k.k c.loop-k.numbers (omega arith))
    ∙ c.loop-k.invariant
    ∙ take_all c.loop-k.k _ (omega (arith, c.requires.long))

use mathlib.Core.Path.{◌≡◌, sym, ◌∙◌}
use native.Mathlib.Omega.{arith}
use lib.ListN.{length}
use Rattle.table.specs.Refusals.{answer_of, said}
use Rattle.table.specs.Sections.{from}
use Rattle.unpacker.proofs.ExamineLaws.{clean_more, length_bad, table_bad, table_good}
use Rattle.unpacker.proofs.header.Header.test_sections.Goals as goal

pub returns-then-self-start : goal.returns-then-self-start
unfolding said answer_of
returns-then-self-start c = length_bad c.args.self.now.table.now (λ e. c.if-self-start.true (e ∙ sym c.start.ensures))

pub returns-in-Err : goal.returns-in-Err
unfolding said
returns-in-Err c =
    let bytes = c.args.self.now.table.now in
    let exact : length bytes ≡ from bytes 6 = c.if-self-start.false ∙ c.start.ensures in
    table_bad bytes exact c.loop-s.s _ (omega arith) (omega arith) c.loop-s.invariant
    (rw (c.section.ensures.table, c.section.ensures.number) at c.in-Err.ensures)

pub loop-s-preserved : goal.loop-s-preserved
unfolding said
loop-s-preserved c =
    clean_more c.args.self.now.table.now c.loop-s.s c.loop-s.invariant
    (rw (c.section.ensures.table, c.section.ensures.number) at c.in_default.ensures)

pub returns : goal.returns
unfolding said
returns c =
    let bytes = c.args.self.now.table.now in
    let exact : length bytes ≡ from bytes 6 = c.if-self-start.false ∙ c.start.ensures in
    table_good bytes exact (λ j h. c.loop-s.invariant j (omega arith))

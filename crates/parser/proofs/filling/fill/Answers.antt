use mathlib.Core.Path.{ap, ◌∙◌}
use Rattle.std.proofs.Common.{rules}
use native.Mathlib.Omega.{arith}
use Rattle.words.proofs.WordLaws.{line_within}
use Rattle.notation.specs.Meant.{section_in, text_lines}
use Rattle.notation.specs.Steps.{fields_of}
use Rattle.notation.proofs.LinesLaws.{lines_start, lines_done, section_none}
use Rattle.parser.specs.Lines.{place_with, list_with}
use Rattle.parser.proofs.FillLaws.{filling_start, filling_line, filling_end}
use Rattle.parser.proofs.filling.fill.Goals as goal

pub loop-at-init : goal.loop-at-init
loop-at-init c =
    let a = c.args in
    rw (lines_start a.text.now)
    (filling_start (fields_of a.section) _ (section_in a.version a.section (text_lines a.text.now)) _ (c.fill.ensures.after (search rules)))

pub put_numbers-put-requires : goal.put_numbers-put-requires
put_numbers-put-requires c = let l = c.loop-at in omega (arith, l.invariant.few, l.invariant.long)

pub overflow_add-at : goal.overflow_add-at
overflow_add-at c = omega (arith, line_within c.args.text.now c.loop-at.at, c.line_end-end.ensures)

pub loop-at-smaller : goal.loop-at-smaller
loop-at-smaller c = omega (arith, line_within c.args.text.now c.loop-at.at, c.line_end-end.ensures)

pub loop-at-preserved : goal.loop-at-preserved
loop-at-preserved c =
    let a = c.args in
    let l = c.loop-at in
    let end = c.line_end-end in
    let line = c.line_of-line in
    let put = c.put_numbers-put in
    let numbers = c.numbers_of.ensures in
    filling_line a.text.now a.version a.section _ l.put l.at end.result put.result l.list _ line.result
    (omega arith) end.ensures line.ensures
    (put.ensures.behind ∙ ap (place_with l.list l.put) numbers) (put.ensures.put ∙ ap (list_with l.list l.put) numbers) l.invariant

pub returns : goal.returns
returns c =
    let a = c.args in
    let l = c.loop-at in
    let done = ap (section_in a.version a.section) (lines_done a.text.now l.at (omega arith)) ∙ section_none a.version a.section in
    let end = filling_end (fields_of a.section) _ (section_in a.version a.section (text_lines a.text.now)) l.list l.put _ done l.invariant in
    record { count = end.0; put = end.1 }

use mathlib.Core.Path.{refl, sym, ◌∙◌}
use native.Mathlib.Omega.{arith}
use Rattle.words.proofs.WordLaws.{line_within}
use Rattle.notation.proofs.LinesLaws.{lines_start}
use Rattle.parser.specs.Mistakes.{line_start, mistake_in}
use Rattle.parser.proofs.MistakeLaws.{Looked, found_here, found_later, start_next, no_delays, no_mistake}
use Rattle.parser.proofs.mistakes.mistake_of.Goals as goal

pub loop-at-init : goal.loop-at-init
unfolding line_start mistake_in
loop-at-init c = (omega arith, refl, rw (lines_start c.args.text.now))

pub mistake_at-mistake-requires : goal.mistake_at-mistake-requires
mistake_at-mistake-requires c = c.line_of-line.ensures.stands

pub returns-then-is_some : goal.returns-then-is_some
returns-then-is_some c =
    let a = c.args in
    let l = c.loop-at in
    let m = c.mistake_at-mistake in
    let looked : Looked a.text.now a.version l.tally.most l.tally.counts m.new.tally.counts l.number l.at c.line_end-end.result c.line_of-line.result m.result =
    record {
      inside = omega arith;
      start = l.invariant.1;
      stop = c.line_end-end.ensures;
      tells = c.line_of-line.ensures;
      is = m.ensures.found;
      taken = m.ensures.counted;
    } in
    sym (found_here _ _ _ _ _ _ _ _ _ _ looked (sym c.is_some.ensures ∙ c.if-is_some.true)) ∙ l.invariant.2

pub overflow_add-at : goal.overflow_add-at
overflow_add-at c = omega (arith, line_within c.args.text.now c.loop-at.at, c.line_end-end.ensures)

pub loop-at-smaller : goal.loop-at-smaller
loop-at-smaller c = omega (arith, line_within c.args.text.now c.loop-at.at, c.line_end-end.ensures)

pub loop-at-preserved : goal.loop-at-preserved
loop-at-preserved c =
    let a = c.args in
    let l = c.loop-at in
    let m = c.mistake_at-mistake in
    let looked : Looked a.text.now a.version l.tally.most l.tally.counts m.new.tally.counts l.number l.at c.line_end-end.result c.line_of-line.result m.result =
    record {
      inside = omega arith;
      start = l.invariant.1;
      stop = c.line_end-end.ensures;
      tells = c.line_of-line.ensures;
      is = m.ensures.found;
      taken = m.ensures.counted;
    } in (
      omega (arith, line_within a.text.now l.at, c.line_end-end.ensures, l.invariant.0),
      start_next _ _ _ _ _ _ _ _ _ _ looked,
      rw m.ensures.most (sym (found_later _ _ _ _ _ _ _ _ _ _ looked (sym c.is_some.ensures ∙ c.if-is_some.false)) ∙ l.invariant.2),
    )

pub returns-then-tally-eq0 : goal.returns-then-tally-eq0
returns-then-tally-eq0 c =
    let a = c.args in
    let l = c.loop-at in
    sym (no_delays a.text.now a.version l.tally.most l.tally.counts l.number l.at (omega arith) c.if-tally-eq0.true) ∙ l.invariant.2

pub returns : goal.returns
returns c =
    let a = c.args in
    let l = c.loop-at in
    sym (no_mistake a.text.now a.version l.tally.most l.tally.counts l.number l.at (omega arith) c.if-tally-eq0.false) ∙ l.invariant.2

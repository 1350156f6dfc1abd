use mathlib.Core.Path.{sym, ◌∙◌}
use native.Mathlib.Omega.{arith}
use Rattle.table.specs.Refusals.{said, answer_of}
use Rattle.reader.proofs.AnsweringLaws.{first_bad_at, first_bad_none}
use Rattle.reader.proofs.references.first_bad.Goals as goal

pub returns-in-Some : goal.returns-in-Some
unfolding said answer_of
returns-in-Some g c f is =
    let a = c.args in
    let l = c.loop-i in
    first_bad_at f a.section a.rows l.i c.in-Some.test (omega arith) (sym (is l.i _ (omega arith) c.fault.ensures) ∙ c.in-Some.is)
    (λ k h. sym (is k _ (omega arith) (l.invariant k h)))

pub returns : goal.returns
unfolding said
returns g c f is = let a = c.args in first_bad_none f a.section a.rows (λ k h. sym (is k _ h (c.loop-i.invariant k (omega arith))))

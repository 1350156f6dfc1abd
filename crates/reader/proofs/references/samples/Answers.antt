use mathlib.Core.Path.{sym, ◌∙◌}
use native.Mathlib.Omega.{arith}
use Rattle.table.specs.Refusals.{said, answer_of}
use Rattle.sheet.specs.Sheet.{network_on}
use Rattle.reader.proofs.AnsweringLaws.{sample_bad, samples_good}
use Rattle.reader.proofs.references.samples.Goals as goal

pub returns-then-not-one_sample : goal.returns-then-not-one_sample
unfolding said answer_of
returns-then-not-one_sample c =
    let l = c.loop-s in
    sample_bad (network_on c.args.net.now) l.s (omega arith) l.invariant (sym c.one_sample.ensures ∙ c.if-not-one_sample.true)

pub returns : goal.returns
unfolding said
returns c = samples_good (network_on c.args.net.now) (λ k l. c.loop-s.invariant k (omega arith))

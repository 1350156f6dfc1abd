-- `unpacker::header::Header::test` meets its contract: answers 1 and 2, and behind them 3 and 4.
-- Assumes nothing.
use mathlib.Core.Path.{◌∙◌}
use native.Mathlib.Omega.{arith}
use Rattle.table.specs.Refusals.{answer_of, said}
use Rattle.unpacker.proofs.ExamineLaws.{too_short_lem, header_bad, header_good}
use Rattle.unpacker.proofs.header.Header.test.Goals as goal

pub returns-then-self-lt-HEADER_BYTES : goal.returns-then-self-lt-HEADER_BYTES
unfolding said answer_of
returns-then-self-lt-HEADER_BYTES c = too_short_lem c.args.self.now.table.now (omega arith)

pub returns-in-Some : goal.returns-in-Some
unfolding said answer_of
returns-in-Some c =
    let self = c.args.self.now in
    header_bad self.table.now (omega arith) _ _ self.read c.fault_of.ensures _ c.in-Some.is

pub returns : goal.returns
returns c =
    let self = c.args.self.now in
    c.test_sections.ensures ∙ header_good self.table.now (omega arith) _ _ self.read c.fault_of.ensures c.in_default.is

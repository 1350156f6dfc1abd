-- `writer::refusals::tested` meets its contract: 2 where it refuses, and else the first of 4 and 11 that does.
-- Assumes nothing.
use Rattle.std.proofs.Common.{arith}
use Rattle.table.specs.Lent.{lists_of}
use Rattle.table.specs.Refusals.{answer_of, said, given}
use Rattle.writer.proofs.RefusalLaws.{told_two, told_four, told_fits, told_eleven}
use Rattle.writer.proofs.refusals.tested.Goals as goal

pub returns-in-Err-clause-answer : goal.returns-in-Err-clause-answer
unfolding said given
returns-in-Err-clause-answer c = told_two (lists_of c.args.lists) c.args.room _ c.in-Err.ensures

pub returns-in-Err-records_tested-clause-answer : goal.returns-in-Err-records_tested-clause-answer
unfolding said given
returns-in-Err-records_tested-clause-answer c =
    told_four (lists_of c.args.lists) c.args.room _ c.in_default.ensures c.in-Err-records_tested.ensures

pub returns-then-bytes-room-clause-answer : goal.returns-then-bytes-room-clause-answer
unfolding said given
returns-then-bytes-room-clause-answer c =
    told_fits (lists_of c.args.lists) c.args.room c.in_default.ensures c.in_default-records_tested.ensures
    (omega (arith, c.table_bytes-bytes.ensures))

pub returns-else-bytes-room-clause-answer : goal.returns-else-bytes-room-clause-answer
unfolding said answer_of given
returns-else-bytes-room-clause-answer c =
    told_eleven (lists_of c.args.lists) c.args.room c.in_default.ensures c.in_default-records_tested.ensures
    (omega (arith, c.table_bytes-bytes.ensures))

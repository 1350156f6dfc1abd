-- `writer::source::section_bytes` meets its contract: the bytes of all rows are so few that they can be counted.
-- Assumes nothing.
use Rattle.std.proofs.Common.{◌*◌, ◌^◌, ◌≤◌, arith}
use Rattle.table.specs.Lent.{lists_of}
use Rattle.table.specs.Write.{numbers_in}
use Rattle.writer.proofs.SectionLaws.{bytes_few}
use Rattle.writer.proofs.source.section_bytes.Goals.{After-bytes_in}
use Rattle.writer.proofs.source.section_bytes.Goals as goal

few : (c : After-bytes_in) → c.rows_in.result * c.bytes_in.result ≤ 2 ^ 61
few c =
    let s = c.args.section in
    let counted : c.rows_in.result * numbers_in s ≤ 2 ^ 60 = c.rows_in.ensures.few in
    rw (c.bytes_in.ensures, c.kind_of.ensures, c.rows_in.ensures.is) (bytes_few (lists_of c.args.lists) s (rw c.rows_in.ensures.is at counted))

pub overflow_mul-result : goal.overflow_mul-result
overflow_mul-result c = omega (arith, few c)

pub returns-clause-few : goal.returns-clause-few
returns-clause-few c = few c

-- `writer::source::header_row` meets its contract: the version, the counts and the delays stand in their order.
-- Assumes nothing.
use Rattle.writer.proofs.HeaderRow.{header_is}
use Rattle.writer.proofs.source.header_row.Goals as goal

pub returns : goal.returns
returns c =
    rw (
      c.rows_in.ensures.is,
      c.rows_in-2.ensures.is,
      c.rows_in-3.ensures.is,
      c.rows_in-4.ensures.is,
      c.rows_in-5.ensures.is,
      c.header_number.ensures,
      c.header_number-2.ensures,
      c.header_number-3.ensures,
      c.header_number-4.ensures,
      c.header_number-5.ensures,
    )
    (header_is _)

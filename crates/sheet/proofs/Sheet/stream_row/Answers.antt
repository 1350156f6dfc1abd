-- `Sheet::stream_row` meets its contract: stream s is the seven numbers of its record.
-- Assumes nothing.
use native.Mathlib.Omega.{arith}
use Rattle.layout.specs.Limits.{most}
use Rattle.layout.proofs.SizeLaws.{most_are}
use Rattle.network.specs.Network.{no_stream}
use Rattle.table.specs.Decoded.{network_of}
use Rattle.sheet.specs.Sheet.{lists_to}
use Rattle.sheet.specs.Walks.{stream_row}
use Rattle.sheet.proofs.SheetLaws.{stream_read, past, streams_to}
use Rattle.sheet.proofs.Sheet.stream_row.Goals as goal

pub returns-then-s-ge-MOST_STREAMS : goal.returns-then-s-ge-MOST_STREAMS
unfolding stream_row
returns-then-s-ge-MOST_STREAMS c =
    let a = c.args in
    past (network_of (lists_to most a.self.now)).streams no_stream a.s (omega (arith, streams_to most a.self.now, most_are.streams))

pub returns : goal.returns
unfolding stream_row
returns c = let a = c.args in stream_read most a.self.now a.s (omega (arith, most_are.streams))

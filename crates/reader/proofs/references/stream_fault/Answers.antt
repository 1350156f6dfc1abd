-- `reader::references::stream_fault` meets its contract: each comparison decides one test.
-- Assumes nothing.
use native.Mathlib.Omega.{arith}
use Rattle.sheet.specs.Sheet.{network_on}
use Rattle.reader.proofs.ReferringLaws.{stream_no_vl, stream_no_sub_link, stream_good}
use Rattle.reader.proofs.references.stream_fault.Goals as goal

pub returns-then-vls-stream : goal.returns-then-vls-stream
returns-then-vls-stream c = let a = c.args in stream_no_vl (network_on a.net.now) a.s _ c.stream-stream.ensures (omega arith)

pub returns-then-vl-stream : goal.returns-then-vl-stream
returns-then-vl-stream c =
    let a = c.args in stream_no_sub_link (network_on a.net.now) a.s _ c.stream-stream.ensures (omega arith) _ c.vl.ensures (omega arith)

pub returns-else-vl-stream : goal.returns-else-vl-stream
returns-else-vl-stream c =
    let a = c.args in stream_good (network_on a.net.now) a.s _ c.stream-stream.ensures (omega arith) _ c.vl.ensures (omega arith)

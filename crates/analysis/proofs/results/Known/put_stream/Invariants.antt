-- `analysis::results::Known::put_stream` meets its contract: after h turns the rows of the stream up to hop h stand behind those of the
-- streams before. Assumes nothing.
use lib.ListN.{length}
use Rattle.sheet.specs.Sheet.{network_on}
use Rattle.analysis.proofs.JoinLaws.{PutTo}
use Rattle.analysis.proofs.results.Known.put_stream.Given as goal

abbrev pub invariant-loop-h : goal.invariant-loop-h
invariant-loop-h l = PutTo (network_on l.self.net.sheet.now) l.s l.h l.next (length l.initial.res) l.res

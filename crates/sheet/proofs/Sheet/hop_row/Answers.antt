-- `Sheet::hop_row` meets its contract: hop h is the three numbers of its record, of which the last is 0 at a root and else the row behind the parent.
-- Assumes nothing.
use native.Mathlib.Omega.{arith}
use Rattle.layout.specs.Limits.{most}
use Rattle.layout.proofs.SizeLaws.{most_are}
use Rattle.network.specs.Network.{no_hop}
use Rattle.table.specs.Decoded.{network_of}
use Rattle.sheet.specs.Sheet.{lists_to}
use Rattle.sheet.specs.Walks.{hop_row}
use Rattle.sheet.proofs.SheetLaws.{hop_read, past, hops_to}
use Rattle.sheet.proofs.Sheet.hop_row.Goals as goal

pub returns-then-h-ge-MOST_HOPS : goal.returns-then-h-ge-MOST_HOPS
unfolding hop_row
returns-then-h-ge-MOST_HOPS c =
    let a = c.args in past (network_of (lists_to most a.self.now)).hops no_hop a.h (omega (arith, hops_to most a.self.now, most_are.hops))

pub returns : goal.returns
unfolding hop_row
returns c = let a = c.args in hop_read most a.self.now a.h _ (omega (arith, most_are.hops)) c.parent_of.ensures

-- Each turn adds the flow at its place to the tally.
-- Assumes nothing.
use mathlib.Core.Path.{sym, ◌∙◌}
use native.Mathlib.Omega.{arith}
use Rattle.station.proofs.Tallies.{tally_none, tally_more, tally_stops}
use Rattle.station.proofs.flows.sweep.Goals as goal

pub loop-i-init : goal.loop-i-init
loop-i-init g c = rw c.empty-tally.ensures (tally_none _)

pub returns-in-None : goal.returns-in-None
returns-in-None g c =
    sym (tally_stops _ c.loop-i.i _ _ c.requires.few c.requires.low (omega (arith, c.count-i-end.ensures)) c.loop-i.invariant
    (sym (rw c.flow.ensures at c.in-None.ensures)))

pub loop-i-preserved : goal.loop-i-preserved
loop-i-preserved g c =
    (rw c.flow.ensures at c.in-Some.ensures)
    ∙ tally_more _ c.loop-i.i _ _ c.requires.few c.requires.low (omega (arith, c.count-i-end.ensures)) c.loop-i.invariant

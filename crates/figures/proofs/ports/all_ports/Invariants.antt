-- `figures::ports::all_ports` meets its contract: after p turns the first p ports have busy lengths, and the figures of the hops on them are noted.
-- Assumes nothing.
use Rattle.sheet.specs.Sheet.{network_on}
use Rattle.figures.proofs.FigureLaws.{PortsTo}
use Rattle.figures.proofs.ports.all_ports.Given as goal

abbrev pub invariant-loop-p : goal.invariant-loop-p
invariant-loop-p l = PortsTo (network_on l.net.sheet.now) l.p l.figures l.jitters

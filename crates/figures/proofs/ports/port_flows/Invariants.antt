-- `figures::ports::port_flows` meets its contract: after h turns the flows of the first h hops that are on the port are gathered, and their jitters are noted.
-- Assumes nothing.
use Rattle.sheet.specs.Sheet.{network_on}
use Rattle.figures.proofs.PortFlowLaws.{Gathering}
use Rattle.figures.proofs.ports.port_flows.Given as goal

abbrev pub invariant-loop-h : goal.invariant-loop-h
invariant-loop-h l = Gathering (network_on l.net.sheet.now) l.p l.h l.jitters l.flows

-- `analysis::results::Known::route_ticks` meets its contract: after each turn the sums and what is left of the route are together what the
-- whole route adds. Assumes nothing.
use Rattle.sheet.specs.Sheet.{network_on}
use Rattle.analysis.proofs.RouteLaws.{Walked}
use Rattle.analysis.proofs.results.Known.route_ticks.Given as goal

abbrev pub invariant-loop : goal.invariant-loop
invariant-loop l = Walked (network_on l.self.net.sheet.now) l.h l.counter l.g l.ticks.most l.ticks.least

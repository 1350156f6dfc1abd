-- `figures::ports::put_figure` meets its contract: after h turns the figure is noted for those of the first h hops that are on the port.
-- Assumes nothing.
use Rattle.rows.specs.Ports.{figure_of}
use Rattle.sheet.specs.Sheet.{network_on}
use Rattle.figures.proofs.NotedLaws.{NotedTo}
use Rattle.figures.proofs.ports.put_figure.Given as goal

abbrev pub invariant-loop-h : goal.invariant-loop-h
invariant-loop-h l = let net = network_on l.net.sheet.now in NotedTo net (figure_of net) l.p l.h l.figures

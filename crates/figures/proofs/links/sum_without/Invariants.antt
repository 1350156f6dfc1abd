-- `figures::links::sum_without` meets its contract: after v turns the sum is that of the first v VLs.
-- Assumes nothing.
use mathlib.Core.Path.{◌≡◌}
use Rattle.sheet.specs.Sheet.{network_on}
use Rattle.figures.specs.Computing.{sum_without}
use Rattle.figures.proofs.links.sum_without.Given as goal

abbrev pub invariant-loop-v : goal.invariant-loop-v
invariant-loop-v l = l.sum ≡ sum_without (network_on l.net.sheet.now) l.e l.but l.v

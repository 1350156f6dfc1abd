-- `figures::links::mux_waits` meets its contract: after v turns the mux waits of the first v VLs stand in their places; each leaves the
-- VL itself out. Assumes nothing.
use mathlib.Core.Path.{◌≡◌}
use Rattle.layout.specs.Limits.{limits}
use Rattle.rows.specs.Links.{mux_wait}
use Rattle.sheet.specs.Sheet.{network_on}
use Rattle.figures.specs.Computing.{noted}
use Rattle.figures.proofs.links.mux_waits.Given as goal

abbrev pub invariant-loop-v : goal.invariant-loop-v
invariant-loop-v l = l.waits ≡ noted (mux_wait (network_on l.net.sheet.now)) limits.vls l.v

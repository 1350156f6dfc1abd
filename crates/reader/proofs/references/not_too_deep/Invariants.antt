-- `reader::references::not_too_deep` meets its contract: the route of h is longer than 8 if the route of g is longer than what is left of the 8.
-- Assumes nothing.
use Prim.Native.Nat.{◌-◌}
use mathlib.Core.Path.{◌≡◌}
use Rattle.network.specs.References.{route_longer}
use Rattle.sheet.specs.Sheet.{network_on}
use Rattle.reader.proofs.references.not_too_deep.Given as goal

abbrev pub invariant-loop : goal.invariant-loop
invariant-loop l = route_longer (network_on l.net) 8 l.h ≡ route_longer (network_on l.net) (8 - l.counter) l.g

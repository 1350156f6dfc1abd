-- `reader::references::no_earlier_twin` meets its contract: after g turns none of the first g hops is a twin.
-- Assumes nothing.
use Prim.Native.Nat.{ℕ, ◌<◌}
use mathlib.Core.Bool.{false}
use mathlib.Core.Path.{◌≡◌}
use Rattle.network.specs.References.{twin_of}
use Rattle.sheet.specs.Sheet.{network_on}
use Rattle.reader.proofs.references.no_earlier_twin.Given as goal

abbrev pub invariant-loop-g : goal.invariant-loop-g
invariant-loop-g l = (k : ℕ) → k < l.g → twin_of (network_on l.net) l.h k ≡ false

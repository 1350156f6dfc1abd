-- `reader::references::has_hop` meets its contract: after h turns none of the first h hops is of the VL.
-- Assumes nothing.
use Prim.Native.Nat.{ℕ, ◌<◌}
use mathlib.Core.Path.{◌≡◌}
use Rattle.network.specs.Network.{hop_at}
use Rattle.sheet.specs.Sheet.{network_on}
use Rattle.reader.proofs.references.has_hop.Given as goal

abbrev pub invariant-loop-h : goal.invariant-loop-h
invariant-loop-h l = (k : ℕ) → k < l.h → (hop_at (network_on l.net) k).vl ≡ l.v → ⊥

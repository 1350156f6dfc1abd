-- `Figures::clear` meets its contract: each list is cleared.
-- Assumes nothing.
use Prim.Native.Nat.{ℕ, ◌*◌}
use mathlib.Core.List.{List}
use mathlib.Core.Path.{◌≡◌, ap, ◌∙◌}
use native.Mathlib.Omega.{arith}
use lib.ListN.{length, replicate}
use Rattle.layout.specs.Limits.{limits}
use Rattle.figures.specs.Figures.{no_figures}
use Rattle.figures.proofs.found.Figures.clear.Goals as goal

-- a list that is cleared, by its length
cleared : (list : List ℕ) (n m : ℕ) → list ≡ replicate n 0 → n ≡ m → list ≡ replicate m 0
cleared list n m e l = e ∙ ap (λ (k : ℕ). replicate k 0) l

pub returns : goal.returns
unfolding no_figures
returns c =
    let waits = cleared _ (length c.args.self.now.waits) limits.vls c.clear.ensures (omega arith) in
    let queues = cleared _ (length c.args.self.now.queues) (limits.vls * 4) c.clear-2.ensures (omega arith) in
    let hops = cleared _ (length c.args.self.now.hops) limits.hops c.clear-3.ensures (omega arith) in
    λ i. record { waits = waits i; queues = queues i; hops = hops i }

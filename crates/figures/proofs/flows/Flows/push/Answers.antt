-- `Flows::push` meets its contract: there is room, and the flow is put at the first free place.
-- Assumes nothing.
use mathlib.Core.List.{List, [], ◌∷◌, ◌++◌}
use mathlib.Core.Path.{◌≡◌, ap, ◌∙◌}
use Prim.Native.Nat.{ℕ, ◌≤◌, ◌<◌}
use native.Mathlib.Omega.{arith}
use lib.ListN.{length, take}
use Rattle.std.proofs.lemmas.List.{length-take-le, take_more_set}
use Rattle.station.specs.Station.{Flow}
use Rattle.station.specs.Offered.{most_flows}
use Rattle.figures.proofs.flows.Flows.push.Goals as goal

-- there is room behind the flows that are there
room : (list flows : List Flow) (count : ℕ) → length list ≡ 1024 → count ≤ 1024 → take count list ≡ flows → length flows < most_flows → count < 1024
unfolding most_flows
room list flows count long fits is few = omega (arith, length-take-le count list (omega arith), ap length is)

pub bounds-self-inside-self-inside : goal.bounds-self-inside-self-inside
bounds-self-inside-self-inside c = room c.self.inside.list _ c.self.inside.count (omega arith) c.self.invariant c.self.view_is c.requires

pub invariant_of-self : goal.invariant_of-self
invariant_of-self c =
    let here = room c.self.inside.list _ c.self.inside.count (omega arith) c.self.invariant c.self.view_is c.requires in
    omega arith

pub returns : goal.returns
returns c =
    let here = room c.self.inside.list _ c.self.inside.count (omega arith) c.self.invariant c.self.view_is c.requires in
    take_more_set c.self.inside.list c.self.inside.count c.args.flow (omega arith) ∙ ap (λ (fs : List Flow). fs ++ (c.args.flow ∷ [])) c.self.view_is

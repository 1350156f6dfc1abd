use Prim.Native.Nat.{ℕ, ◌+◌, ◌-◌}
use mathlib.Core.Path.{◌≡◌, refl, sym, ap, ◌∙◌}
use native.Mathlib.Omega.{arith}
use Rattle.network.specs.declared.Hop.{Hop}
use Rattle.network.specs.References.{route_longer}
use Rattle.sheet.specs.Sheet.{network_on}
use Rattle.reader.proofs.HopLaws.{route_ends, route_goes_on, route_too_long}
use Rattle.reader.proofs.references.not_too_deep.Goals as goal

pub loop-init : goal.loop-init
loop-init c = refl

pub returns-in_default : goal.returns-in_default
returns-in_default c =
    let a = c.args in
    let l = c.loop in
    route_ends (network_on a.net.now) a.h _ l.g (omega arith) l.invariant (ap (λ (x : Hop). x.parent) (sym c.hop.ensures) ∙ c.in_default.is)

pub loop-preserved : goal.loop-preserved
loop-preserved c =
    let a = c.args in
    let l = c.loop in
    let left : 8 - l.counter - 1 ≡ 8 - (l.counter + 1) = omega arith in
    route_goes_on (network_on a.net.now) a.h _ l.g (omega arith) l.invariant _ (ap (λ (x : Hop). x.parent) (sym c.hop.ensures) ∙ c.in-Some.is)
    ∙ ap (λ (n : ℕ). route_longer (network_on a.net.now) n c.in-Some.above) left

pub returns : goal.returns
returns c = let a = c.args in route_too_long (network_on a.net.now) a.h _ c.loop.g (omega arith) c.loop.invariant

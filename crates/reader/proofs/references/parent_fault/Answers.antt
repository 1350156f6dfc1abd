-- `reader::references::parent_fault` meets its contract: each comparison decides one test of the parent.
-- Assumes nothing.
use mathlib.Core.Path.{◌≡◌, sym, ap, ◌∙◌}
use Rattle.std.specs.Prelude.{Some}
use native.Mathlib.Omega.{arith}
use Rattle.network.specs.declared.Hop.{Hop}
use Rattle.network.specs.Network.{parent_at}
use Rattle.sheet.specs.Sheet.{network_on}
use Rattle.reader.proofs.ReferringLaws.{parent_nothing, parent_later, parent_of_other, parent_not_lower, parent_good}
use Rattle.reader.proofs.references.parent_fault.Goals as goal

pub returns-in_default : goal.returns-in_default
returns-in_default c =
    let a = c.args in parent_nothing (network_on a.net.now) a.h (ap (λ (x : Hop). x.parent) (sym c.hop-hop.ensures) ∙ c.in_default.is)

pub returns-then-h-g : goal.returns-then-h-g
returns-then-h-g c =
    let parent_is : parent_at (network_on c.args.net.now) c.args.h ≡ Some c.in-Some.g = ap (λ (x : Hop). x.parent) (sym c.hop-hop.ensures) ∙ c.in-Some.is in
    parent_later (network_on c.args.net.now) c.args.h _ parent_is (omega arith)

pub returns-then-above-hop : goal.returns-then-above-hop
returns-then-above-hop c =
    let a = c.args in
    let net = network_on a.net.now in
    let hop = c.hop-hop.ensures in
    let above = c.hop-above.ensures in
    parent_of_other net a.h _ (ap (λ (x : Hop). x.parent) (sym hop) ∙ c.in-Some.is) (omega arith)
    (λ e. c.if-above-hop.true (ap (λ (x : Hop). x.vl) above ∙ e ∙ ap (λ (x : Hop). x.vl) (sym hop)))

pub returns-then-hop-above : goal.returns-then-hop-above
returns-then-hop-above c =
    let a = c.args in
    let net = network_on a.net.now in
    let hop = c.hop-hop.ensures in
    let above = c.hop-above.ensures in
    parent_not_lower net a.h _ (ap (λ (x : Hop). x.parent) (sym hop) ∙ c.in-Some.is) (omega arith)
    (ap (λ (x : Hop). x.vl) (sym above) ∙ c.if-above-hop.false ∙ ap (λ (x : Hop). x.vl) hop) (omega (arith, ap (λ (x : Hop). x.port) hop, ap (λ (x : Hop). x.port) above))

pub returns-else-hop-above : goal.returns-else-hop-above
returns-else-hop-above c =
    let a = c.args in
    let net = network_on a.net.now in
    let hop = c.hop-hop.ensures in
    let above = c.hop-above.ensures in
    parent_good net a.h _ (ap (λ (x : Hop). x.parent) (sym hop) ∙ c.in-Some.is) (omega arith)
    (ap (λ (x : Hop). x.vl) (sym above) ∙ c.if-above-hop.false ∙ ap (λ (x : Hop). x.vl) hop) (omega (arith, ap (λ (x : Hop). x.port) hop, ap (λ (x : Hop). x.port) above))

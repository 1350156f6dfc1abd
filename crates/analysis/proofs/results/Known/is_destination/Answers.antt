-- `analysis::results::Known::is_destination` meets its contract: the hop is read off the sheet, and all leaves were noted.
-- Assumes nothing.
use Prim.Native.Nat.{ℕ}
use mathlib.Core.Bool.{Bool, ◌&&◌}
use mathlib.Core.Path.{sym, ap, ◌∙◌}
use native.Mathlib.Omega.{arith}
use borrow.Author.Tests.{eq-eqb, ne_eqb}
use lib.Dec.{eqb}
use Rattle.network.specs.declared.Hop.{Hop}
use Rattle.network.specs.Network.{hop_at}
use Rattle.network.specs.Views.{leaf}
use Rattle.sheet.specs.Sheet.{network_on}
use Rattle.sheet.proofs.GoodLaws.{good_of}
use Rattle.sheet.proofs.LeafLaws.{leaf_read}
use Rattle.figures.proofs.RangeLaws.{hop_walked}
use Rattle.analysis.proofs.results.Known.is_destination.Goals as goal

pub returns-then-hop_row-vl : goal.returns-then-hop_row-vl
returns-then-hop_row-vl c =
    let a = c.args in
    let net = network_on a.self.net.sheet.now in
    let good = good_of a.self.net.good in
    let vl = ap (λ (x : Hop). x.vl) (hop_walked good c.hop_row.ensures c.requires) in
    leaf_read a.self.net.sheet.now a.self.leaves.now a.h a.self.noted (omega (arith, good.ranges.few_hops, c.requires))
    ∙ sym (ap (λ (b : Bool). b && leaf net a.h) (eq-eqb (hop_at net a.h).vl a.vl (sym vl ∙ c.if-hop_row-vl.true)))

pub returns-else-hop_row-vl : goal.returns-else-hop_row-vl
returns-else-hop_row-vl c =
    let a = c.args in
    let net = network_on a.self.net.sheet.now in
    let vl = ap (λ (x : Hop). x.vl) (hop_walked (good_of a.self.net.good) c.hop_row.ensures c.requires) in
    let other = ne_eqb (hop_at net a.h).vl a.vl (λ e. c.if-hop_row-vl.false (vl ∙ e)) in
    ap (λ (v : ℕ). eqb v a.vl) vl ∙ other ∙ sym (ap (λ (b : Bool). b && leaf net a.h) other)

use mathlib.Core.List.{List}
use Prim.Native.Nat.{ℕ}
use mathlib.Core.Path.{sym, ap, ◌∙◌}
use native.Mathlib.Omega.{arith}
use lib.ListN.{set}
use Rattle.layout.specs.Limits.{limits}
use Rattle.rows.specs.Links.{mux_wait}
use Rattle.sheet.specs.Sheet.{network_on}
use Rattle.sheet.proofs.GoodLaws.{good_of}
use Rattle.figures.specs.Figures.{waits_of}
use Rattle.figures.specs.Computing.{noted}
use Rattle.figures.proofs.FillLaws.{noted_none, noted_more}
use Rattle.figures.proofs.LinkLaws.{mux_wait_is}
use Rattle.figures.proofs.RangeLaws.{vl_system}
use Rattle.figures.proofs.links.mux_waits.Goals as goal

pub loop-v-init : goal.loop-v-init
loop-v-init c = c.requires ∙ noted_none _ limits.vls

pub sum_without-requires : goal.sum_without-requires
sum_without-requires c = vl_system (good_of c.args.net.good) c.vl.ensures (omega arith)

pub loop-v-preserved : goal.loop-v-preserved
loop-v-preserved c =
    let l = c.loop-v in
    ap (λ (ws : List ℕ). set ws l.v c.sum_without.result) l.invariant
    ∙ noted_more _ limits.vls l.v _ (omega arith) (c.sum_without.ensures ∙ rw c.vl.ensures (sym (mux_wait_is _ _)))

pub returns : goal.returns
unfolding waits_of
returns c =
    let l = c.loop-v in
    l.invariant ∙ ap (noted (mux_wait (network_on c.args.net.sheet.now)) limits.vls) (omega arith)

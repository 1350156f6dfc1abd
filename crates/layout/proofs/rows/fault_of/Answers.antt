-- `layout::rows::fault_of` meets its contract: the first field that is refused is the fault, and where there is none, the first pair.
-- Assumes nothing.
use mathlib.Core.Path.{sym, ◌∙◌}
use native.Mathlib.Omega.{arith}
use Rattle.layout.proofs.FaultLaws.{fault_field, fault_order}
use Rattle.layout.proofs.TurnLaws.{refused_here, good_more}
use Rattle.layout.proofs.rows.fault_of.Goals as goal

pub returns-in_default : goal.returns-in_default
returns-in_default c =
    let a = c.args in
    let l = c.loop-k in
    sym (fault_field a.way a.kind a.row.now l.k (omega arith) l.invariant
    (refused_here a.way a.kind a.row.now l.k _ c.shape_at.ensures (sym c.in_default.ensures)))

pub loop-k-preserved : goal.loop-k-preserved
loop-k-preserved c =
    let a = c.args in
    let l = c.loop-k in
    good_more a.way a.kind a.row.now l.k _ c.shape_at.ensures l.invariant _ (sym c.in-Some.ensures)

pub returns : goal.returns
returns c =
    let a = c.args in
    c.order_fault.ensures ∙ sym (fault_order a.way a.kind a.row.now (λ i h. c.loop-k.invariant i (omega arith)))

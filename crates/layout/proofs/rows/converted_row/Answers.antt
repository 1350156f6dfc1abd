-- `layout::rows::converted_row` meets its contract: a turn puts the next number into the array.
-- Assumes nothing.
use mathlib.Core.Path.{sym, ◌∙◌}
use mathlib.Core.List.{[]}
use native.Mathlib.Omega.{arith}
use Rattle.layout.specs.Layout.{layout}
use Rattle.layout.specs.Rows.{converted}
use Rattle.layout.proofs.LayoutLaws.{few_fields}
use Rattle.layout.proofs.RowLaws.{length_converted, converted_at, wide_start}
use Rattle.layout.proofs.TurnLaws.{filled_more, filled_all}
use Rattle.layout.proofs.rows.converted_row.Goals as goal

pub loop-k-init : goal.loop-k-init
loop-k-init c = sym (wide_start [])

pub loop-k-preserved : goal.loop-k-preserved
loop-k-preserved c =
    let a = c.args in
    let l = c.loop-k in
    let row = converted a.way (layout a.kind) a.row.now in
    let n = length_converted a.way (layout a.kind) a.row.now in
    let v = c.converted_number.ensures ∙ sym (converted_at a.way (layout a.kind) a.row.now l.k (omega arith)) in
    filled_more row _ l.k _ (omega (arith, few_fields a.kind)) (omega arith) l.invariant v

pub returns : goal.returns
returns c =
    let a = c.args in
    filled_all _ _ c.loop-k.k (omega (arith, length_converted a.way (layout a.kind) a.row.now)) c.loop-k.invariant

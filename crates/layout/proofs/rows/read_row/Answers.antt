-- `layout::rows::read_row` meets its contract: a turn puts the next field into the array.
-- Assumes nothing.
use mathlib.Core.Path.{sym, ap, ◌∙◌}
use native.Mathlib.Omega.{arith}
use lib.ListN.{length}
use Rattle.bits.specs.Rows.{read_all}
use Rattle.bits.proofs.PartLaws.{total_start}
use Rattle.bits.proofs.RecordLaws.{length_read}
use Rattle.layout.specs.Layout.{widths}
use Rattle.layout.specs.Promises.{wide}
use Rattle.layout.proofs.LayoutLaws.{few_fields, length_widths}
use Rattle.layout.proofs.RowLaws.{wide_start, wide_zeros}
use Rattle.layout.proofs.RoomLaws.{row_none}
use Rattle.layout.proofs.TurnLaws.{filled_more, read_more, read_all_lem}
use Rattle.layout.proofs.rows.read_row.Goals as goal

pub loop-k-init : goal.loop-k-init
loop-k-init c =
    let ws = widths c.args.kind in
    (omega (arith, total_start ws, c.new-cursor.ensures), sym (wide_start ws))

pub loop-k-preserved : goal.loop-k-preserved
loop-k-preserved c =
    let a = c.args in
    let l = c.loop-k in
    let room = sym c.has_row.ensures ∙ c.if-has_row.true in
    let ws = widths a.kind in
    let n = length_widths a.kind in
    let m = length_read a.table.now a.at ws in
    let got = read_more a.table.now a.at a.kind l.k room (omega arith) _ c.shape_at.ensures _ l.invariant.0 _ c.read-field.ensures in
    (got.0, filled_more (read_all a.table.now a.at ws) _ l.k _ (omega (arith, few_fields a.kind)) (omega arith) l.invariant.1 got.1)

pub returns-after-loop-k : goal.returns-after-loop-k
returns-after-loop-k c =
    let a = c.args in
    let l = c.loop-k in
    let room = sym c.has_row.ensures ∙ c.if-has_row.true in
    read_all_lem a.table.now a.at a.kind l.k room (omega arith) _ l.invariant.1

pub returns-else-has_row : goal.returns-else-has_row
returns-else-has_row c =
    let a = c.args in
    let none = row_none a.table.now a.at a.kind (sym c.has_row.ensures ∙ c.if-has_row.false) in
    sym (ap wide none ∙ wide_zeros (length (widths a.kind)) (omega (arith, length_widths a.kind, few_fields a.kind)))

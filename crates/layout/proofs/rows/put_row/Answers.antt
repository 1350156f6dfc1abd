-- `layout::rows::put_row` meets its contract: a turn writes the next field, and the row has a number for each.
-- Assumes nothing.
use mathlib.Core.Path.{◌≡◌, refl, sym, ◌∙◌}
use native.Mathlib.Omega.{arith}
use lib.ListN.{length, get_or}
use mir.Syntax.{w64}
use borrow.Kind.Array.{e_int, good_length}
use Rattle.bits.proofs.PartLaws.{total_start, put_start}
use Rattle.layout.specs.Layout.{layout, blank, widths}
use Rattle.layout.proofs.LayoutLaws.{few_fields}
use Rattle.layout.proofs.RoomLaws.{put_none}
use Rattle.layout.proofs.TurnLaws.{write_more, written_all}
use Rattle.layout.proofs.rows.put_row.Goals as goal

pub loop-k-init : goal.loop-k-init
loop-k-init c =
    let a = c.args in
    let ws = widths a.kind in
    (omega (arith, total_start ws, c.new-cursor.ensures), sym (put_start a.table.now a.at ws a.row))

pub loop-k-preserved : goal.loop-k-preserved
loop-k-preserved c =
    let eleven : length c.args.row ≡ 11 = good_length (e_int w64) 11 c.args.row _ c.well_formed.1.1.1.0 in
    let a = c.args in
    let l = c.loop-k in
    let room = sym c.has_row.ensures ∙ c.if-has_row.true in
    write_more a.table.now a.at a.kind l.k room (omega arith) (get_or (layout a.kind) l.k blank) refl _ l.invariant.0 l.table _ a.row _
    (omega (arith, eleven, few_fields a.kind))
    l.invariant.1
    (rw (c.width_at.ensures) at c.put-cursor.ensures)

pub returns-after-loop-k : goal.returns-after-loop-k
returns-after-loop-k c =
    let eleven : length c.args.row ≡ 11 = good_length (e_int w64) 11 c.args.row _ c.well_formed.1.1.1.0 in
    let a = c.args in
    let l = c.loop-k in
    let room = sym c.has_row.ensures ∙ c.if-has_row.true in
    written_all a.table.now a.at a.kind l.k room (omega arith) _ a.row (omega arith)
    (omega (arith, eleven, few_fields a.kind))
    l.invariant.1

pub returns-else-has_row : goal.returns-else-has_row
returns-else-has_row c =
    let a = c.args in
    sym (put_none a.table.now a.at a.kind a.row (sym c.has_row.ensures ∙ c.if-has_row.false))

use Rattle.std.proofs.Common.{◌+◌, ◌*◌, arith}
use Rattle.layout.specs.Layout.{size}
use Rattle.table.specs.Lent.{lists_of}
use Rattle.table.specs.Lists.{kind_for}
use Rattle.table.specs.Write.{count, meant}
use Rattle.writer.proofs.PutLaws.{row_put, put_none, put_one_more, room_for}
use Rattle.writer.proofs.put_section.Goals as goal

pub loop-i-init : goal.loop-i-init
loop-i-init c = put_none (lists_of c.args.lists) c.args.section c.args.at c.args.out.now

pub loop-i-preserved : goal.loop-i-preserved
loop-i-preserved c =
    let a = c.args in
    let ls = lists_of a.lists in
    let k = kind_for ls a.section in
    let l = c.loop-i in
    let room = room_for ls a.section a.at a.out.now (count ls a.section) l.i l.out c.requires.1 (omega (arith, c.rows_in-i-end.ensures.is)) l.auto.out in
    put_one_more ls a.section a.at a.out.now l.i l.out _ l.invariant
    (row_put (meant ls a.section l.i) k (a.at + l.i * size k) l.out _ _ _ room c.row_of.ensures
    (rw c.kind_of-kind.ensures at c.converted_row-row.ensures)
    (rw (c.bytes_in-size.ensures, c.kind_of-kind.ensures) at c.put_row.ensures))

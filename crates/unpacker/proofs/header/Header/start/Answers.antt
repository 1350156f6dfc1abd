use native.Mathlib.Omega.{arith}
use Rattle.table.proofs.SectionLaws.{from_most}
use Rattle.unpacker.proofs.HeaderLaws.{start_0, bytes_most, start_more}
use Rattle.unpacker.proofs.header.Header.start.Goals as goal

pub loop-s-init : goal.loop-s-init
loop-s-init c = start_0 c.args.self.now.table.now

pub overflow_mul-at : goal.overflow_mul-at
overflow_mul-at c =
    rw (c.count.ensures, c.bytes_in.ensures, c.kind.ensures) (omega (arith, bytes_most c.args.self.now.table.now c.loop-s.s (omega arith)))

pub overflow_add-at : goal.overflow_add-at
overflow_add-at c =
    let bytes = c.args.self.now.table.now in
    rw (c.count.ensures, c.bytes_in.ensures, c.kind.ensures)
    (omega (arith, bytes_most bytes c.loop-s.s (omega arith), from_most bytes c.loop-s.s (omega arith)))

pub loop-s-preserved : goal.loop-s-preserved
loop-s-preserved c =
    rw (c.loop-s.invariant, c.count.ensures, c.bytes_in.ensures, c.kind.ensures) (start_more c.args.self.now.table.now c.loop-s.s)

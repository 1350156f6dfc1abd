-- `unpack::record_line` meets its contract: the numbers of the record are those at its place in the list.
-- Assumes nothing.
use Rattle.std.proofs.Common.{◌≡◌, ◌+◌, ◌-◌, ◌*◌, arith}
use Rattle.notation.specs.Printed.{record_in}
use Rattle.unpack.proofs.record_line.Goals as goal

pub returns : goal.returns
unfolding record_in
returns c =
    let each = c.numbers_in-each.result in
    let start = c.args.i * each in
    let long : start + each - start ≡ each = omega arith in
    rw (← c.numbers_in-each.ensures) (rw long at c.numbers_line.ensures)

-- `unpacker::section::Section::read` meets its contract: the row is where the rows before it end.
-- Assumes nothing.
use mathlib.Core.Path.{ap, ◌∙◌}
use Prim.Native.Nat.{◌*◌, ◌≤◌}
use native.Mathlib.Omega.{arith}
use Rattle.layout.specs.Promises.{wide}
use Rattle.unpacker.proofs.RowLaws.{place_low, row_is}
use Rattle.unpacker.proofs.section.Section.read.Goals.{After-bytes_in}
use Rattle.unpacker.proofs.section.Section.read.Goals as goal

low : (c : After-bytes_in) → (c.args.i * c.bytes_in.result ≤ 57344) × (c.args.self.now.at ≤ 344064)
low c =
    let self = c.args.self.now in
    rw (c.bytes_in.ensures, self.of_kind, self.begins) (place_low self.table.now self.section c.args.i self.known c.requires)

pub overflow_mul-at : goal.overflow_mul-at
overflow_mul-at c = omega (arith, low c)

pub overflow_add-at : goal.overflow_add-at
overflow_add-at c = omega (arith, low c)

pub overflow_mul-at-2 : goal.overflow_mul-at-2
overflow_mul-at-2 c = omega (arith, low (goal.at.overflow_mul-at-2 c).After-bytes_in)

pub returns : goal.returns
returns c =
    let self = c.args.self.now in
    rw (c.bytes_in.ensures, self.of_kind, self.begins) at c.read_row.ensures
    ∙ ap wide (row_is self.table.now self.section c.args.i)

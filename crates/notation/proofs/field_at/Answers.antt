-- `notation::field_at` meets its contract: past a line's fields it is blank, as the layout of a kind that is not there.
-- Assumes nothing.
use mathlib.Core.Path.{sym, ◌∙◌}
use native.Mathlib.Omega.{arith}
use lib.ListN.{get_or-eq_default}
use Rattle.layout.specs.Layout.{layout, layout_in, blank}
use Rattle.notation.specs.Notation.{line_fields}
use Rattle.notation.proofs.ShapeLaws.{fields_many}
use Rattle.notation.proofs.field_at.Goals as goal

pub returns-then-fields_in-k : goal.returns-then-fields_in-k
unfolding layout_in
returns-then-fields_in-k c =
    let a = c.args in
    c.shape_at.ensures ∙ get_or-eq_default (layout 6) blank {n = a.k} (omega arith)
    ∙ sym (get_or-eq_default (line_fields a.version a.section) blank {n = a.k}
    (omega (arith, c.fields_in.ensures, fields_many a.version a.section)))

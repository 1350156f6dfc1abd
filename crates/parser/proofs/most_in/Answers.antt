-- `parser::most_in` meets its contract: whole records of each section.
-- Assumes nothing.
use mathlib.Core.Path.{◌≡◌, refl}
use mathlib.Core.Bool.{Bool, true, false}
use mir.Val.{bool_byte}
use Rattle.base.specs.Pick.{pick}
use Rattle.layout.specs.Layout.{layout_in, kinds_of, kind_of}
use Rattle.layout.specs.Fields.{is_padding}
use Rattle.layout.specs.Rows.{listed_in, listed}
use Rattle.notation.specs.Steps.{fields_of}
use Rattle.parser.specs.Tables.{most_for}
use Rattle.parser.proofs.most_in.Goals as goal

-- a test as a number
one_or_none : (t : Bool) → bool_byte t ≡ pick t 1 0
one_or_none true = refl
one_or_none false = refl

pub returns : goal.returns
unfolding most_for fields_of listed listed_in is_padding kind_of kinds_of layout_in
returns c = rw (c.from.ensures, one_or_none) refl

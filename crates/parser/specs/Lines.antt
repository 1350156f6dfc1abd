-- What the answers of the routines that read a line say, in the terms of crate `notation`, and by which place they say it.
-- Assumes nothing.
use Rattle.std.specs.Prelude.{ℕ, ◌+◌, ◌-◌, ◌≤◌, ◌≡◌, List, [], leb, eqb, length, take}
use Rattle.std.proofs.Math.Seq.{paste}
use Rattle.base.specs.Pick.{pick}
use Rattle.words.specs.Words.{words_of}
use Rattle.words.specs.Places.{part}
use Rattle.notation.specs.Notation.{version_line}
use Rattle.notation.specs.Meant as meant
use Rattle.notation.specs.Meant.{numbers, wrong, silent, unknown, of}
use Rattle.notation.specs.Steps.{fields_of}
use Rattle.fields.specs.Fields.{Behind}
use Rattle.parser.specs.declared.lines.Line.{Line}
use Rattle.parser.specs.declared.lines.Line.TheVariants.{Silent, Unknown, Good, Wrong}

-- ---- a line
-- what the answer says of a line
unfoldable pub line_told : List ℕ → ℕ → Line → meant.Line
line_told text end Silent = silent
line_told text end Unknown = unknown
line_told text end (Good s ns) = of s (numbers (take (fields_of s) ns))
line_told text end (Wrong s k place) = of s (wrong k (words_of (part text place end)))

-- a line that says its fields has a section and room for the numbers of any; in one that does not, the place is behind the words that say fields
unfoldable pub Stands : List ℕ → ℕ → ℕ → Line → Type 0
Stands text at end Silent = Unit
Stands text at end Unknown = Unit
Stands text at end (Good s ns) = (s ≤ version_line) × (length ns ≡ 11)
Stands text at end (Wrong s k place) = Behind text at end place

-- the answer says this of a line
pub record Tells (text : List ℕ) (at end : ℕ) (says : meant.Line) (r : Line) : Type 0 where
  pub said : line_told text end r ≡ says
  pub stands : Stands text at end r

-- ---- the numbers of a line
-- all or none: those of a line of this section
unfoldable pub numbers_in : ℕ → Line → List ℕ
numbers_in section Silent = []
numbers_in section Unknown = []
numbers_in section (Good s ns) = pick (eqb s section) (take (fields_of s) ns) []
numbers_in section (Wrong s k place) = []

-- numbers put at a place of a list, where there is room for all of them: the list, and the place behind
unfoldable pub list_with : List ℕ → ℕ → List ℕ → List ℕ
list_with list at ns = pick (leb (length ns) (length list - at)) (paste list at ns (length ns)) list

unfoldable pub place_with : List ℕ → ℕ → List ℕ → ℕ
place_with list at ns = pick (leb (length ns) (length list - at)) (at + length ns) at

-- What a text says, in the steps in which it is read from the front: its lines from a place on, how many fields a line has, one field by
-- its shape, a parent by its first word. No demand is stated by these; that they are parts of what is said, proofs/ has. Assumes nothing.
use Rattle.std.specs.Prelude.{ℕ, List, [], map, leb, eqb, length, drop, Option, None, Some}
use Rattle.base.specs.Pick.{pick}
use Rattle.layout.specs.Rows.{listed}
use Rattle.layout.specs.declared.Shape.{Shape}
use Rattle.words.specs.Words.{lines_of, words_of, same}
use Rattle.notation.specs.Notation.{Word, version_line, none_word, after_word}
use Rattle.notation.specs.Meant.{Taken, taken, row_from, field_from}

-- how many fields a line of a section has: four delays, one version, and all that a record has in the lists
unfoldable pub fields_of : ℕ → ℕ
fields_of s = pick (eqb s 0) 4 (pick (eqb s version_line) 1 (listed s))

-- a parent by its first word and the words behind that
unfoldable pub parent_from : Word → List Word → Option Taken
parent_from w ws = pick (same w none_word) (taken (Some 0) ws) (pick (same w after_word) (row_from ws) None)

-- a field of 0 bits is 0 and has no word
unfoldable pub shape_from : Shape → List Word → Option Taken
shape_from s ws = pick (eqb s.width 0) (taken (Some 0) ws) (field_from s.name ws)

-- the lines of a text from a place on where one begins, each by its words; there is none past the text's end
unfoldable pub lines_from : List ℕ → ℕ → List (List Word)
lines_from text at = pick (leb at (length text)) (map words_of (lines_of (drop at text))) []

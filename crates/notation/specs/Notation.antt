-- A table as text (examples/README.md, "Writing a table"): the words that begin a line, the fields of a line, and each field in words.
-- Which fields a line has, and in which order, the layout says; a field that a version does not have, of 0 bits, has no word.
-- Assumes nothing.
use Rattle.std.specs.Prelude.{ℕ, zero, suc, List, [], ◌∷◌, get_or, take, drop, Option, None, Some}
use Rattle.base.specs.Pick.{pick}
use Rattle.layout.specs.declared.Name.{Name}
use Rattle.layout.specs.declared.Name.TheVariants as name
use Rattle.layout.specs.declared.Shape.{Shape}
use Rattle.layout.specs.Names.{same as is}
use Rattle.layout.specs.Layout.{layout, kind_of}
use Rattle.layout.specs.Rows.{listed}
use Rattle.text.specs.Text.{decimal}
use Rattle.words.specs.Words.{same}
use Rattle.notation.specs.declared.Form.{Form}
use Rattle.notation.specs.declared.Form.TheVariants.{Decimal, Choice, Parent}

-- a word is its bytes
abbrev pub Word : Type 0
Word = List ℕ

-- ---- the word that begins a line
-- delays, system, vl, stream, port, hop: the delays of the header, and a record of sections 1 to 5; and version
unfoldable pub keywords : List Word
keywords =
    (100 ∷ 101 ∷ 108 ∷ 97 ∷ 121 ∷ 115 ∷ [])
    ∷ (115 ∷ 121 ∷ 115 ∷ 116 ∷ 101 ∷ 109 ∷ [])
    ∷ (118 ∷ 108 ∷ [])
    ∷ (115 ∷ 116 ∷ 114 ∷ 101 ∷ 97 ∷ 109 ∷ [])
    ∷ (112 ∷ 111 ∷ 114 ∷ 116 ∷ [])
    ∷ (104 ∷ 111 ∷ 112 ∷ [])
    ∷ (118 ∷ 101 ∷ 114 ∷ 115 ∷ 105 ∷ 111 ∷ 110 ∷ [])
    ∷ []

-- the line of the version stands behind those of the sections
abbrev pub version_line : ℕ
version_line = 6

-- the place of a word among these; none where it is none of them
unfoldable pub word_in : List Word → Word → Option ℕ
word_in [] w = None
word_in (v ∷ vs) w = pick (same w v) (Some 0) (elim (word_in vs w) [ None ↦ None | Some k ↦ Some (suc k) ])

-- ---- the fields of a line
-- of the version's line the version, of section 0 the four delays of the header, and of a record all that it has in the lists
unfoldable pub line_fields : ℕ → ℕ → List Shape
line_fields version zero = take 4 (drop 6 (layout 0))
line_fields version (suc s) = get_or (
    take (listed 1) (layout (kind_of version 1))
    ∷ take (listed 2) (layout (kind_of version 2))
    ∷ take (listed 3) (layout (kind_of version 3))
    ∷ take (listed 4) (layout (kind_of version 4))
    ∷ take (listed 5) (layout (kind_of version 5))
    ∷ take 1 (layout 0)
    ∷ []) s []

-- ---- a field in words
-- how the number of a field is written, by the field's name
unfoldable pub form_of : Name → Form
form_of n = pick (is n name.Kind) Choice (pick (is n name.Parent) Parent Decimal)

-- the words that stand for 0, 1, .. of such a field: queuing and sampling
unfoldable pub choices : Name → List Word
choices n =
    pick (is n name.Kind) ((113 ∷ 117 ∷ 101 ∷ 117 ∷ 105 ∷ 110 ∷ 103 ∷ []) ∷ (115 ∷ 97 ∷ 109 ∷ 112 ∷ 108 ∷ 105 ∷ 110 ∷ 103 ∷ []) ∷ []) []

-- a parent is `none`, or `after` and its row
unfoldable pub none_word : Word
none_word = 110 ∷ 111 ∷ 110 ∷ 101 ∷ []

unfoldable pub after_word : Word
after_word = 97 ∷ 102 ∷ 116 ∷ 101 ∷ 114 ∷ []

-- a parent is stored as its row + 1, 0 for none
unfoldable pub parent_words : ℕ → List Word
parent_words zero = none_word ∷ []
parent_words (suc g) = after_word ∷ decimal g ∷ []

-- the words of a number in a field
unfoldable pub field_words : Name → ℕ → List Word
field_words n v = elim (form_of n) [
  | Decimal ↦ decimal v ∷ []
  | Choice ↦ get_or (choices n) v (decimal v) ∷ []
  | Parent ↦ parent_words v
]

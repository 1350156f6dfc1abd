-- What a text means: what words say of a field, the words of a line of its fields, and the lines of a text of the lists of a table.
-- Assumes nothing.
use Rattle.std.specs.Prelude.{ℕ, zero, suc, ◌-◌, ◌^◌, min, List, [], ◌∷◌, ◌++◌, map, eqb, get_or, Option, None, Some}
use Rattle.base.specs.Pick.{pick}
use Rattle.layout.specs.declared.Name.{Name}
use Rattle.layout.specs.declared.Shape.{Shape}
use Rattle.words.specs.Words.{lines_of, words_of, numeral, same}
use Rattle.notation.specs.declared.Form.TheVariants.{Decimal, Choice, Parent}
use Rattle.notation.specs.Notation.{Word, keywords, version_line, word_in, line_fields, form_of, choices, none_word, after_word}

-- ---- a field
-- what words say of a field: its number, and the words behind those that say it
pub record Taken : Type 0 where
  pub value : ℕ
  pub rest : List Word

unfoldable pub taken : Option ℕ → List Word → Option Taken
taken None ws = None
taken (Some v) ws = Some (record { value = v; rest = ws })

-- the row behind `after`, + 1 as it is stored; a number above 2 ^ 64 - 1 counts as that
unfoldable pub row_from : List Word → Option Taken
row_from [] = None
row_from (w ∷ ws) = elim (numeral w) [ None ↦ None | Some g ↦ taken (Some (min (suc g) (2 ^ 64 - 1))) ws ]

-- none where the words do not say the field
unfoldable pub field_from : Name → List Word → Option Taken
field_from n [] = None
field_from n (w ∷ ws) = elim (form_of n) [
  | Decimal ↦ taken (numeral w) ws
  | Choice ↦ taken (word_in (choices n) w) ws
  | Parent ↦ pick (same w none_word) (taken (Some 0) ws) (pick (same w after_word) (row_from ws) None)
]

-- ---- a line
-- what words say of fields, one after the other: their numbers; or the place of the first that they do not say, which is behind the last
-- field where there are words left, and the words from there on
pub data Said : Type 0 where
  numbers : List ℕ → Said
  wrong : ℕ → List Word → Said

unfoldable pub with_number : ℕ → Said → Said
with_number v (numbers ns) = numbers (v ∷ ns)
with_number v (wrong k ws) = wrong (suc k) ws

-- a field of 0 bits, which the version does not have, is 0 and has no word
unfoldable pub fields_from : List Shape → List Word → Said
fields_from [] [] = numbers []
fields_from [] (w ∷ ws) = wrong 0 (w ∷ ws)
fields_from (s ∷ ss) ws =
    pick (eqb s.width 0) (with_number 0 (fields_from ss ws))
    (elim (field_from s.name ws) [ None ↦ wrong 0 ws | Some t ↦ with_number t.value (fields_from ss t.rest) ])

-- what the words of a line say: nothing, where there are none; a line whose first word is no keyword; or of which section it is, and what
-- the words behind the keyword say of its fields
pub data Line : Type 0 where
  silent : Line
  unknown : Line
  of : ℕ → Said → Line

unfoldable pub line_said : ℕ → List Word → Line
line_said version [] = silent
line_said version (w ∷ ws) = elim (word_in keywords w) [ None ↦ unknown | Some s ↦ of s (fields_from (line_fields version s) ws) ]

-- ---- a text
-- its lines, each by its words
unfoldable pub text_lines : List ℕ → List (List Word)
text_lines text = map words_of (lines_of text)

-- the numbers of a line, where it is one of this section
unfoldable pub numbers_of : ℕ → Line → List ℕ
numbers_of section silent = []
numbers_of section unknown = []
numbers_of section (of s (numbers ns)) = pick (eqb s section) ns []
numbers_of section (of s (wrong k ws)) = []

-- the numbers that the lines of a section say, one line after the other: "sections in any order"
unfoldable pub section_in : ℕ → ℕ → List (List Word) → List ℕ
section_in version section [] = []
section_in version section (l ∷ ls) = numbers_of section (line_said version l) ++ section_in version section ls

-- "A line `version N` says the version, 1 without it", wherever it stands
unfoldable pub version_in : List (List Word) → ℕ
version_in ls = get_or (section_in 1 version_line ls) 0 1

-- the list of a section that a text says; of section 0 the version and the delays
unfoldable pub list_in : List ℕ → ℕ → List ℕ
list_in text zero = version_in (text_lines text) ∷ section_in (version_in (text_lines text)) 0 (text_lines text)
list_in text (suc s) = section_in (version_in (text_lines text)) (suc s) (text_lines text)

-- The text that is printed for the lists of a table: a line for the version, one for the delays, and one for each record, section by
-- section.
-- Assumes nothing.
use Rattle.std.specs.Prelude.{ℕ, zero, suc, ◌*◌, ◌/◌, ◌≤◌, List, [], ◌∷◌, ◌++◌, map, eqb, length, get_or, take, drop}
use Rattle.base.specs.Pick.{pick}
use Rattle.base.specs.Tabulate.{tabulate}
use Rattle.layout.specs.declared.Shape.{Shape}
use Rattle.layout.specs.Rows.{listed}
use Rattle.words.specs.Printed.{line_of, text_of}
use Rattle.notation.specs.Notation.{Word, keywords, version_line, line_fields, field_words}

-- the words of the numbers of a line's fields; a field of 0 bits has none
unfoldable pub fields_words : List Shape → List ℕ → List Word
fields_words [] ns = []
fields_words (s ∷ ss) [] = []
fields_words (s ∷ ss) (n ∷ ns) = pick (eqb s.width 0) [] (field_words s.name n) ++ fields_words ss ns

-- the words of a line: its keyword, and its numbers
unfoldable pub line_words : ℕ → ℕ → List ℕ → List Word
line_words version section ns = get_or keywords section [] ∷ fields_words (line_fields version section) ns

-- the numbers of record i of a section's list
unfoldable pub record_in : List ℕ → ℕ → ℕ → List ℕ
record_in list section i = take (listed section) (drop (i * listed section) list)

-- the lines of a section's records
unfoldable pub section_lines : ℕ → ℕ → List ℕ → List (List Word)
section_lines version section list =
    tabulate (λ i. line_words version section (record_in list section i)) (length list / listed section)

-- the lines of the first n sections' records, by the list of each section
unfoldable pub record_lines : ℕ → (ℕ → List ℕ) → ℕ → List (List Word)
record_lines version lists zero = []
record_lines version lists (suc s) = record_lines version lists s ++ section_lines version (suc s) (lists (suc s))

-- the lines of a table, by the list of each section: of section 0 the version and the delays
unfoldable pub table_lines : (ℕ → List ℕ) → List (List Word)
table_lines lists =
    let version = get_or (lists 0) 0 1 in
    line_words version version_line (version ∷ []) ∷ line_words version 0 (drop 1 (lists 0)) ∷ record_lines version lists 5

unfoldable pub printed : (ℕ → List ℕ) → List ℕ
printed lists = text_of (map line_of (table_lines lists))

-- A line has at most 197 bytes: a keyword of at most seven, at most seven fields of at most 27 with the spaces before their words (of
-- `after` and a row: two spaces, five letters and 20 digits), and the line feed.
abbrev pub LineFits : Type 0
LineFits = (version section : ℕ) (ns : List ℕ) → length (line_of (line_words version section ns) ++ (10 ∷ [])) ≤ 197

-- What is printed is read back: the numbers that words can say, the lists that a text can say, and that the text printed for these says
-- them; and that a text can say what the writer accepts.
-- Assumes nothing.
use Rattle.std.specs.Prelude.{ℕ, suc, ◌*◌, ◌/◌, ◌^◌, ◌≤◌, ◌<◌, ◌≡◌, List, [], ◌∷◌, ◌++◌, eqb, length, get_or, take, drop, None, Some}
use Rattle.base.specs.Pick.{pick}
use Rattle.base.specs.Tabulate.{tabulate}
use Rattle.layout.specs.declared.Name.{Name}
use Rattle.layout.specs.declared.Shape.{Shape}
use Rattle.layout.specs.declared.Way.TheVariants.{Writing}
use Rattle.layout.specs.Layout.{kind_of}
use Rattle.layout.specs.Rows.{listed, row_fault}
use Rattle.notation.specs.declared.Form.TheVariants.{Decimal, Choice, Parent}
use Rattle.notation.specs.Notation.{Word, version_line, line_fields, form_of, choices, field_words}
use Rattle.notation.specs.Meant.{numbers, of, field_from, line_said, list_in}
use Rattle.notation.specs.Printed.{line_words, record_in, printed}

-- The words of a field can say the numbers below this: all of 64 bits, or as many as there are words to choose from.
unfoldable pub spoken : Name → ℕ
spoken n = elim (form_of n) [ Decimal ↦ 2 ^ 64 | Choice ↦ length (choices n) | Parent ↦ 2 ^ 64 ]

-- A field of 0 bits has no word, and is 0.
unfoldable pub sayable : Shape → ℕ
sayable s = pick (eqb s.width 0) 1 (spoken s.name)

-- Numbers that a line can say: one for each of its fields.
unfoldable pub Sayable : List Shape → List ℕ → Type 0
Sayable [] [] = Unit
Sayable [] (n ∷ ns) = ⊥
Sayable (s ∷ ss) [] = ⊥
Sayable (s ∷ ss) (n ∷ ns) = (n < sayable s) × Sayable ss ns

-- Lists that a text can say: the version and the delays, and of each section whole records.
pub record Printable (lists : ℕ → List ℕ) : Type 0 where
  pub version : get_or (lists 0) 0 1 < 2 ^ 64
  pub delays : Sayable (line_fields (get_or (lists 0) 0 1) 0) (drop 1 (lists 0))
  pub whole : (s : ℕ) → 1 ≤ s → s ≤ 5 → length (lists s) / listed s * listed s ≡ length (lists s)
  pub records : (s i : ℕ) → 1 ≤ s → s ≤ 5 → i < length (lists s) / listed s
      → Sayable (line_fields (get_or (lists 0) 0 1) s) (record_in (lists s) s i)

-- A field: its number, and the words behind.
abbrev pub FieldBack : Type 0
FieldBack = (n : Name) (v : ℕ) (rest : List Word) → v < spoken n
    → field_from n (field_words n v ++ rest) ≡ Some (record { value = v; rest = rest })

-- A line: its section, and its numbers.
abbrev pub LineBack : Type 0
LineBack = (version section : ℕ) (ns : List ℕ) → section ≤ version_line → Sayable (line_fields version section) ns
    → line_said version (line_words version section ns) ≡ of section (numbers ns)

-- A text: the list of each section.
abbrev pub ReadBack : Type 0
ReadBack = (lists : ℕ → List ℕ) → Printable lists → (s : ℕ) → s ≤ 5 → list_in (printed lists) s ≡ lists s

-- What the writer accepts can be said: the numbers of a record in which it finds no fault, and the delays of such a header.
abbrev pub RecordSayable : Type 0
RecordSayable = (version section : ℕ) (row : List ℕ) → 1 ≤ section → section ≤ 5 → listed section ≤ length row
    → row_fault Writing (kind_of version section) row ≡ None → Sayable (line_fields version section) (take (listed section) row)

abbrev pub DelaysSayable : Type 0
DelaysSayable = (version : ℕ) (row : List ℕ) → 10 ≤ length row
    → row_fault Writing 0 row ≡ None → Sayable (line_fields version 0) (take 4 (drop 6 row))

-- The header that the lists ask for: the version, the counts and the delays.
unfoldable pub header_of : (ℕ → List ℕ) → List ℕ
header_of lists = take 1 (lists 0) ++ tabulate (λ s. length (lists (suc s)) / listed (suc s)) 5 ++ drop 1 (lists 0)

-- Lists that the writer accepts: whole records, and no fault in any row; a row goes on with zeros where it has padding.
pub record Acceptable (lists : ℕ → List ℕ) : Type 0 where
  pub head : length (lists 0) ≡ 5
  pub header : row_fault Writing 0 (header_of lists) ≡ None
  pub whole : (s : ℕ) → 1 ≤ s → s ≤ 5 → length (lists s) / listed s * listed s ≡ length (lists s)
  pub records : (s i : ℕ) → 1 ≤ s → s ≤ 5 → i < length (lists s) / listed s
      → row_fault Writing (kind_of (get_or (lists 0) 0 1) s) (record_in (lists s) s i) ≡ None

-- A text can say them.
abbrev pub AcceptedPrintable : Type 0
AcceptedPrintable = (lists : ℕ → List ℕ) → Acceptable lists → Printable lists

-- A text that is read to six lent lists: its first mistake, and what stands in each list.
-- Assumes nothing.
use Rattle.std.specs.Prelude.{ℕ, ◌/◌, ◌≡◌, List, [], ◌∷◌, ◌++◌, map, leb, length, Option, None, Some, Result, Ok, Err}
use Rattle.base.specs.Pick.{pick}
use Rattle.base.specs.Tabulate.{tabulate}
use Rattle.layout.specs.Layout.{header_names}
use Rattle.table.specs.Sections.{lent}
use Rattle.table.specs.Lists.{Lists, lists_by, list_for}
use Rattle.notation.specs.Meant.{text_lines, version_in, list_in}
use Rattle.notation.specs.Steps.{fields_of}
use Rattle.parser.specs.declared.mistakes.Mistake.{Mistake}
use Rattle.parser.specs.Mistakes.{mistake_in}

-- how many lines each section may have by the room of its list: whole records; one of delays, where the version and they have room; and one
-- of the version
unfoldable pub most_for : (ℕ → ℕ) → List ℕ
most_for room = pick (leb (length header_names) (room 0)) 1 0 ∷ map (λ s. room s / fields_of s) (1 ∷ 2 ∷ 3 ∷ 4 ∷ 5 ∷ []) ++ (1 ∷ [])

-- the room of lent lists, by the section
abbrev pub room_in : Lists → ℕ → ℕ
room_in before s = length (list_for before s)

unfoldable pub first_mistake : List ℕ → Lists → Option Mistake
first_mistake text before = mistake_in text (version_in (text_lines text)) (most_for (room_in before))

-- the numbers that are read of a section: on a mistake none, otherwise the list that the text says
unfoldable pub read_list : List ℕ → Lists → ℕ → List ℕ
read_list text before s = elim (first_mistake text before) [ None ↦ list_in text s | Some m ↦ [] ]

-- the answer: the first mistake, or how many numbers it read of each section
unfoldable pub read_answer : List ℕ → Lists → Result (List ℕ) Mistake
read_answer text before =
    elim (first_mistake text before) [ None ↦ Ok (tabulate (λ s. length (read_list text before s)) 6) | Some m ↦ Err m ]

-- what `read` promises, of the lent lists as they were before and as they are after: its answer; and what it read of each section in the
-- list of that section, with zeros behind
pub record ReadsTo (text : List ℕ) (before : Lists) (r : Result (List ℕ) Mistake) (after : Lists) : Type 0 where
  pub answer : r ≡ read_answer text before
  pub held : after ≡ lists_by (λ s. lent (room_in before s) (read_list text before s))

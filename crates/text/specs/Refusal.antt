-- The line of a refusal, from the answer itself.
-- Assumes nothing.
use Rattle.std.specs.Prelude.{ℕ, ◌≤◌, List, [], ◌∷◌, ◌++◌, length}
use Rattle.table.specs.declared.Answer.{Answer}
use Rattle.text.specs.Text.{line}

-- "refused "
unfoldable pub refused : List ℕ
refused = 114 ∷ 101 ∷ 102 ∷ 117 ∷ 115 ∷ 101 ∷ 100 ∷ 32 ∷ []

-- 01, the whole case: "On a refusal it writes one line: the word refused, number, section, row."
unfoldable pub refusal : Answer → List ℕ
refusal a = refused ++ line (a.number ∷ a.section ∷ a.row ∷ [])

-- The line of a refusal has at most 71 bytes: eight of the word and 21 a number.
abbrev pub RefusalFits : Type 0
RefusalFits = (a : Answer) → length (refusal a) ≤ 71

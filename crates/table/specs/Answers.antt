-- 01, Answers by number: "An answer carries number, section and row. They are tested in this order, the first bad row of the
-- lowest section first." Assumes nothing.
use Rattle.std.specs.Prelude.{ℕ, List, [], ◌∷◌, Option, None, Some}
use Rattle.table.specs.declared.Answer.{Answer}

-- number, section, row, and the place of the named test that failed among its tests; 0 where the number has but one
-- test, and for a list that is no whole number of records
abbrev pub answer : ℕ → ℕ → ℕ → ℕ → Answer
answer number section row test = record { number = number; section = section; row = row; test = test }

-- "0: accepted"
abbrev pub accepted : Answer
accepted = answer 0 0 0 0

-- "tested in this order": the first refusal that is given, and acceptance where none is
unfoldable pub first_given : List (Option Answer) → Answer
first_given [] = accepted
first_given (None ∷ os) = first_given os
first_given (Some a ∷ os) = a

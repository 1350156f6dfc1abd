-- A text as lines of words, and the number that a word spells: "A line is one record; # begins a comment" (examples/README.md).
-- Assumes nothing.
use Rattle.std.specs.Prelude.{ℕ, ◌-◌, ◌^◌, min, Bool, true, false, ◌&&◌, ◌||◌, List, [], ◌∷◌, eqb, Option, None, Some}
use Rattle.base.specs.Pick.{pick}
use Rattle.text.specs.Text.{spells, all, digit}

-- The line feed (10) ends a line, and # (35) begins a comment.
unfoldable pub feed : ℕ → Bool
feed b = eqb b 10

unfoldable pub hash : ℕ → Bool
hash b = eqb b 35

-- Space (32), tab (9) and carriage return (13) stand between words.
unfoldable pub blank : ℕ → Bool
blank b = eqb b 32 || eqb b 9 || eqb b 13

-- The bytes before the first that passes a test; all of them where none does.
unfoldable pub before : (ℕ → Bool) → List ℕ → List ℕ
before p [] = []
before p (b ∷ bs) = pick (p b) [] (b ∷ before p bs)

-- A byte in front of the first piece.
unfoldable pub in_front : ℕ → List (List ℕ) → List (List ℕ)
in_front b [] = (b ∷ []) ∷ []
in_front b (w ∷ ws) = (b ∷ w) ∷ ws

-- The pieces of a text that is cut at each byte that passes a test. That byte is in no piece, and there is one piece more than cuts.
unfoldable pub split_at : (ℕ → Bool) → List ℕ → List (List ℕ)
split_at p [] = [] ∷ []
split_at p (b ∷ bs) = pick (p b) ([] ∷ split_at p bs) (in_front b (split_at p bs))

-- Those of the pieces that are not empty.
unfoldable pub present : List (List ℕ) → List (List ℕ)
present [] = []
present ([] ∷ ps) = present ps
present ((b ∷ bs) ∷ ps) = (b ∷ bs) ∷ present ps

-- The lines of a text. What stands behind the last line feed is a line too, empty where nothing does.
unfoldable pub lines_of : List ℕ → List (List ℕ)
lines_of text = split_at feed text

-- "# begins a comment": what stands before the first.
unfoldable pub uncommented : List ℕ → List ℕ
uncommented line = before hash line

-- The words of a line: what stands between blanks, before the comment.
unfoldable pub words_of : List ℕ → List (List ℕ)
words_of line = present (split_at blank (uncommented line))

-- The number of a word of digits alone; none of any other. A number above 2 ^ 64 - 1 counts as 2 ^ 64 - 1, so that none is cut off to a
-- smaller one that a field holds.
unfoldable pub numeral : List ℕ → Option ℕ
numeral [] = None
numeral (b ∷ bs) = pick (all digit (b ∷ bs)) (Some (min (spells 0 (b ∷ bs)) (2 ^ 64 - 1))) None

-- Two words are one, byte by byte.
unfoldable pub same : List ℕ → List ℕ → Bool
same [] [] = true
same [] (c ∷ cs) = false
same (b ∷ bs) [] = false
same (b ∷ bs) (c ∷ cs) = eqb b c && same bs cs

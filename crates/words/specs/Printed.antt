-- Words and lines as they are printed, and that they are read back.
-- Assumes nothing.
use Rattle.std.specs.Prelude.{ℕ, ◌<◌, ◌^◌, ◌≡◌, Bool, true, false, not, ◌&&◌, List, [], ◌∷◌, ◌++◌, Some}
use Rattle.text.specs.Text.{decimal, all}
use Rattle.words.specs.Words.{feed, lines_of, words_of, numeral}
use Rattle.words.specs.Places.{ends}

-- A byte of a line is no line feed; one of a word is no blank and no # either.
unfoldable pub in_line : ℕ → Bool
in_line b = not (feed b)

unfoldable pub in_word : ℕ → Bool
in_word b = not (ends b) && in_line b

-- A word has a byte at least.
unfoldable pub is_word : List ℕ → Bool
is_word [] = false
is_word (b ∷ bs) = all in_word (b ∷ bs)

unfoldable pub are_words : List (List ℕ) → Bool
are_words [] = true
are_words (w ∷ ws) = is_word w && are_words ws

unfoldable pub are_lines : List (List ℕ) → Bool
are_lines [] = true
are_lines (l ∷ ls) = all in_line l && are_lines ls

-- Each word with a space (32) before it.
unfoldable pub line_from : List (List ℕ) → List ℕ
line_from [] = []
line_from (w ∷ ws) = (32 ∷ w) ++ line_from ws

-- The words with one space between.
unfoldable pub line_of : List (List ℕ) → List ℕ
line_of [] = []
line_of (w ∷ ws) = w ++ line_from ws

-- The lines, each with its line feed (10) behind it.
unfoldable pub text_of : List (List ℕ) → List ℕ
text_of [] = []
text_of (l ∷ ls) = l ++ (10 ∷ text_of ls)

-- The words of a printed line are those that were printed.
abbrev pub WordsBack : Type 0
WordsBack = (ws : List (List ℕ)) → are_words ws ≡ true → words_of (line_of ws) ≡ ws

-- The lines of a printed text are those that were printed, and an empty one behind the last line feed.
abbrev pub LinesBack : Type 0
LinesBack = (ls : List (List ℕ)) → are_lines ls ≡ true → lines_of (text_of ls) ≡ ls ++ ([] ∷ [])

-- A last line that no line feed ends is read too.
abbrev pub LastLineBack : Type 0
LastLineBack =
    (ls : List (List ℕ)) (l : List ℕ) → are_lines ls ≡ true → all in_line l ≡ true → lines_of (text_of ls ++ l) ≡ ls ++ (l ∷ [])

-- A line of words has no line feed.
abbrev pub WordsAreALine : Type 0
WordsAreALine = (ws : List (List ℕ)) → are_words ws ≡ true → all in_line (line_of ws) ≡ true

-- A number in decimal is a word, and the number of that word.
abbrev pub NumberBack : Type 0
NumberBack = (n : ℕ) → n < 2 ^ 64 → (is_word (decimal n) ≡ true) × (numeral (decimal n) ≡ Some n)

-- A comment changes nothing of the words before it, and neither does the carriage return (13) that some texts have before a line feed.
abbrev pub CommentPassed : Type 0
CommentPassed = (line comment : List ℕ) → words_of (line ++ (35 ∷ comment)) ≡ words_of line

abbrev pub ReturnPassed : Type 0
ReturnPassed = (line : List ℕ) → words_of (line ++ (13 ∷ [])) ≡ words_of line

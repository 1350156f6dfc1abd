-- The routines find every line of a text and every word of a line, one by one from the front, and nothing else.
-- Assumes nothing.
use Rattle.std.specs.Prelude.{ℕ, ◌+◌, ◌≤◌, ◌<◌, max, ◌≡◌, List, [], ◌∷◌, length, drop}
use Rattle.words.specs.Words.{lines_of, words_of}
use Rattle.words.specs.Places.{part, line_end, word_at}

-- Where a line ends before the text does, the lines from a place on are the part up to that end, and the lines behind its line feed.
abbrev pub LinesStep : Type 0
LinesStep =
    (text : List ℕ) (at : ℕ) → line_end text at < length text
    → lines_of (drop at text) ≡ part text at (line_end text at) ∷ lines_of (drop (line_end text at + 1) text)

-- Where it does not, what is left of the text is the last line.
abbrev pub LinesLast : Type 0
LinesLast = (text : List ℕ) (at : ℕ) → length text ≤ line_end text at → lines_of (drop at text) ≡ drop at text ∷ []

-- A line that begins within the text ends no earlier than it begins, and within the text.
abbrev pub LineWithin : Type 0
LineWithin = (text : List ℕ) (at : ℕ) → (at ≤ line_end text at) × (line_end text at ≤ max at (length text))

-- Where a word is found, the words from a place on are it, and the words behind it.
abbrev pub WordsStep : Type 0
WordsStep =
    (text : List ℕ) (at end : ℕ) → (word_at text at end).from < (word_at text at end).to
    → words_of (part text at end)
    ≡ part text (word_at text at end).from (word_at text at end).to ∷ words_of (part text (word_at text at end).to end)

-- Where none is found, there is none.
abbrev pub WordsLast : Type 0
WordsLast = (text : List ℕ) (at end : ℕ) → (word_at text at end).to ≤ (word_at text at end).from → words_of (part text at end) ≡ []

-- Where the lines and words of a text stand: what the routines answer, by places in the whole text.
-- Assumes nothing.
use Rattle.std.specs.Prelude.{ℕ, ◌+◌, ◌-◌, Bool, not, ◌||◌, List, length, take, drop}
use Rattle.words.specs.declared.Span.{Span}
use Rattle.words.specs.Words.{feed, hash, blank, before}

-- The bytes of a text from one place to before another.
unfoldable pub part : List ℕ → ℕ → ℕ → List ℕ
part text from to = take (to - from) (drop from text)

-- The first place from `at` on, before `end` and the text's end, whose byte passes a test; where none does, where these bytes end.
unfoldable pub first_place : (ℕ → Bool) → List ℕ → ℕ → ℕ → ℕ
first_place p text at end = at + length (before p (part text at end))

-- Where the line that is read from `at` on ends: at the first line feed, or at the text's end; from a place past that, at the place itself.
unfoldable pub line_end : List ℕ → ℕ → ℕ
line_end text at = first_place feed text at (length text)

-- A word begins at the first byte that is no blank, and ends before a blank or a comment.
unfoldable pub begins : ℕ → Bool
begins b = not (blank b)

unfoldable pub ends : ℕ → Bool
ends b = blank b || hash b

-- The next word of the part of a line from `at` to before `end`; empty where there is none, since the comment or the end comes first.
unfoldable pub word_at : List ℕ → ℕ → ℕ → Span
word_at text at end =
    let from = first_place begins text at end in
    record { from = from; to = first_place ends text from end }

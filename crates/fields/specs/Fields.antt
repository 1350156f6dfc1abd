-- What the answers of the routines that read a field say, in the terms of crate `notation`, and by which place they say it.
-- Assumes nothing.
use Rattle.std.specs.Prelude.{ℕ, zero, suc, ◌-◌, ◌≤◌, ◌≡◌, List, length, Option, None, Some}
use Rattle.words.specs.Words.{words_of}
use Rattle.words.specs.Places.{part, word_at}
use Rattle.notation.specs.Meant as meant
use Rattle.notation.specs.Meant.{taken}
use Rattle.fields.specs.declared.Said.{Said}

-- ---- places
-- how many words a text has from a place on, before another
unfoldable pub words_from : List ℕ → ℕ → ℕ → ℕ
words_from text at end = length (words_of (part text at end))

-- the place behind the first so many of them
unfoldable pub place_behind : List ℕ → ℕ → ℕ → ℕ → ℕ
place_behind text at end zero = at
place_behind text at end (suc j) = place_behind text (word_at text at end).to end j

-- a place is behind those words that there are no more from it on
pub record Behind (text : List ℕ) (at end next : ℕ) : Type 0 where
  pub fewer : words_from text next end ≤ words_from text at end
  pub place : next ≡ place_behind text at end (words_from text at end - words_from text next end)

-- ---- a field
-- what the answer says of a field
unfoldable pub taken_in : List ℕ → ℕ → Option Said → Option meant.Taken
taken_in text end None = None
taken_in text end (Some s) = taken (Some s.number) (words_of (part text s.next end))

unfoldable pub BehindTaken : List ℕ → ℕ → ℕ → Option Said → Type 0
BehindTaken text at end None = Unit
BehindTaken text at end (Some s) = Behind text at end s.next

-- the answer says this of a field, and the place behind
pub record Takes (text : List ℕ) (at end : ℕ) (says : Option meant.Taken) (r : Option Said) : Type 0 where
  pub said : taken_in text end r ≡ says
  pub behind : BehindTaken text at end r

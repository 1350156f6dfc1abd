-- `words::word_at` meets its contract: the first walk looks for the word's first byte, the second from there for its end.
-- Assumes nothing.
use Rattle.words.specs.Places.{begins, ends}
use Rattle.words.proofs.word_at.Given as goal

abbrev pub ghost-first_place : goal.ghost-first_place
ghost-first_place a = begins

abbrev pub ghost-first_place-2 : goal.ghost-first_place-2
ghost-first_place-2 a = ends

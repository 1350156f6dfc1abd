-- `words::line_end` meets its contract: the walk looks for the line feed.
-- Assumes nothing.
use Rattle.words.specs.Words.{feed}
use Rattle.words.proofs.line_end.Given as goal

abbrev pub ghost-first_place : goal.ghost-first_place
ghost-first_place a = feed

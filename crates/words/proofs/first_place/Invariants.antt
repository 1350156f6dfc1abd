-- `words::first_place` meets its contract: at each turn the first place from the present one on is the first from the start on.
-- Assumes nothing.
use mathlib.Core.Path.{◌≡◌}
use Rattle.words.specs.Places.{first_place}
use Rattle.words.proofs.first_place.Given as goal

abbrev pub invariant-loop-place : goal.invariant-loop-place
invariant-loop-place g l = first_place g.test l.text l.place l.end ≡ first_place g.test l.text l.at l.end

-- A list of records in the room that is lent for it: as many whole records as it holds, and zeros behind.
-- Assumes nothing.
use Rattle.std.specs.Prelude.{ℕ, ◌-◌, ◌*◌, ◌/◌, List, ◌++◌, length, take, replicate}

-- the first records, of n numbers each, that there is room for
unfoldable pub held : ℕ → ℕ → List ℕ → List ℕ
held n room ns = take (room / n * n) ns

-- and zeros in what is left of the room
unfoldable pub fitted : ℕ → ℕ → List ℕ → List ℕ
fitted n room ns = held n room ns ++ replicate (room - length (held n room ns)) 0

-- 01, One station: "A station takes a lent table of flows, each a period T, a jitter J and a cost C": what it says of a flat list of numbers, three a flow.
-- Assumes nothing.
use Rattle.std.specs.Prelude.{ℕ, ◌/◌, ◌%◌, List, [], ◌∷◌, eqb, length}
use Rattle.base.specs.Pick.{pick}
use Rattle.base.specs.Said.{Said, refused}
use Rattle.station.specs.Offered.{station_says}
use Rattle.station.specs.Flat.{flows_in}

-- a list that is no whole number of flows is out of range (4)
unfoldable pub flat_says : List ℕ → Said
flat_says numbers = pick (eqb (length numbers % 3) 0) (station_says (flows_in numbers (length numbers / 3))) (refused 4 (0 ∷ 0 ∷ []))

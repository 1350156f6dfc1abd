-- 01, BAG codes: the gap of a VL in ticks, in milliseconds, and as it is stored.
-- Assumes nothing.
use Rattle.std.specs.Prelude.{ℕ, ◌^◌, Bool, ◌&&◌, List, [], ◌∷◌, ltb, eqb, get_or, Option, None, Some}
use Rattle.std.specs.Int.Count.{ones, count_trailing_zeros}
use Rattle.base.specs.Pick.{pick, within}

-- "BAG codes 0 to 7 stand for these gaps in ticks"
unfoldable pub gaps : List ℕ
gaps = 12500 ∷ 25000 ∷ 50000 ∷ 100000 ∷ 200000 ∷ 400000 ∷ 800000 ∷ 1600000 ∷ []

-- the gap in ticks of a code; any other code is refused (4)
unfoldable pub gap_of : ℕ → Option ℕ
gap_of code = pick (ltb code 8) (Some (get_or gaps code 0)) None

-- "a gap is good if it is 1 to 128 and exactly one of its bits is set"
unfoldable pub good_ms : ℕ → Bool
good_ms ms = within 1 128 ms && eqb (ones ms) 1

-- "and its code is the count of zeros below that bit"
unfoldable pub code_of : ℕ → Option ℕ
code_of ms = pick (good_ms ms) (Some (count_trailing_zeros 64 ms)) None

-- the way back: the gap in milliseconds whose code is given
unfoldable pub ms_of : ℕ → Option ℕ
ms_of code = pick (ltb code 8) (Some (2 ^ code)) None

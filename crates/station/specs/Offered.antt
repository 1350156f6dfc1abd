-- 01, One station: "Offered by itself, it refuses 4 for .., then 10 for no busy length": what the station answers to any list of flows.
-- Queues and ports of an accepted table are never refused so; no demand on tables reaches these. Assumes nothing.
use Rattle.std.specs.Prelude.{ℕ, ◌-◌, Bool, true, ◌&&◌, List, [], ◌∷◌, leb, eqb, length, Option, None, Some}
use Rattle.base.specs.Least.{least_from}
use Rattle.base.specs.Pick.{pick}
use Rattle.base.specs.Tests.{number_or0}
use Rattle.base.specs.Said.{Said, accepted, refused}
use Rattle.station.specs.Station.{Flow, brought, busy_length, figure}
-- the ranges of one flow: search/specs/Flows
unfoldable pub use Rattle.search.specs.Flows.{in_range}

-- "it refuses 4 for more than 1,024 flows, .."
unfoldable pub most_flows : ℕ
most_flows = 1024

-- ".. a period outside 12,500 to 125,000,000, a jitter above 2,000,000,000 or a cost outside 1 to 4,000,000,000"
unfoldable pub all_in_range : List Flow → Bool
all_in_range [] = true
all_in_range (f ∷ fs) = in_range f && all_in_range fs

unfoldable pub offered : List Flow → Bool
offered fs = leb (length fs) most_flows && all_in_range fs

-- ".. then 10 for no busy length (section and row 0; length and figure 0)."
unfoldable pub served_says : List Flow → Option ℕ → Said
served_says fs None = refused 10 (0 ∷ 0 ∷ [])
served_says fs (Some l) = accepted (l ∷ figure fs l ∷ [])

-- the station's answer, with length and figure as its values
unfoldable pub station_says : List Flow → Said
station_says fs = pick (offered fs) (served_says fs (busy_length fs)) (refused 4 (0 ∷ 0 ∷ []))

-- the least span d that gives the figure, so that (sum of the most arrivals in d × C) − d is the figure; 0 where there is no busy length
unfoldable pub served_span : List Flow → Option ℕ → ℕ
served_span fs None = 0
served_span fs (Some l) = number_or0 (least_from (λ d. eqb (brought fs d - d) (figure fs l)) 0 l)

-- and of any list of flows: 0 where it is refused
unfoldable pub span_says : List Flow → ℕ
span_says fs = pick (offered fs) (served_span fs (busy_length fs)) 0

-- What one flow more does to the tally of those before it, for a span of d ticks.
-- Nothing here has to be believed: no public contract of a station speaks of it. Assumes nothing.
use Rattle.std.specs.Prelude.{ℕ, ◌+◌, ◌*◌, ◌-◌, ◌/◌, ◌%◌, ◌^◌, max, Bool, true, ◌&&◌, ltb, eqb, Option, None, Some}
use Rattle.base.specs.Pick.{pick}
use Rattle.search.specs.declared.pass.Flow.{Flow}
use Rattle.search.specs.declared.pass.Tally.{Tally}
use Rattle.search.specs.Flows.{most, in_range}
use Rattle.search.specs.Spans.{limit}

-- the tick of a flow's last arrival in a span of d ticks: 0 for those that its jitter lets come at once
unfoldable pub last_of : Flow → ℕ → ℕ
last_of f d = (d + f.jitter) / f.period * f.period - f.jitter

-- 128 ms, which every gap of a VL divides
unfoldable pub cycle : ℕ
cycle = 1600000

-- a period divides the cycle
unfoldable pub evenly : ℕ → Bool
evenly period = eqb (cycle % period) 0

-- the tally of no flows
abbrev pub empty_tally : Tally
empty_tally = record { work = 0; last = 0; even = true }

-- a flow can be added: it is in range, and so are the span and the work so far
unfoldable pub taken : Tally → Flow → ℕ → Bool
taken a f d = ltb d limit && (ltb a.work (2 ^ 63) && in_range f)

-- it is added: its work, the tick of its last arrival and, for a span of 0, whether its period divides the cycle
unfoldable pub with_flow : Tally → Flow → ℕ → Tally
with_flow a f d = record {
  work = a.work + most f d * f.cost;
  last = max a.last (last_of f d);
  even = pick (eqb d 0) (a.even && evenly f.period) a.even;
}

-- one flow more; none where it cannot be added
unfoldable pub add_to : Tally → Flow → ℕ → Option Tally
add_to a f d = pick (taken a f d) (Some (with_flow a f d)) None

-- 01, One station, used for queues and ports: one flow, the most that it brings in a span, and the ranges in which a station takes it.
-- Assumes nothing.
use Rattle.std.specs.Prelude.{ℕ, ◌+◌, ◌/◌, Bool, ◌&&◌, leb}
use Rattle.base.specs.Pick.{within}
use Rattle.search.specs.declared.pass.Flow.{Flow}

-- "In a span of d ticks, both end ticks counted, a flow brings at most (d + J) / T rounded down, plus 1."
unfoldable pub most : Flow → ℕ → ℕ
most f d = (d + f.jitter) / f.period + 1

-- "a period outside 12,500 to 125,000,000, a jitter above 2,000,000,000 or a cost outside 1 to 4,000,000,000" is out of range
abbrev pub longest_period : ℕ
longest_period = 125000000

unfoldable pub in_range : Flow → Bool
in_range f = within 12500 longest_period f.period && (leb f.jitter 2000000000 && within 1 4000000000 f.cost)

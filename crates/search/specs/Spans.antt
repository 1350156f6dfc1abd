-- Any function g of the span: how much work a span of d ticks can bring. The least length
-- that g serves, the greatest g d − d below a length, and the least d that gives it.
-- The flows' sum is one such function; nothing here speaks of flows. Assumes nothing.
use Rattle.std.specs.Prelude.{ℕ, ◌-◌, ◌≤◌, leb, eqb, Option}
use Rattle.base.specs.Least.{least_from, greatest_below}

-- 01, One station: a length is "from 1 to 125,000,000"
unfoldable pub limit : ℕ
limit = 125000000

-- a longer span brings no less
abbrev pub Monotone : (ℕ → ℕ) → Type 0
Monotone g = (d e : ℕ) → d ≤ e → g d ≤ g e

-- the least length from 1 to a limit in which all that a span of that many
-- ticks brings is done: a length of l has l ticks, so its span is l − 1
unfoldable pub least_length_to : ℕ → (ℕ → ℕ) → Option ℕ
least_length_to lim g = least_from (λ l. leb (g (l - 1)) l) 1 lim

abbrev pub least_length : (ℕ → ℕ) → Option ℕ
least_length g = least_length_to limit g

-- the greatest g d − d over d from 0 to l − 1
unfoldable pub excess : (ℕ → ℕ) → ℕ → ℕ
excess g l = greatest_below (λ d. g d - d) l

-- the least d that gives it
unfoldable pub least_span : (ℕ → ℕ) → ℕ → Option ℕ
least_span g l = least_from (λ d. eqb (g d - d) (excess g l)) 0 l

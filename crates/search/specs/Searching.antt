-- What is known where a search stands, for any function g of the span that grows with it.
-- Nothing here has to be believed: no public contract of a station speaks of it. Assumes nothing.
use Rattle.std.specs.Prelude.{ℕ, suc, ◌+◌, ◌-◌, ◌≤◌, ◌<◌, Bool, true, ◌≡◌, None, Some}
use Rattle.search.specs.declared.turns.Best.{Best}
use Rattle.search.specs.declared.turns.Search.{Search}
use Rattle.search.specs.declared.turns.Search.TheVariants.{Rising, Falling, Served, Endless, OutOfRange}
use Rattle.search.specs.Spans.{limit, least_length, excess, least_span}
use Rattle.search.specs.Pass.{cycle}

-- a span of d brings this work, and has brought it since the tick `last`
pub record Passed (g : ℕ → ℕ) (d work last : ℕ) : Type 0 where
  pub work_is : work ≡ g d
  pub last_low : last ≤ d
  pub last_same : g last ≡ g d

-- each cycle brings as much as the one before it
pub record Even (g : ℕ → ℕ) : Type 0 where
  pub more : ℕ
  pub each : (d : ℕ) → g (d + cycle) ≡ g d + more

-- on the way up: no length up to x serves
pub record WayUp (g : ℕ → ℕ) (x : ℕ) : Type 0 where
  pub low : x < limit
  pub fails : (e : ℕ) → e < x → suc e < g e

-- the span e gives no more than the best, and where it gives as much, it is no shorter
abbrev pub NoBetter : (ℕ → ℕ) → Best → ℕ → Type 0
NoBetter g b e = (g e ≤ b.figure + e) × (g e ≡ b.figure + e → b.span ≤ e)

-- of the spans below l, neither 0 nor any from k on is better than the best, which is what its span gives
pub record Known (g : ℕ → ℕ) (l : ℕ) (b : Best) (k : ℕ) : Type 0 where
  pub span_low : b.span < l
  pub reached : g b.span ≡ b.figure + b.span
  pub nought : NoBetter g b 0
  pub above : (e : ℕ) → k ≤ e → e < l → NoBetter g b e

-- the spans below `top` say all of those below l: what bounds them bounds these
pub record Enough (g : ℕ → ℕ) (top l : ℕ) : Type 0 where
  pub no_longer : top ≤ l
  pub bounds : (v : ℕ) → ((e : ℕ) → e < top → g e ≤ v + e) → (e : ℕ) → e < l → g e ≤ v + e

-- on the way down: the spans below `top` say all, and of them none from d + 1 on is left
pub record WayDown (g : ℕ → ℕ) (l d : ℕ) (b : Best) : Type 0 where
  pub top : ℕ
  pub enough : Enough g top l
  pub low : d < top
  pub known : Known g top b (suc d)

-- what a search has from the span of 0: its best, and whether the work is even
abbrev pub Seed : (ℕ → ℕ) → Best → Bool → Type 0
Seed g b even = (b.figure ≡ g 0) × (b.span ≡ 0) × (even ≡ true → Even g)

-- Where the search stands. `Top` says of a length that the way down may begin at it: on the way up it has to be true of
-- the least length of g, while a search that begins on the way down may do so at any length.
-- At its end the search has the length, the greatest excess below it and the least span that gives it; or there is no length.
unfoldable pub Searching : (ℕ → Type 0) → (ℕ → ℕ) → Search → Type 0
Searching Top g (Rising d b even) = ((l : ℕ) → least_length g ≡ Some l → Top l) × WayUp g d × (0 < d → Seed g b even)
Searching Top g (Falling l d b) = Top l × WayDown g l d b
Searching Top g (Served l b) = Top l × (b.figure ≡ excess g l) × (least_span g l ≡ Some b.span)
Searching Top g Endless = least_length g ≡ None
Searching Top g OutOfRange = ⊥

-- what is left of the search: a number that falls with each turn
unfoldable pub left : Search → ℕ
left (Rising d b even) = limit + limit + 1 - d
left (Falling l d b) = d + 1
left (Served l b) = 0
left Endless = 0
left OutOfRange = 0

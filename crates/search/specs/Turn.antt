-- What one turn makes of a search, given what a pass has found: the work that a span brings, and the tick of the last arrival in it; or that a flow is out of range.
-- Nothing here has to be believed: no public contract of a station speaks of it. Assumes nothing.
use Rattle.std.specs.Prelude.{ℕ, ◌+◌, ◌-◌, min, Bool, false, ◌&&◌, leb, ltb, eqb, Option, None, Some}
use Rattle.base.specs.Pick.{pick}
use Rattle.search.specs.declared.pass.Tally.{Tally}
use Rattle.search.specs.declared.turns.Best.{Best}
use Rattle.search.specs.declared.turns.Search.{Search}
use Rattle.search.specs.declared.turns.Search.TheVariants.{Rising, Falling, Served, Endless, OutOfRange}
use Rattle.search.specs.Spans.{limit}
use Rattle.search.specs.Pass.{cycle}

-- a search begins on the way up, with nothing passed
unfoldable pub begun : Search
begun = Rising 0 (record { figure = 0; span = 0 }) false

-- the span of the next pass; none where the search is at its end
unfoldable pub span_of : Search → Option ℕ
span_of (Rising d b even) = Some d
span_of (Falling l d b) = Some d
span_of (Served l b) = None
span_of Endless = None
span_of OutOfRange = None

-- the best once a pass has found this work, which has been there since the tick `last`
unfoldable pub improved : Best → ℕ → ℕ → Best
improved b work last =
    pick (ltb b.figure (work - last)) (record { figure = work - last; span = last })
    (pick (ltb (work - last) b.figure) b (record { figure = b.figure; span = min last b.span }))

-- the span of 0 is the best to begin with
unfoldable pub seeded : ℕ → ℕ → Best → Best
seeded d work b = pick (eqb d 0) (record { figure = work; span = 0 }) b

-- on the way down: at its end where the work is no more than the best, else on to the longest span that can be better
unfoldable pub fallen : ℕ → Best → ℕ → ℕ → Search
fallen l b work last =
    let c = improved b work last in pick (leb work c.figure) (Served l c) (Falling l (min (work - c.figure) (last - 1)) c)

-- from the way up to the way down: below a cycle where the work is even, else below the length
unfoldable pub turned_down : ℕ → Best → Bool → ℕ → ℕ → Search
turned_down l b even work last = pick (even && ltb cycle l) (Falling l (cycle - 1) b) (fallen l b work last)

-- on the way up: a length of d + 1 serves the work of a span of d, or the work says how far no length does
unfoldable pub risen : ℕ → Best → Bool → ℕ → ℕ → Search
risen d b even work last =
    pick (leb limit d) Endless
    (pick (leb work (d + 1)) (turned_down (d + 1) b even work last)
    (pick (ltb limit work) Endless (Rising (work - 1) b even)))

-- one turn, given what a pass has found: none where a flow is out of range. A search at its end stays there
unfoldable pub turn_of : Search → Option Tally → Search
turn_of (Rising d b even) (Some t) = risen d (seeded d t.work b) (pick (eqb d 0) t.even even) t.work t.last
turn_of (Rising d b even) None = OutOfRange
turn_of (Falling l d b) (Some t) = fallen l b t.work t.last
turn_of (Falling l d b) None = OutOfRange
turn_of (Served l b) t = Served l b
turn_of Endless t = Endless
turn_of OutOfRange t = OutOfRange

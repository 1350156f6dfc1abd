-- The rows in the lent result: what is known before they are computed, and how far they are written. Nothing here has to be believed.
-- Assumes nothing.
use Rattle.std.specs.Prelude.{ℕ, ◌+◌, ◌-◌, ◌*◌, ◌≤◌, List, ◌++◌, map, ◌≡◌, length, take, drop, replicate}
use Rattle.base.specs.Tabulate.{total}
use Rattle.frame.specs.Packets.{packets}
use Rattle.network.specs.Network.{Network, vl_at, stream_at, hop_at, port_at}
use Rattle.network.specs.Views.{route}
use Rattle.rows.specs.Links.{send_most, send_line, hop_line}
use Rattle.rows.specs.Ports.{figure_of}
use Rattle.rows.specs.Rows.{rows_to, rows_of}
use Rattle.table.specs.Sections.{lent}
use Rattle.answers.specs.Analysis.{joined}
use Rattle.analysis.specs.declared.results.Ticks.{Ticks}

-- the numbers of a row at a place of the lent result
unfoldable pub put_at : List ℕ → ℕ → List ℕ → List ℕ
put_at l at row = take at l ++ row ++ drop (at + length row) l

-- what the route of hop h adds, and what a frame of VL v takes on its end system's link, at most and at least
pub record RouteTicks (net : Network) (h : ℕ) (r : Ticks) : Type 0 where
  pub most_is : r.most ≡ total (map (λ g. (port_at net (hop_at net g).port).greatest + figure_of net g) (route net h))
  pub most_bound : r.most ≤ 8 * 125001250
  pub least_is : r.least ≡ total (map (λ g. hop_line net g + (port_at net (hop_at net g).port).least) (route net h))
  pub least_bound : r.least ≤ 8 * 2090

pub record FrameTicks (net : Network) (v : ℕ) (r : Ticks) : Type 0 where
  pub most_is : r.most ≡ send_most net v
  pub most_bound : r.most ≤ 15380
  pub least_is : r.least ≡ send_line net v
  pub least_bound : r.least ≤ 840

-- the gaps before the last packet of stream s's least message
unfoldable pub gaps_of : Network → ℕ → ℕ
gaps_of net s = (packets (stream_at net s).least (vl_at net (stream_at net s).vl).lmax - 1) * (vl_at net (stream_at net s).vl).gap

-- a lent result that is zero and has room for all rows
pub record Room (net : Network) (result : List ℕ) : Type 0 where
  pub zero_before : result ≡ replicate (length result) 0
  pub fits : 6 * length (rows_of net) ≤ length result

-- the rows of the streams below s stand in a lent result of n numbers, and end at place `at`
pub record Put (net : Network) (s at n : ℕ) (result : List ℕ) : Type 0 where
  pub place : at ≡ 6 * length (rows_to net s)
  pub holds : result ≡ lent n (joined (rows_to net s))

-- The flows of a port, gathered hop by hop, and the jitters of the hops on it, noted on the way: the state after h hops, how it goes on, and what it is at the end.
-- Assumes nothing.
use Prim.Native.Nat.{ℕ, suc, ◌+◌, ◌≤◌, ◌<◌}
use mathlib.Core.Bool.{Bool}
use mathlib.Core.List.{List, [], ◌∷◌, ◌++◌}
use mathlib.Core.Path.{◌≡◌, ap}
use native.Mathlib.Omega.{arith}
use borrow.Author.Tests.{eq-eqb, ne_eqb}
use lib.Dec.{eqb}
use lib.ListN.{length, set}
use Rattle.layout.specs.Limits.{limits}
use Rattle.network.specs.Network.{Network, hop_at}
use Rattle.network.specs.Ranges.{Ranges}
use Rattle.network.specs.ReferenceFacts.{References}
use Rattle.network.specs.Views.{hops_on}
use Rattle.station.specs.Station.{Flow}
use Rattle.station.specs.Offered.{most_flows}
use Rattle.rows.specs.Ports.{hop_flow, port_flows, jitter_of}
use Rattle.figures.specs.Computing.{Noted}
use Rattle.figures.proofs.BoundLaws.{port_offered}
use Rattle.figures.proofs.GatherLaws.{Gathers, gather_start, gather_taken, gather_passed, gather_room}
use Rattle.figures.proofs.NotedLaws.{NotedTo, noted_start, noted_taken, noted_passed, noted_port}

abbrev pub on_port : Network → ℕ → ℕ → Bool
on_port net p h = eqb (hop_at net h).port p

pub record Gathering (net : Network) (p h : ℕ) (jitters : List ℕ) (flows : List Flow) : Type 0 where
  pub gathers : Gathers (hop_flow net (jitter_of net)) (on_port net p) h flows
  pub noted_here : NotedTo net (jitter_of net) p h jitters

module _ (net : Network) (p : ℕ) where
  pub gathering_none : (jitters : List ℕ) → Noted net (jitter_of net) p jitters → Gathering net p 0 jitters []
  gathering_none jitters lower = record {
    gathers = gather_start (hop_flow net (jitter_of net)) (on_port net p);
    noted_here = noted_start net (jitter_of net) p jitters lower;
  }

  module _ (h : ℕ) (jitters : List ℕ) (flows : List Flow) (so_far : Gathering net p h jitters flows) (few : length net.hops ≤ limits.hops) (row : h < length net.hops) where
    -- ---- a hop that is on the port: its jitter is noted at its place and its flow behind the others
    pub gathering_taken : (hop_at net h).port ≡ p → (flow : Flow) → flow ≡ hop_flow net (jitter_of net) h
        → Gathering net p (h + 1) (set jitters h flow.jitter) (flows ++ (flow ∷ []))
    unfolding hop_flow
    gathering_taken on flow is = record {
      gathers = gather_taken (hop_flow net (jitter_of net)) (on_port net p) h flows so_far.gathers flow (eq-eqb _ _ on) is;
      noted_here = noted_taken net (jitter_of net) p h jitters so_far.noted_here flow.jitter row (omega arith) on (ap (λ (f : Flow). f.jitter) is);
    }

    -- it has its place: a port has no more flows than there are VLs
    pub gathering_room : Ranges net → References net → (hop_at net h).port ≡ p → length flows < most_flows
    unfolding port_flows hops_on
    gathering_room ranges refs on =
        gather_room (hop_flow net (jitter_of net)) (on_port net p) h flows so_far.gathers (eq-eqb _ _ on) (length net.hops) row
        (port_offered net ranges refs p)

    -- ---- one that is not
    pub gathering_passed : ((hop_at net h).port ≡ p → ⊥) → Gathering net p (h + 1) jitters flows
    gathering_passed off = record {
      gathers = gather_passed (hop_flow net (jitter_of net)) (on_port net p) h flows so_far.gathers (ne_eqb _ _ off);
      noted_here = noted_passed net (jitter_of net) p h jitters so_far.noted_here off;
    }

  -- ---- all hops
  pub gathered_port : (h : ℕ) (jitters : List ℕ) (flows : List Flow) → h ≡ length net.hops → Gathering net p h jitters flows
      → (flows ≡ port_flows net (jitter_of net) p) × Noted net (jitter_of net) (suc p) jitters
  unfolding port_flows hops_on
  gathered_port h jitters flows done all = (rw (← done) all.gathers, noted_port net (jitter_of net) p h jitters all.noted_here (omega arith))

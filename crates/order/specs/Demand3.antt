-- The order, demand 3: "Take an accepted table and a network that starts empty and runs tick by tick under 01's rules .. Each message
-- is then complete at each destination no earlier than its best figure and no later than its worst, counted from its release." It is
-- said of bytes, of the rows that the analysis left for them, and of runs of the network that the bytes describe. Assumes nothing.
use Rattle.std.specs.Prelude.{ℕ, ◌+◌, ◌*◌, ◌≤◌, ◌<◌, true, ◌≡◌, length, get_or}
use mathlib.Core.List.{List, Memᴰ}
use Rattle.network.specs.Network.{Network, vl_at, stream_at, hop_at}
use Rattle.table.specs.Answers.{accepted}
use Rattle.table.specs.Read.{network_in}
use Rattle.network.specs.Views.{leaf}
use Rattle.analysis.specs.Analysis.{Analysed, Analyses}
use Rattle.machine.specs.Messages.{Message, Packet}
use Rattle.machine.specs.Machine.{Run, released}
use Rattle.machine.specs.Permitted.{PermittedBelow}
use Rattle.machine.specs.Runs.{Complete, Hands, Waited, Reaches, Runs, Continues}

-- a result of `rows` rows, of six numbers each: "stream, hop, queue, worst, best, jitter"
module _ (result : List ℕ) (i : ℕ) where
  unfoldable pub stream_in : ℕ
  stream_in = get_or result (6 * i) 0

  unfoldable pub hop_in : ℕ
  hop_in = get_or result (6 * i + 1) 0

  unfoldable pub queue_in : ℕ
  queue_in = get_or result (6 * i + 2) 0

  unfoldable pub worst_in : ℕ
  worst_in = get_or result (6 * i + 3) 0

  unfoldable pub best_in : ℕ
  best_in = get_or result (6 * i + 4) 0

-- a row for stream s and the destination of hop h
pub record RowFor (rows : ℕ) (result : List ℕ) (s h : ℕ) : Type 0 where
  pub at : ℕ
  pub there : at < rows
  pub stream : stream_in result at ≡ s
  pub hop : hop_in result at ≡ h

-- a row for stream s
pub record RowOf (rows : ℕ) (result : List ℕ) (s : ℕ) : Type 0 where
  pub at : ℕ
  pub there : at < rows
  pub stream : stream_in result at ≡ s

-- what holds of the rows and of every run of the network; a run is permitted in the ticks below n, and may stop there. An end system's link
-- may take its waiting VLs in turn, as 01 has it, or in any other order.
pub record Holds (net : Network) (rows : ℕ) (result : List ℕ) : Type 0 where
  -- ".. no later than its worst, counted from its release": message m is released in tick t, and row i is one of its stream
  pub no_later :
      (run : Run) (n : ℕ) → PermittedBelow net run n → (t : ℕ) (m : Message) → t < n → Memᴰ m (released run t)
      → (i : ℕ) → i < rows → stream_in result i ≡ m.stream → t + worst_in result i < n
      → Complete net run m (hop_in result i) (t + worst_in result i)
  -- ".. no earlier than its best figure"
  pub no_earlier :
      (run : Run) (n : ℕ) → PermittedBelow net run n → (t : ℕ) (m : Message) → t < n → Memᴰ m (released run t)
      → (i : ℕ) → i < rows → stream_in result i ≡ m.stream
      → (u : ℕ) → u < n → Complete net run m (hop_in result i) u → t + best_in result i ≤ u
  -- no packet waits longer in its queue than the queue figure of its stream's rows
  pub no_longer :
      (run : Run) (n : ℕ) → PermittedBelow net run n → (v t : ℕ) (x : Packet) → t < n → Hands net run v t x
      → (i : ℕ) → i < rows → stream_in result i ≡ x.message.stream → Waited net run n x t (queue_in result i)
  -- "On a virtual link with one sub-link the queue figure is also reached: for each stream some permitted run makes a last packet wait
  -- exactly that many ticks."
  pub reached :
      (i : ℕ) → i < rows → (vl_at net (stream_at net (stream_in result i)).vl).sublinks ≡ 1
      → Reaches net (stream_in result i) (queue_in result i)
  -- "each destination": there is a row for each stream and each hop of its VL that is nobody's parent, and so one for each stream
  pub every_destination :
      (s h : ℕ) → s < length net.streams → h < length net.hops → (hop_at net h).vl ≡ (stream_at net s).vl → leaf net h ≡ true
      → RowFor rows result s h
  pub every_stream : (s : ℕ) → s < length net.streams → RowOf rows result s
  -- and there are such runs, each link in turn: for all releases that keep the rule, any delays within their bounds and any first turns
  pub runs : Runs net
  -- and each goes on: "A run may stop at any tick", but none has to
  pub continues : Continues net

-- for all bytes that the analysis accepts, with the rows that it leaves
abbrev pub Demand3 : Type 0
Demand3 =
    (bytes : List ℕ) (room : ℕ) (r : Analysed) (result : List ℕ) → Analyses bytes room r result → r.answer ≡ accepted
    → Holds (network_in bytes) r.rows result

-- The runs that are permitted, in the order's words "releases as the table permits, hardware delays within their bounds"; any other
-- sentence in quotes is 01's. A run may stop at any tick, so this is asked of the ticks below one. Assumes nothing.
use Rattle.std.specs.Prelude.{ℕ, ◌+◌, ◌≤◌, ◌<◌, true, ◌≡◌, eqb, length}
use mathlib.Core.List.{List, Memᴰ, Permᴰ}
use Rattle.network.specs.Network.{Network, stream_at, port_at, hop_at}
use Rattle.network.specs.Views.{leaf}
use Rattle.station.specs.Station.{Flow, most}
use Rattle.machine.specs.Sum.{span, count}
use Rattle.machine.specs.Pool.{landed}
use Rattle.machine.specs.Messages.{Release, Message, Frame}
use Rattle.machine.specs.Machine.{Run, released, delivered, sets_out, reaches, end_joined, all_sending, state}

-- a stream as a flow of its own T and J
abbrev pub stream_flow : Network → ℕ → Flow
stream_flow net s = record { period = (stream_at net s).period; jitter = (stream_at net s).jitter; cost = 0 }

-- "A stream releases messages of least M to M bytes"
pub record Sized (net : Network) (x : Release) : Type 0 where
  pub stream : x.stream < length net.streams
  pub least : (stream_at net x.stream).least ≤ x.size
  pub greatest : x.size ≤ (stream_at net x.stream).size

-- how many messages stream s releases in tick t
abbrev pub released_by : (ℕ → List Release) → ℕ → ℕ → ℕ
released_by releases s t = count (λ x. eqb x.stream s) (releases t)

module _ (net : Network) where
  pub record PermittedBelow (r : Run) (n : ℕ) : Type 0 where
    pub sized : (t : ℕ) (x : Release) → t < n → Memᴰ x (r.releases t) → Sized net x
    -- "in any span no more than a flow of its own T and J brings"
    pub rule :
        (s : ℕ) → s < length net.streams → (x d : ℕ) → x + d < n
        → span (released_by r.releases s) x d ≤ most (stream_flow net s) d
    -- "after a permitted send delay"
    pub send_least_lem : (t : ℕ) (m : Message) → t < n → Memᴰ m (released r t) → net.send_least ≤ (r.choice t).send m
    pub send_greatest_lem : (t : ℕ) (m : Message) → t < n → Memᴰ m (released r t) → (r.choice t).send m ≤ net.send_greatest
    -- "same-tick order is free", "ties free": what comes is what is due, in any order
    pub reach : (t : ℕ) → t < n → Permᴰ (landed t (all_sending net t (released r t) (r.choice t) (state net r t))) (r.choice t).reach
    pub enter : (t p : ℕ) → t < n → Permᴰ (reaches net t (r.choice t) (state net r t) p) ((r.choice t).enter p)
    -- "An idle end-system link sends the next VL's waiting packet": any VL's, since what its link looks at is what waits, in any order
    pub turns : (t e : ℕ) → t < n → Permᴰ (end_joined net t (r.choice t) (state net r t) e).lanes ((r.choice t).turns e)
    -- "after a permitted switch delay of its own"
    pub flight_least :
        (t h : ℕ) (f : Frame) → t < n → h < length net.hops → Memᴰ f (sets_out net t (r.choice t) (state net r t) h)
        → (port_at net (hop_at net h).port).least ≤ (r.choice t).flight h f
    pub flight_greatest :
        (t h : ℕ) (f : Frame) → t < n → h < length net.hops → Memᴰ f (sets_out net t (r.choice t) (state net r t) h)
        → (r.choice t).flight h f ≤ (port_at net (hop_at net h).port).greatest
    -- "A hop that is nobody's parent leads to the receive delay."
    pub receive_least_lem :
        (t h : ℕ) (f : Frame) → t < n → leaf net h ≡ true → Memᴰ f (delivered net t (r.choice t) (state net r t) h)
        → net.receive_least ≤ (r.choice t).receive h f
    pub receive_greatest_lem :
        (t h : ℕ) (f : Frame) → t < n → leaf net h ≡ true → Memᴰ f (delivered net t (r.choice t) (state net r t) h)
        → (r.choice t).receive h f ≤ net.receive_greatest

  -- ".., in turn": in each tick below n the link looks at the VLs as they stand, from the one after the last that it served
  abbrev pub InTurn : Run → ℕ → Type 0
  InTurn r n = (t e : ℕ) → t < n → (r.choice t).turns e ≡ (end_joined net t (r.choice t) (state net r t) e).lanes

  -- permitted however long it goes on
  abbrev pub Permitted : Run → Type 0
  Permitted r = (n : ℕ) → PermittedBelow r n

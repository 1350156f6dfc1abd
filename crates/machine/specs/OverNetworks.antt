-- The machine's own theorem, over any sound network whose busy lengths exist. The order's demand 3 follows from it (order/proofs/Demand3)
-- and does not name it, so nobody has to believe what stands here. It is proved in proofs/OverNetworks, `demand_3_over_networks`.
-- Assumes nothing.
use Rattle.std.specs.Prelude.{ℕ, ◌+◌, ◌≤◌, ◌<◌, true, ◌≡◌, length, get_or}
use mathlib.Core.List.{List, Memᴰ}
use Rattle.base.specs.Tests.{number_or0}
use Rattle.network.specs.Network.{Network, vl_at, stream_at, hop_at}
use Rattle.network.specs.Views.{leaf}
use Rattle.rows.specs.Queues.{queue_flows, queue_length}
use Rattle.rows.specs.Rows.{queue_of, worst, best}
use Rattle.station.specs.Station.{figure}
use Rattle.machine.specs.Messages.{Release, Message, Packet, messages, vl_of}
use Rattle.machine.specs.Machine.{Run, released}
use Rattle.machine.specs.Permitted.{PermittedBelow}
use Rattle.machine.specs.Runs.{Complete, Hands, Waited, Reaches, Runs, Continues}
use Rattle.machine.specs.Sound.{Sound, Busy}

module _ (net : Network) where
  -- the message is released in tick t, below n, and hop h leads to a destination of it: a hop of its VL that is nobody's parent
  pub record SentTo (r : Run) (n t : ℕ) (m : Message) (h : ℕ) : Type 0 where
    pub running : t < n
    pub released : Memᴰ m (released r t)
    pub row : h < length net.hops
    pub same_vl : (hop_at net h).vl ≡ vl_of net m
    pub is_leaf : leaf net h ≡ true

  -- ---- of runs that are permitted in the ticks below n and may stop there
  -- no later than the worst figure, if the run goes on to that tick
  abbrev pub NoLater : Type 0
  NoLater =
      (r : Run) (n : ℕ) → PermittedBelow net r n → (t : ℕ) (m : Message) (h : ℕ) → SentTo r n t m h
      → t + worst net m.stream h < n → Complete net r m h (t + worst net m.stream h)

  -- no earlier than the best figure
  abbrev pub NoEarlier : Type 0
  NoEarlier =
      (r : Run) (n : ℕ) → PermittedBelow net r n → (t : ℕ) (m : Message) (h : ℕ) → SentTo r n t m h
      → (u : ℕ) → u < n → Complete net r m h u → t + best net m.stream h ≤ u

  -- no packet waits longer than the queue figure of its stream's sub-link
  abbrev pub NoLonger : Type 0
  NoLonger =
      (r : Run) (n : ℕ) → PermittedBelow net r n → (v t : ℕ) (x : Packet) → t < n → Hands net r v t x
      → Waited net r n x t (queue_of net x.message.stream)

  -- "On a virtual link with one sub-link the queue figure is also reached: for each stream some permitted run makes a last packet wait
  -- exactly that many ticks."
  abbrev pub Reached : Type 0
  Reached = (s : ℕ) → s < length net.streams → (vl_at net (stream_at net s).vl).sublinks ≡ 1 → Reaches net s (queue_of net s)

  -- 01's queue figure is "the station figure less one BAG": the station figure is no less, so nothing is cut off
  abbrev pub NothingIsCutOff : Type 0
  NothingIsCutOff = (s : ℕ) → s < length net.streams → let v = (stream_at net s).vl in let k = (stream_at net s).sublink in
      (vl_at net v).gap ≤ figure (queue_flows net v k) (number_or0 (queue_length net v k))

  pub record Holds : Type 0 where
    pub no_later : NoLater
    pub no_earlier : NoEarlier
    pub no_longer : NoLonger
    pub reached : Reached
    pub nothing_cut_off : NothingIsCutOff
    pub runs : Runs net
    pub continues : Continues net

abbrev pub Demand3OverNetworks : Type 0
Demand3OverNetworks = (net : Network) → Sound net → Busy net → Holds net

-- ---- beside it: two messages are the same only if the ticks of their releases and their places there are
-- (proofs/Network/Told, `told_apart`)
abbrev pub ToldApart : Type 0
ToldApart =
    (t u i k : ℕ) (xs ys : List Release) (d : Message) → i < length xs → k < length ys
    → get_or (messages t 0 xs) i d ≡ get_or (messages u 0 ys) k d → (t ≡ u) × (i ≡ k)

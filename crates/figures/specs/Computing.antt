-- What the private functions promise one another: ranges that keep sums and products small, and what the lists of waits, queue figures,
-- jitters and figures hold on the way. Nothing here has to be believed. Assumes nothing.
use Rattle.std.specs.Prelude.{ℕ, ◌≤◌, ◌<◌, ◌&&◌, not, Option, Some, List, map, ◌≡◌, eqb, length, get_or}
use Rattle.std.specs.Option.{option_eq}
use Rattle.base.specs.Tabulate.{tabulate, passing, total}
use Rattle.layout.specs.Limits.{limits}
use Rattle.network.specs.declared.Vl.{Vl}
use Rattle.network.specs.declared.Stream.{Stream}
use Rattle.network.specs.declared.Port.{Port}
use Rattle.network.specs.declared.Hop.{Hop}
use Rattle.network.specs.Network.{Network, vl_at, hop_at}
use Rattle.network.specs.Ranges.{VlRange, StreamRange}
use Rattle.rows.specs.Links.{send_most}
use Rattle.rows.specs.Ports.{jitter_of, figure_of}
use Rattle.table.specs.Sections.{lent}
use Rattle.sheet.specs.declared.Delays.{Delays}
use Rattle.figures.specs.Figures.{waits_of}

-- ---- ranges of records by value, as arithmetic reads them
pub record DelayRange (d : Delays) : Type 0 where
  pub send_ordered : d.send_least ≤ d.send_greatest
  pub send_bound : d.send_greatest ≤ 1875
  pub receive_ordered : d.receive_least ≤ d.receive_greatest
  pub receive_bound : d.receive_greatest ≤ 1875

pub record PortRange (port : Port) : Type 0 where
  pub per_byte_least : 1 ≤ port.perbyte
  pub per_byte_greatest : port.perbyte ≤ 10
  pub ordered : port.least ≤ port.greatest
  pub delay_greatest : port.greatest ≤ 1250

-- a VL's frames on a link where a byte takes so many ticks
pub record OnLink (vl : Vl) (perbyte : ℕ) : Type 0 where
  pub vl_range : VlRange vl
  pub per_byte_least : 1 ≤ perbyte
  pub per_byte_greatest : perbyte ≤ 10

pub record QueueRange (d : Delays) (stream : Stream) (vl : Vl) : Type 0 where
  pub delays : DelayRange d
  pub stream_range : StreamRange stream
  pub vl_range : VlRange vl

-- ---- links
-- the frames of the VLs of end system e below n: of all, or with one left out
unfoldable pub sum_without : Network → ℕ → Option ℕ → ℕ → ℕ
sum_without net e but n = total (map (send_most net) (passing (λ u. eqb (vl_at net u).system e && not (option_eq eqb (Some u) but)) n))

-- ---- numbers noted one behind the other: the first n of f in a list of m that is zero behind them
abbrev pub noted : (ℕ → ℕ) → ℕ → ℕ → List ℕ
noted f m n = lent m (tabulate f n)

-- ---- queues
-- VL v as it was read off the sheet
pub record VlThere (net : Network) (v : ℕ) (vl : Vl) : Type 0 where
  pub row : v < length net.vls
  pub is : vl ≡ vl_at net v

-- ---- ports: numbers by hop, of the hops on ports below p; zeros behind the hops
pub record Noted (net : Network) (f : ℕ → ℕ) (p : ℕ) (list : List ℕ) : Type 0 where
  pub long : length list ≡ limits.hops
  pub below : (h : ℕ) → h < length net.hops → (hop_at net h).port < p → get_or list h 0 ≡ f h
  pub behind : (i : ℕ) → length net.hops ≤ i → get_or list i 0 ≡ 0

-- the waits, and the figures and jitters of the hops on ports below p
pub record PortAsked (net : Network) (waits figures jitters : List ℕ) (p : ℕ) : Type 0 where
  pub row : p < length net.ports
  pub waits_are : waits ≡ lent limits.vls (waits_of net)
  pub figures_are : Noted net (figure_of net) p figures
  pub jitters_are : Noted net (jitter_of net) p jitters

-- hop h on that port, as it was read off the sheet
pub record HopAsked (net : Network) (waits figures jitters : List ℕ) (h : ℕ) (hop : Hop) : Type 0 where
  pub there : h < length net.hops
  pub is : hop ≡ hop_at net h
  pub known : PortAsked net waits figures jitters hop.port

-- a figure that is that of each hop on port p
pub record FigureFor (net : Network) (p figure : ℕ) (figures : List ℕ) : Type 0 where
  pub before : Noted net (figure_of net) p figures
  pub figure_is : (h : ℕ) → h < length net.hops → (hop_at net h).port ≡ p → figure ≡ figure_of net h

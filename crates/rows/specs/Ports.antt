-- 01, Port: "one flow for each hop on it, T = BAG, C = (20 + Lmax) × ticks per byte of the port", and the jitters of hops, as
-- equations on the figures and jitters of the hops. Assumes nothing.
use Rattle.std.specs.Prelude.{ℕ, zero, suc, ◌+◌, ◌-◌, ◌<◌, List, map, ◌≡◌, length, Option, None, Some}
use Rattle.base.specs.Tests.{number_or0}
use Rattle.network.specs.Network.{Network, vl_at, hop_at, parent_at}
use Rattle.network.specs.Views.{hops_on}
use Rattle.station.specs.Station.{Flow, busy_length_to, figure}
use Rattle.rows.specs.Links.{send_spread, mux_wait, hop_most, hop_line, hop_spread}

-- the flow of a hop, by the jitters of the hops
unfoldable pub hop_flow : Network → (ℕ → ℕ) → ℕ → Flow
hop_flow net jitter h = record { period = (vl_at net (hop_at net h).vl).gap; jitter = jitter h; cost = hop_most net h }

unfoldable pub port_flows : Network → (ℕ → ℕ) → ℕ → List Flow
port_flows net jitter p = map (hop_flow net jitter) (hops_on net p)

unfoldable pub port_length : Network → (ℕ → ℕ) → ℕ → Option ℕ
port_length net jitter p = busy_length_to net.tick.longest (port_flows net jitter p)

unfoldable pub port_figure : Network → (ℕ → ℕ) → ℕ → ℕ
port_figure net jitter p = figure (port_flows net jitter p) (number_or0 (port_length net jitter p))

-- the figure of a hop: "An idle port sends the head of its FIFO", in order of arrival, so all frames of a port have one figure, the port's
unfoldable pub hop_figure : Network → (ℕ → ℕ) → ℕ → ℕ
hop_figure net jitter h = port_figure net jitter (hop_at net h).port

-- "Jitter of a hop without parent: mux wait + (20 + Lmax − 84) × ticks per byte of the end system + switch delay greatest − least."
unfoldable pub root_jitter : Network → ℕ → ℕ
root_jitter net h = mux_wait net (hop_at net h).vl + send_spread net (hop_at net h).vl + hop_spread net h

-- "With parent: the parent's jitter + parent port's figure − 84 × its ticks per byte + this port's switch delay greatest − least."
unfoldable pub child_jitter : Network → ℕ → ℕ → ℕ → ℕ → ℕ
child_jitter net h g parentJitter parentFigure = parentJitter + (parentFigure - hop_line net g) + hop_spread net h

-- figures and jitters of the hops that keep these rules
pub record Figures (net : Network) (figure_at jitter_at : ℕ → ℕ) : Type 0 where
  pub figure_is : (h : ℕ) → h < length net.hops → figure_at h ≡ hop_figure net jitter_at h
  pub root_is : (h : ℕ) → h < length net.hops → parent_at net h ≡ None → jitter_at h ≡ root_jitter net h
  pub child_is : (h g : ℕ) → h < length net.hops → parent_at net h ≡ Some g
      → jitter_at h ≡ child_jitter net h g (jitter_at g) (figure_at g)

-- the one solution, for parents on lower-numbered ports: what the hops on ports below n have
unfoldable pub jitter_below : Network → ℕ → ℕ → ℕ
jitter_below net zero h = 0
jitter_below net (suc n) h = elim (parent_at net h) [
  | None ↦ root_jitter net h
  | Some g ↦ child_jitter net h g (jitter_below net n g) (hop_figure net (jitter_below net n) g)
]

unfoldable pub jitter_of : Network → ℕ → ℕ
jitter_of net = jitter_below net (length net.ports)

unfoldable pub figure_of : Network → ℕ → ℕ
figure_of net = hop_figure net (jitter_of net)

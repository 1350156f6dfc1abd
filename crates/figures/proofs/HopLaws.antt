-- What is read off a sheet for a hop gives its flow: its jitter is by how much its frames are apart when they leave the end system or the port before, and what is between its switch delays.
-- Assumes nothing.
use Prim.Native.Nat.{ℕ, ◌+◌, ◌-◌, ◌*◌, ◌<◌}
use mathlib.Core.List.{List}
use Rattle.std.specs.Prelude.{None, Some}
use mathlib.Core.Path.{◌≡◌, sym, ap, ◌∙◌}
use native.Mathlib.Omega.{arith}
use lib.ListN.{length, get_or}
use Rattle.frame.specs.Frame.{least_line, largest_line}
use Rattle.network.specs.declared.Vl.{Vl}
use Rattle.network.specs.declared.Port.{Port}
use Rattle.network.specs.declared.Hop.{Hop}
use Rattle.network.specs.Network.{Network, vl_at, port_at, hop_at, parent_at}
use Rattle.network.specs.ReferenceFacts.{References}
use Rattle.station.specs.Station.{Flow}
use Rattle.rows.specs.Links.{send_spread, mux_wait, hop_most, hop_line, hop_spread}
use Rattle.rows.specs.Ports.{hop_flow, jitter_of, figure_of}
use Rattle.rows.proofs.PortLaws.{figures_of}
use Rattle.figures.specs.Computing.{HopAsked}
use Rattle.figures.proofs.LinkLaws.{hop_most_is, hop_least_is, hop_spread_is, root_jitter_is, child_jitter_is}

module _ (net : Network) where
  pub left_apart_is : (g : ℕ) (hop : Hop) (port : Port) (jitter figure line r : ℕ) → hop ≡ hop_at net g → port ≡ port_at net hop.port
      → jitter ≡ jitter_of net g → figure ≡ figure_of net g → line ≡ least_line * port.perbyte → r ≡ figure - line
      → jitter + r ≡ jitter_of net g + (figure_of net g - hop_line net g)
  left_apart_is g hop port jitter figure line r is on j f l e = rw (e, l, j, f, on, is, hop_least_is net g)

  -- ---- the jitter, and the flow
  module _ (refs : References net) (h : ℕ) (row : h < length net.hops) (hop : Hop) (is : hop ≡ hop_at net h) where
    pub root_apart : (apart : ℕ) → parent_at net h ≡ None → apart ≡ mux_wait net hop.vl + send_spread net hop.vl → apart + hop_spread net h ≡ jitter_of net h
    root_apart apart root a = rw (a, is) (sym ((figures_of net refs).root_is h row root ∙ root_jitter_is net h))

    pub child_apart : (g apart : ℕ) → parent_at net h ≡ Some g → apart ≡ jitter_of net g + (figure_of net g - hop_line net g) → apart + hop_spread net h ≡ jitter_of net h
    child_apart g apart child a =
        rw a (sym ((figures_of net refs).child_is h g row child ∙ child_jitter_is net h g (jitter_of net g) (figure_of net g)))

    pub hop_flow_is : (port : Port) → port ≡ port_at net hop.port → (vl : Vl) → vl ≡ vl_at net hop.vl → (apart spread cost : ℕ)
        → apart + hop_spread net h ≡ jitter_of net h → spread ≡ port.greatest - port.least → cost ≡ largest_line vl.lmax * port.perbyte
        → ◌≡◌ {A = Flow} (record { period = vl.gap; jitter = apart + spread; cost = cost }) (hop_flow net (jitter_of net) h)
    unfolding hop_flow
    hop_flow_is port on vl of apart spread cost j s c =
        let gap : vl.gap ≡ (vl_at net (hop_at net h).vl).gap = rw (of, is) in
        let late : apart + spread ≡ jitter_of net h = ap (λ (n : ℕ). apart + n) (s ∙ rw (on, is, hop_spread_is net h)) ∙ j in
        let most : cost ≡ hop_most net h = c ∙ rw (on, of, is, hop_most_is net h) in
        λ i. record { period = gap i; jitter = late i; cost = most i }

-- a hop's parent stands on a lower port, so its figure and jitter are noted
pub record Above (net : Network) (g : ℕ) (figures jitters : List ℕ) : Type 0 where
  pub row : g < length net.hops
  pub figure_is : get_or figures g 0 ≡ figure_of net g
  pub jitter_is : get_or jitters g 0 ≡ jitter_of net g

pub above_noted : (net : Network) → References net → (waits figures jitters : List ℕ) (h g : ℕ) (hop : Hop) → HopAsked net waits figures jitters h hop
    → parent_at net h ≡ Some g → Above net g figures jitters
above_noted net refs waits figures jitters h g hop asked child =
    let row : g < length net.hops = omega (arith, refs.parent_earlier_says h g asked.there child, asked.there) in
    let lower : (hop_at net g).port < hop.port = rw asked.is (refs.parent_port h g asked.there child) in
    record {
      row = row;
      figure_is = asked.known.figures_are.below g row lower;
      jitter_is = asked.known.jitters_are.below g row lower;
    }

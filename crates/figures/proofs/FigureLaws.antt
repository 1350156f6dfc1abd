-- The figures of the hops, port after port: what the station says of the flows that are gathered for a port is whether it has no busy length, and the figure of each hop on it.
-- Assumes nothing.
use Prim.Native.Nat.{ℕ, suc, ◌+◌, ◌<◌}
use mathlib.Core.Bool.{true, false, not}
use mathlib.Core.List.{List}
use mathlib.Core.Path.{◌≡◌, sym, ap, ◌∙◌}
use native.Mathlib.Numerals.{add-one}
use native.Mathlib.Omega.{arith}
use borrow.Author.Count.{below_more}
use lib.ListN.{replicate}
use Rattle.std.specs.Prelude.{None, Some}
use Rattle.frame.specs.Tick.{in_force}
use Rattle.layout.specs.Limits.{limits}
use Rattle.network.specs.Network.{Network}
use Rattle.station.specs.Station.{Flow}
use Rattle.rows.specs.Ports.{port_flows, port_figure, jitter_of, figure_of}
use Rattle.rows.specs.Refusals.{endless}
use Rattle.rows.proofs.PortLaws.{figure_of_port}
use Rattle.rows.proofs.TickLaws.{port_length_is, port_figure_is}
use Rattle.figures.specs.Computing.{Noted, FigureFor}
use Rattle.figures.specs.Gathering.{figure_in}
use Rattle.figures.proofs.FoundLaws.{busy_given, busy_none}
use Rattle.figures.proofs.NotedLaws.{no_port_lem}

-- ---- after p ports: none of them is without a busy length, and the figures and jitters of the hops on them are noted
pub record PortsTo (net : Network) (p : ℕ) (figures jitters : List ℕ) : Type 0 where
  pub figures_are : Noted net (figure_of net) p figures
  pub jitters_are : Noted net (jitter_of net) p jitters
  pub served : (i : ℕ) → i < p → endless net i ≡ false

module _ (net : Network) where
  pub ports_none : (figures jitters : List ℕ) → figures ≡ replicate limits.hops 0 → jitters ≡ replicate limits.hops 0
      → PortsTo net 0 figures jitters
  ports_none figures jitters e f = record {
    figures_are = no_port_lem net (figure_of net) figures e;
    jitters_are = no_port_lem net (jitter_of net) jitters f;
    served = λ i l. absurd (omega arith);
  }

  -- ---- port p
  module _ (p : ℕ) (rules : net.tick ≡ in_force) (flows : List Flow) (all : flows ≡ port_flows net (jitter_of net) p) where
    -- it has no busy length
    pub port_endless : None ≡ figure_in flows → endless net p ≡ true
    unfolding endless figure_in
    port_endless e = rw (port_length_is net rules (jitter_of net) p) (ap not (busy_none _ _ (rw all at e)))

    -- it has one, and this figure
    module _ (figure : ℕ) (found : Some figure ≡ figure_in flows) where
      pub port_served : endless net p ≡ false
      unfolding endless figure_in
      port_served = rw (port_length_is net rules (jitter_of net) p) (ap not (busy_given _ _ figure (rw all at found)).0)

      found_figure : figure ≡ port_figure net (jitter_of net) p
      unfolding figure_in
      found_figure = rw (port_figure_is net rules (jitter_of net) p) (busy_given _ _ figure (rw all at found)).1

      pub figure_for : (figures : List ℕ) → Noted net (figure_of net) p figures → FigureFor net p figure figures
      figure_for figures before = record {
        before = before;
        figure_is = λ h l on. found_figure ∙ ap (port_figure net (jitter_of net)) (sym on) ∙ sym (figure_of_port net h);
      }

      pub ports_more :
          (figures jitters figures-now jitters-now : List ℕ) → PortsTo net p figures jitters
          → Noted net (figure_of net) (suc p) figures-now → Noted net (jitter_of net) (suc p) jitters-now → PortsTo net (p + 1) figures-now jitters-now
      ports_more figures jitters figures-now jitters-now so_far fs js = record {
        figures_are = rw add-one fs;
        jitters_are = rw add-one js;
        served = below_more (λ (i : ℕ). endless net i ≡ false) p so_far.served port_served;
      }

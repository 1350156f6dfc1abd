-- Frames on links and jitters of hops in the numbers that they are computed from; the sum of an end system's frames with one VL left out, VL by VL; and that the sum of all and the mux wait are such sums.
-- Assumes nothing.
use Prim.Native.Nat.{ℕ, suc, ◌+◌, ◌-◌, ◌*◌, ◌≤◌}
use mathlib.Core.Bool.{Bool, true, false, ◌&&◌, not, and-true, and-false}
use mathlib.Core.List.{List, map}
use Rattle.std.specs.Prelude.{Option, None, Some}
use Rattle.std.specs.Option.{option_eq}
use mathlib.Core.Path.{◌≡◌, refl, sym, ap, ◌∙◌}
use borrow.Author.Tests.{eq-eqb, ne_eqb}
use lib.Dec.{eqb}
use lib.ListN.{length}
use Rattle.base.specs.Tabulate.{passing, total}
use Rattle.frame.specs.Frame.{least_line, largest_line}
use Rattle.frame.specs.Tick.{in_force, sends_in_time}
use Rattle.frame.proofs.FrameLaws.{least_line_is}
use Rattle.base.proofs.TabulateLaws.{passing_same}
use Rattle.network.specs.declared.EndSystem.{EndSystem}
use Rattle.network.specs.declared.Vl.{Vl}
use Rattle.network.specs.Link.{system_link, port_link}
use Rattle.network.proofs.LinkLaws.{most_ticks_lem, least_ticks_lem, most_is}
use Rattle.network.specs.Network.{Network, system_at, vl_at, port_at, hop_at}
use Rattle.rows.specs.Refusals.{sends_late}
use Rattle.rows.specs.Links.{send_most, send_line, send_spread, send_sum, mux_wait, hop_most, hop_line, hop_spread}
use Rattle.rows.specs.Ports.{root_jitter, child_jitter}
use Rattle.rows.proofs.TickLaws.{late_by_rules}
use Rattle.network.specs.Views.{vls_of}
use Rattle.figures.specs.Computing.{sum_without}
use Rattle.figures.proofs.SumLaws.{total_hit, total_miss}

-- a VL that counts: of the end system, and not the one left out
abbrev pub counts : Network → ℕ → Option ℕ → ℕ → Bool
counts net e but u = eqb (vl_at net u).system e && not (option_eq eqb (Some u) but)

-- ---- what each is made of: the one place that opens the definitions of links and jitters
module _ (net : Network) where
  pub send_most_is : (v : ℕ) → send_most net v ≡ largest_line (vl_at net v).lmax * (system_at net (vl_at net v).system).perbyte
  unfolding send_most
  send_most_is v = most_ticks_lem (system_link net (vl_at net v).system) (vl_at net v).lmax

  -- of a VL that was read, on the link of its end system
  pub sent_by : (v e : ℕ) (vl : Vl) (system : EndSystem) (r : ℕ) → vl ≡ vl_at net v → vl.system ≡ e → system ≡ system_at net e
      → r ≡ largest_line vl.lmax * system.perbyte → r ≡ send_most net v
  sent_by v e vl system r is on of given = given ∙ rw (of, ← on, is, send_most_is v)

  pub send_least_is : (v : ℕ) → send_line net v ≡ least_line * (system_at net (vl_at net v).system).perbyte
  unfolding send_line
  send_least_is v = rw least_line_is (least_ticks_lem (system_link net (vl_at net v).system))

  -- as it is computed, of a VL that was read
  pub least_sent_by : (v : ℕ) (vl : Vl) (system : EndSystem) → vl ≡ vl_at net v → system ≡ system_at net vl.system
      → 84 * system.perbyte ≡ send_line net v
  least_sent_by v vl system is on = rw (on, is, send_least_is v, least_line_is)

  -- the least and what is between it and the most
  pub send_parts : (v : ℕ) → least_line ≤ largest_line (vl_at net v).lmax → send_most net v ≡ send_line net v + send_spread net v
  unfolding send_most send_line send_spread
  send_parts v = most_is (system_link net (vl_at net v).system) (vl_at net v).lmax

  pub hop_most_is : (h : ℕ) → hop_most net h ≡ largest_line (vl_at net (hop_at net h).vl).lmax * (port_at net (hop_at net h).port).perbyte
  unfolding hop_most
  hop_most_is h = most_ticks_lem (port_link net (hop_at net h).port) (vl_at net (hop_at net h).vl).lmax

  pub hop_least_is : (h : ℕ) → hop_line net h ≡ least_line * (port_at net (hop_at net h).port).perbyte
  unfolding hop_line
  hop_least_is h = rw least_line_is (least_ticks_lem (port_link net (hop_at net h).port))

  pub hop_spread_is : (h : ℕ) → hop_spread net h ≡ (port_at net (hop_at net h).port).greatest - (port_at net (hop_at net h).port).least
  unfolding hop_spread
  hop_spread_is h = refl

  pub root_jitter_is : (h : ℕ) → root_jitter net h ≡ mux_wait net (hop_at net h).vl + send_spread net (hop_at net h).vl + hop_spread net h
  unfolding root_jitter
  root_jitter_is h = refl

  pub child_jitter_is : (h g j f : ℕ) → child_jitter net h g j f ≡ j + (f - hop_line net g) + hop_spread net h
  unfolding child_jitter
  child_jitter_is h g j f = refl

  -- ---- sums
  pub mux_wait_is : (v : ℕ) → mux_wait net v ≡ sum_without net (vl_at net v).system (Some v) (length net.vls)
  unfolding mux_wait sum_without
  mux_wait_is v = refl

  module _ (e : ℕ) (but : Option ℕ) where
    pub sum_without_none : sum_without net e but 0 ≡ 0
    unfolding sum_without passing total
    sum_without_none = refl

    -- another VL of the end system
    pub sum_without_more : (v : ℕ) → (vl_at net v).system ≡ e → option_eq eqb (Some v) but ≡ false → sum_without net e but (suc v) ≡ sum_without net e but v + send_most net v
    unfolding sum_without
    sum_without_more v here other =
        total_hit (send_most net) (counts net e but) v (rw (eq-eqb (vl_at net v).system e here, other))

    -- the VL that is left out, and a VL of another end system
    pub sum_without_itself : (v : ℕ) → option_eq eqb (Some v) but ≡ true → sum_without net e but (suc v) ≡ sum_without net e but v
    unfolding sum_without
    sum_without_itself v same =
        total_miss (send_most net) (counts net e but) v
        (rw same (and-false (eqb (vl_at net v).system e)))

    pub sum_without_stranger : (v : ℕ) → ((vl_at net v).system ≡ e → ⊥) → sum_without net e but (suc v) ≡ sum_without net e but v
    unfolding sum_without
    sum_without_stranger v elsewhere =
        total_miss (send_most net) (counts net e but) v (rw (ne_eqb (vl_at net v).system e elsewhere))

  -- where none is left out
  pub send_sum_is : (e : ℕ) → send_sum net e ≡ sum_without net e None (length net.vls)
  unfolding send_sum vls_of sum_without
  send_sum_is e =
      ap (λ (l : List ℕ). total (map (send_most net) l))
      (passing_same (λ u. eqb (vl_at net u).system e) (counts net e None) (length net.vls)
      (λ u l. sym (and-true (eqb (vl_at net u).system e))))

  -- equation 1, as it is tested
  pub late_is : net.tick ≡ in_force → (e sum : ℕ) (r : Bool) → sum ≡ sum_without net e None (length net.vls) → r ≡ sends_in_time sum
      → not r ≡ sends_late net e
  late_is rules e sum r is told =
      ap not (told ∙ ap sends_in_time (is ∙ sym (send_sum_is e))) ∙ sym (late_by_rules net rules e)

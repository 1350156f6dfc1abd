-- The facts of an accepted network, taken out of the ghost field that keeps them, where they stand as one that some proof has.
-- Each of them has at most one proof, or picks the least number that does. Assumes nothing.
use Prim.Native.Nat.{ℕ, ◌≤◌, ◌<◌}
use mathlib.Core.Bool.{Bool}
use mathlib.Core.Logic.{inl, inr, ⊎_elim, ∥∥₁_elim}
use mathlib.Core.Path.{◌≡◌, sym, ap, ◌∙◌}
use native.Mathlib.Decide.{ℕ_discrete}
use native.Mathlib.Omega.{arith}
use borrow.Author.Tests.{eq-eqb, eqb-true}
use lib.Dec.{eqb}
use lib.ListN.{length}
use Rattle.std.specs.Coded.{Coded-set, coded_ℕ, coded_option, le_prop}
use Rattle.std.specs.Prelude.{Option, None, Some}
use Rattle.base.specs.Least.{least_from}
use Rattle.base.specs.Tests.{number_or0}
use Rattle.base.proofs.LeastLaws.{least_exists, least_was}
use Rattle.base.proofs.TestLaws.{number_is}
use Rattle.frame.specs.Gap.{gap_of}
use Rattle.frame.proofs.GapLaws.{gap_given, gap_was}
use Rattle.network.specs.Network.{Network, vl_at, stream_at, port_at}
use Rattle.network.specs.Ranges.{SpeedRange, VlRange, StreamRange, PortRange}
use Rattle.network.proofs.ReferenceLaws.{references_exactly}
use Rattle.sheet.specs.declared.Sheet.{Sheet}
use Rattle.sheet.specs.Sheet.{network_on, Good}
use Rattle.sheet.proofs.SheetLaws.{rules_on}

-- the least code of a gap
has_gap : ℕ → ℕ → Bool
has_gap g code = eqb (number_or0 (gap_of code)) g

least_code : ℕ → ℕ
least_code g = number_or0 (least_from (has_gap g) 0 8)

least_code_lem : (code g : ℕ) → gap_of code ≡ Some g → gap_of (least_code g) ≡ Some g
unfolding has_gap least_code
least_code_lem code g e =
    let least = least_exists (has_gap g) 0 8 code (omega arith) (omega (arith, gap_was code g e)) (eq-eqb _ g (number_is _ g e)) in
    let found = least_was (has_gap g) 0 8 least.at least.is in
    let given = gap_given least.at (omega (arith, found.high)) in
    ap gap_of (number_is _ least.at least.is) ∙ given ∙ ap Some (sym (number_is _ _ given) ∙ eqb-true _ g found.passes)

module _ {sheet : Sheet} (held : ∥ Good sheet ∥₁) where
  abbrev net : Network
  net = network_on sheet

  least : (a b : ℕ) → (Good sheet → a ≤ b) → a ≤ b
  least a b f = ∥∥₁_elim held le_prop f

  speed : (n : ℕ) → (Good sheet → SpeedRange n) → SpeedRange n
  speed n f = elim (ℕ_discrete n 1) [
    | yes e ↦ inl e
    | no ne ↦ inr (∥∥₁_elim held (Coded-set coded_ℕ n 10) (λ g. ⊎_elim (λ e. absurd (ne e)) (λ e. e) (f g)))
  ]

  none : (o : Option ℕ) → (Good sheet → o ≡ None) → o ≡ None
  none o f = ∥∥₁_elim held (Coded-set (coded_option coded_ℕ) o None) f

  vl_is : (v : ℕ) → v < length net.vls → VlRange (vl_at net v)
  vl_is v h = record {
    code = least_code (vl_at net v).gap;
    gap = ∥∥₁_elim held (Coded-set (coded_option coded_ℕ) _ _) (λ g. let is = g.ranges.vl v h in least_code_lem is.code _ is.gap);
    gap_least = least _ _ (λ g. (g.ranges.vl v h).gap_least);
    gap_greatest = least _ _ (λ g. (g.ranges.vl v h).gap_greatest);
    sub_links_least = least _ _ (λ g. (g.ranges.vl v h).sub_links_least);
    sub_links_greatest = least _ _ (λ g. (g.ranges.vl v h).sub_links_greatest);
    lmax_least = least _ _ (λ g. (g.ranges.vl v h).lmax_least);
    lmax_greatest = least _ _ (λ g. (g.ranges.vl v h).lmax_greatest);
  }

  stream_is : (s : ℕ) → s < length net.streams → StreamRange (stream_at net s)
  stream_is s h = record {
    least_size_least = least _ _ (λ g. (g.ranges.stream s h).least_size_least);
    least_size_greatest = least _ _ (λ g. (g.ranges.stream s h).least_size_greatest);
    size_greatest = least _ _ (λ g. (g.ranges.stream s h).size_greatest);
    period_least = least _ _ (λ g. (g.ranges.stream s h).period_least);
    period_greatest = least _ _ (λ g. (g.ranges.stream s h).period_greatest);
    jitter_greatest = least _ _ (λ g. (g.ranges.stream s h).jitter_greatest);
  }

  port_is : (p : ℕ) → p < length net.ports → PortRange (port_at net p)
  port_is p h = record {
    per_byte_says = speed _ (λ g. (g.ranges.port p h).per_byte_says);
    delay_least = least _ _ (λ g. (g.ranges.port p h).delay_least);
    delay_greatest = least _ _ (λ g. (g.ranges.port p h).delay_greatest);
  }

  pub good_of : Good sheet
  good_of = record {
    ranges = record {
      in_force_says = rules_on sheet;
      few_systems = least _ _ (λ g. g.ranges.few_systems);
      few_vls = least _ _ (λ g. g.ranges.few_vls);
      few_streams = least _ _ (λ g. g.ranges.few_streams);
      few_ports = least _ _ (λ g. g.ranges.few_ports);
      few_hops = least _ _ (λ g. g.ranges.few_hops);
      send_least_lem = least _ _ (λ g. g.ranges.send_least_lem);
      send_greatest_lem = least _ _ (λ g. g.ranges.send_greatest_lem);
      receive_least_lem = least _ _ (λ g. g.ranges.receive_least_lem);
      receive_greatest_lem = least _ _ (λ g. g.ranges.receive_greatest_lem);
      system = λ i h. speed _ (λ g. g.ranges.system i h);
      vl = vl_is;
      stream = stream_is;
      port = port_is;
    };
    references =
        let tests = references_exactly net in
        tests.1
        (none _ (λ g. (tests.0 g.references).0), none _ (λ g. (tests.0 g.references).1), none _ (λ g. (tests.0 g.references).2));
  }

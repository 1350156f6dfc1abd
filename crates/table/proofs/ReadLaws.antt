-- What the reader's acceptance says of the network: every number is in 01's ranges, and every reference is good.
-- Assumes nothing.
use Prim.Native.Nat.{ℕ, suc, ◌*◌, ◌≤◌, ◌<◌}
use mathlib.Core.List.{List}
use mathlib.Core.Logic.{◌⊎◌, inl, inr, ⊎_elim}
use Rattle.std.specs.Prelude.{Option, None, Some}
use Rattle.std.proofs.lemmas.Option.{none-some}
use mathlib.Core.Path.{◌≡◌, refl, ap, ◌∙◌, sym}
use native.Mathlib.Omega.{arith}
use borrow.Author.Tests.{eq-eqb, ne_eqb}
use lib.ListN.{get_or, take, drop}
use lib.Seq.{get_or-take}
use Rattle.base.specs.Tests.{number_or0}
use Rattle.base.proofs.TestLaws.{no_row_was}
use Rattle.frame.specs.Tick.{per_ms, in_force}
use Rattle.frame.proofs.TickLaws.{per_unit_is, per_byte_at_100, per_byte_at_10}
use Rattle.frame.proofs.GapLaws.{ms_back, gap_in_ms, gap_bounds}
use Rattle.layout.specs.declared.Way.TheVariants.{Reading}
use Rattle.layout.specs.declared.Name.{Name}
use Rattle.layout.specs.declared.Name.TheVariants as name
use Rattle.layout.specs.Names.{number_of, index_in}
use Rattle.layout.specs.Layout.{layout, place_of}
use Rattle.layout.specs.Rows.{named, converted, listed}
use Rattle.layout.proofs.SizeLaws.{most_are, field_places}
use Rattle.layout.proofs.LayoutLaws.{listed_is}
use Rattle.layout.proofs.PlainLaws.{header_plain}
use Rattle.network.specs.Network.{Network, system_at, vl_at, stream_at, port_at}
use Rattle.network.specs.References.{bad_reference}
use Rattle.network.specs.ReferenceFacts.{References}
use Rattle.network.specs.Ranges.{SpeedRange, VlRange, StreamRange, PortRange, Ranges}
use Rattle.network.proofs.ReferenceLaws.{references_hold}
use Rattle.table.specs.declared.Answer.{Answer}
use Rattle.table.specs.Answers.{accepted}
use Rattle.table.specs.Sections.{header_row, kind_in, rows, row, record_of}
use Rattle.table.specs.Lists.{records_in, record_at, header_of, unpacked}
use Rattle.table.specs.Decoded.{ticks_at, system_in, vl_in, stream_in, port_in}
use Rattle.table.specs.Write.{count}
use Rattle.table.specs.Read.{network_in, bad_ref_section, answer_at_reference, answer5, read_answer}
use Rattle.table.proofs.AnswerLaws.{Sound}
use Rattle.table.proofs.SectionLaws.{record_at_lem}
use Rattle.table.proofs.UnpackLaws.{list_is, count_is}
use Rattle.table.proofs.DecodedLaws.{rules_are, send_least_lem, send_greatest_lem, receive_least_lem, receive_greatest_lem, systems_are, vls_are, streams_are, ports_are, hops_are, system_there, vl_there, stream_there, port_there}
use Rattle.table.proofs.ReadingLaws.{few, read_accepts}
use Rattle.table.proofs.HeldLaws.{system_row, vl_row, stream_row_lem, port_row}

-- ---- 5 is not given
no_bad_section : (net : Network) → answer5 net ≡ None → (s : ℕ) → 2 ≤ s → s < 6 → bad_reference net s ≡ None
unfolding answer5 bad_ref_section
no_bad_section net e s a b = no_row_was (bad_reference net) 2 4 (go (bad_ref_section net) e) s a (omega arith)
  where
    go : (o : Option ℕ) → ◌≡◌ {A = Option Answer} (elim o [ None ↦ None | Some t ↦ Some (answer_at_reference net t (number_or0 (bad_reference net t))) ]) None → o ≡ None
    go None h = refl
    go (Some t) h = absurd (none-some _ (sym h))

pub read_references : (bytes : List ℕ) → read_answer bytes ≡ accepted → References (network_in bytes)
read_references bytes e =
    let net = network_in bytes in
    let good = no_bad_section net (read_accepts bytes e).1 in
    references_hold net (good 2 (omega arith) (omega arith)) (good 3 (omega arith) (omega arith)) (good 5 (omega arith) (omega arith))

pub read_sound : (bytes : List ℕ) → read_answer bytes ≡ accepted → Sound bytes
read_sound bytes e = (read_accepts bytes e).0

-- ---- the numbers of the lists are what the rows mean
module _ (bytes : List ℕ) where
  pub count_read : (s : ℕ) → suc s < 6 → records_in (unpacked bytes) (suc s) ≡ rows bytes (suc s)
  unfolding count
  count_read s h = count_is bytes (suc s) h

  pub record_read : (s i k : ℕ) → suc s < 6 → i < rows bytes (suc s) → k < listed (suc s)
      → get_or (record_at (unpacked bytes) (suc s) i) k 0 ≡ get_or (converted Reading (layout (kind_in bytes (suc s))) (row bytes (suc s) i)) k 0
  unfolding record_of
  record_read s i k h l m =
      ap (λ (ns : List ℕ). get_or (take (listed (suc s)) (drop (i * listed (suc s)) ns)) k 0) (list_is bytes (suc s) h)
      ∙ ap (λ (r : List ℕ). get_or r k 0) (record_at_lem bytes (suc s) (rows bytes (suc s)) i l)
      ∙ get_or-take (listed (suc s)) (converted Reading (layout (kind_in bytes (suc s))) (row bytes (suc s) i)) k 0 m

  pub number_read : (s i : ℕ) (n : Name) → suc s < 6 → i < rows bytes (suc s) → place_of (suc s) n < listed (suc s)
      → named (suc s) (record_at (unpacked bytes) (suc s) i) n ≡ named (suc s) (converted Reading (layout (kind_in bytes (suc s))) (row bytes (suc s) i)) n
  unfolding named
  number_read s i n = record_read s i (place_of (suc s) n)

-- ---- the ranges
speed : (mbit : ℕ) → (mbit ≡ 100) ⊎ (mbit ≡ 10) → SpeedRange (ticks_at in_force mbit)
unfolding ticks_at
speed mbit = ⊎_elim
    (λ (e : mbit ≡ 100). inl (rw (eq-eqb mbit 100 e) per_byte_at_100))
    (λ (e : mbit ≡ 10). inr (rw (ne_eqb mbit 100 (λ f. omega arith)) per_byte_at_10))

module _ (bytes : List ℕ) (sound : Sound bytes) (i : ℕ) where
  system_range : i < rows bytes 1 → SpeedRange (system_at (network_in bytes) i).perbyte
  unfolding network_in system_in
  system_range h =
      rw (system_there (unpacked bytes) i (omega (arith, count_read bytes 0 (omega arith))), number_read bytes 0 i name.Speed (omega arith) h (omega (arith, listed_is 1, field_places.system_speed)))
      (speed _ (system_row bytes sound i h).speed)

  vl_range : i < rows bytes 2 → VlRange (vl_at (network_in bytes) i)
  unfolding network_in vl_in
  vl_range h =
      let p = vl_row bytes sound i h in
      let gap = ap (λ (ms : ℕ). per_ms * ms) (number_read bytes 1 i name.Gap (omega arith) h (omega (arith, listed_is 2, field_places.vl_gap))) in
      let stored = gap_in_ms p.code _ (ms_back _ p.code p.gap) in
      let bounds = gap_bounds p.code _ stored in
      let links = number_read bytes 1 i name.SubLinks (omega arith) h (omega (arith, listed_is 2, field_places.vl_sub_links)) in
      let lmax = number_read bytes 1 i name.Lmax (omega arith) h (omega (arith, listed_is 2, field_places.vl_lmax)) in
      rw (vl_there (unpacked bytes) i (omega (arith, count_read bytes 1 (omega arith)))) record {
        code = p.code;
        gap = rw gap stored;
        gap_least = rw gap bounds.0;
        gap_greatest = rw gap bounds.1;
        sub_links_least = rw links p.sub_links_least;
        sub_links_greatest = rw links p.sub_links_greatest;
        lmax_least = rw lmax p.lmax_least;
        lmax_greatest = rw lmax p.lmax_greatest;
      }

  stream_range : i < rows bytes 3 → StreamRange (stream_at (network_in bytes) i)
  unfolding network_in stream_in
  stream_range h =
      let p = stream_row_lem bytes sound i h in
      let size = number_read bytes 2 i name.Size (omega arith) h (omega (arith, listed_is 3, field_places.stream_size)) in
      let least = number_read bytes 2 i name.LeastSize (omega arith) h (omega (arith, listed_is 3, field_places.stream_least_size)) in
      let period = per_unit_is _ ∙ number_read bytes 2 i name.Period (omega arith) h (omega (arith, listed_is 3, field_places.stream_period)) in
      let jitter = per_unit_is _ ∙ number_read bytes 2 i name.Jitter (omega arith) h (omega (arith, listed_is 3, field_places.stream_jitter)) in
      rw (stream_there (unpacked bytes) i (omega (arith, count_read bytes 2 (omega arith)))) record {
        least_size_least = rw least p.least_m_least;
        least_size_greatest = rw (least, size) p.least_m_greatest;
        size_greatest = rw size p.m_greatest;
        period_least = rw period p.period_least;
        period_greatest = rw period p.period_greatest;
        jitter_greatest = rw jitter p.jitter_greatest;
      }

  port_range : i < rows bytes 4 → PortRange (port_at (network_in bytes) i)
  unfolding network_in port_in
  port_range h =
      let p = port_row bytes sound i h in
      let least = per_unit_is _ ∙ number_read bytes 3 i name.SwitchLeast (omega arith) h (omega (arith, listed_is 4, field_places.port_least)) in
      let greatest = per_unit_is _ ∙ number_read bytes 3 i name.SwitchGreatest (omega arith) h (omega (arith, listed_is 4, field_places.port_greatest)) in
      rw (port_there (unpacked bytes) i (omega (arith, count_read bytes 3 (omega arith)))) record {
        per_byte_says = rw (number_read bytes 3 i name.Speed (omega arith) h (omega (arith, listed_is 4, field_places.port_speed))) (speed _ p.speed);
        delay_least = rw (least, greatest) p.delay_least;
        delay_greatest = rw greatest p.delay_greatest;
      }

pub sound_ranges : (bytes : List ℕ) → Sound bytes → Ranges (network_in bytes)
unfolding network_in unpacked header_of index_in number_of
sound_ranges bytes sound =
    let ls = unpacked bytes in
    let limit = few bytes sound.header in
    let m = most_are in
    let header = header_plain (header_row bytes) sound.header in
    let systems = systems_are ls ∙ count_read bytes 0 (omega arith) in
    let vls = vls_are ls ∙ count_read bytes 1 (omega arith) in
    let streams = streams_are ls ∙ count_read bytes 2 (omega arith) in
    let ports = ports_are ls ∙ count_read bytes 3 (omega arith) in
    let hops = hops_are ls ∙ count_read bytes 4 (omega arith) in
    let s0 = send_least_lem ls in
    let s1 = send_greatest_lem ls in
    let r0 = receive_least_lem ls in
    let r1 = receive_greatest_lem ls in
    record {
      in_force_says = rules_are ls;
      few_systems = rw systems (omega (arith, limit 0 (omega arith), m.systems));
      few_vls = rw vls (omega (arith, limit 1 (omega arith), m.vls));
      few_streams = rw streams (omega (arith, limit 2 (omega arith), m.streams));
      few_ports = rw ports (omega (arith, limit 3 (omega arith), m.ports));
      few_hops = rw hops (omega (arith, limit 4 (omega arith), m.hops));
      send_least_lem = rw (s0, s1) header.send_least_lem;
      send_greatest_lem = rw s1 header.send_greatest_lem;
      receive_least_lem = rw (r0, r1) header.receive_least_lem;
      receive_greatest_lem = rw r1 header.receive_greatest_lem;
      system = λ i h. system_range bytes sound i (rw systems at h);
      vl = λ v h. vl_range bytes sound v (rw vls at h);
      stream = λ s h. stream_range bytes sound s (rw streams at h);
      port = λ p h. port_range bytes sound p (rw ports at h);
    }

pub read_ranges : (bytes : List ℕ) → read_answer bytes ≡ accepted → Ranges (network_in bytes)
read_ranges bytes e = sound_ranges bytes (read_sound bytes e)

-- 01's whole case, proved: the statement is in specs/Whole.antt. Its 59 bytes read to the machine's network `whole` by computation, of which 1 to 10 find nothing; so the demands hold of it, with 01's numbers.
-- Assumes nothing.
use Prim.Native.Nat.{ℕ, zero, suc, ◌≤◌, ◌<◌}
use mathlib.Core.Bool.{Bool, false, not}
use mathlib.Core.List.{List, [], ◌∷◌}
use Rattle.std.specs.Prelude.{Option, None}
use mathlib.Core.Path.{◌≡◌, refl, sym, ap, ◌∙◌}
use native.Mathlib.Omega.{arith}
use borrow.Author.Tests.{le-ltb}
use lib.ListN.{length}
use Rattle.base.specs.Least.{least_from}
use Rattle.base.specs.Tabulate.{tabulate, passing, total}
use Rattle.base.specs.Tests.{is_some, number_or0, first_failing}
use Rattle.base.proofs.LeastLaws.{least_none}
use Rattle.base.proofs.TestLaws.{no_row, some_is}
use Rattle.frame.specs.Frame.{line_overhead, largest_line}
use Rattle.frame.specs.Gap.{ms_of}
use Rattle.frame.specs.Packets.{udp_header, most_fragment, full_fragment, carried, packets}
use Rattle.frame.specs.Tick.{per_ms, per_byte, per_unit, send_base, send_limit, in_time}
use Rattle.bits.specs.Bits.{digit, bit_at, field_at}
use Rattle.bits.specs.Rows.{read_all}
use Rattle.layout.specs.Layout.{layout_in, kinds_of, kind_of, orders, widths, size}
use Rattle.layout.specs.Fields.{is_padding, meaning, convert}
use Rattle.layout.specs.Names.{number_of, index_in}
use Rattle.layout.specs.Rows.{row_room, row_at, named, converted, listed_in, listed, field_tests, order_tests, row_fault_in}
use Rattle.network.specs.Network.{Network, vl_at, stream_at}
use Rattle.network.specs.Link.{on_line, line_ticks, most_ticks}
use Rattle.network.specs.References.{names_system, has_hop, stream_names_vl, names_sub_link, hop_names_vl, names_port, of_parent, parent_earlier, parent_same_vl, parent_lower_port, twin_of, no_earlier_twin, route_longer, not_too_deep, vl_tests, stream_tests, hop_tests, ref_fault, bad_reference, one_sample, bad_sample}
use Rattle.network.specs.References as References
use Rattle.table.specs.Answers.{accepted, first_given}
use Rattle.table.specs.Sections.{header_row, version, rows, start, row, record_of, records, lent}
use Rattle.table.specs.Unpack.{answer1, answer2, answer3, bad_row, bad_section, answer4}
use Rattle.table.specs.Lists.{list_for, records_in, header_of, unpacked}
use Rattle.table.specs.Decoded.{ticks_at, parent_of, system_in, vl_in, stream_in, port_in, hop_in, network_at}
use Rattle.table.specs.Read.{network_in, bad_ref_section, answer5, answer6}
use Rattle.rows.specs.Links.{send_most, send_sum}
use Rattle.network.specs.Views.{vls_of}
use Rattle.rows.specs.Queues.{queue_length}
use Rattle.rows.specs.Ports.{port_length, jitter_of}
use Rattle.rows.specs.Rows.{rows_of}
use Rattle.rows.specs.Refusals.{sends_late, late_system, too_many_rows, too_short, endless_sub_link, endless_vl, endless, endless_port}
use Rattle.answers.specs.Analysis.{refused_at, answer7, answer8, answer9, answer10, refusals, analysis_answer, joined, rows_left, rows_given}
use Rattle.analysis.specs.Analysis.{Analysed, Analyses}
use Rattle.machine.specs.Sound.{Has}
use Rattle.machine.proofs.Whole.{whole, busy}
use Rattle.machine.proofs.Whole as Machine
use Rattle.order.specs.Demand3.{stream_in as rowStream, hop_in as rowHop, queue_in as rowQueue, worst_in as rowWorst, best_in as rowBest, Holds}
use Rattle.order.specs.Whole.{table, numbers, TwoRows, WholeCase}
use Rattle.order.proofs.Demand2.{demand_2}
use Rattle.order.proofs.Demand3.{demand_3}

-- ---- the bytes: they read to 01's network
pub network_is : network_in table ≡ whole
unfolding network_in network_at system_in vl_in stream_in port_in hop_in ticks_at parent_of records_in list_for tabulate per_ms per_byte per_unit unpacked header_of records record_of row start rows header_row row_at row_room read_all field_at bit_at digit widths layout_in size total converted convert meaning listed listed_in is_padding number_or0 ms_of index_in number_of version kind_of kinds_of named
network_is = refl

none_1 : answer1 table ≡ None
unfolding answer1
none_1 = refl

none_2 : answer2 table ≡ None
unfolding answer2 row_fault_in field_tests order_tests orders first_failing least_from is_some convert meaning header_row row_at row_room read_all field_at bit_at digit widths layout_in size total index_in number_of version kind_of kinds_of named
none_2 = refl

none_3 : answer3 table ≡ None
unfolding answer3 start rows header_row row_at row_room read_all field_at bit_at digit widths layout_in size total version kind_of kinds_of named index_in number_of
none_3 = refl

none_4 : answer4 table ≡ None
unfolding answer4 bad_section bad_row row_fault_in field_tests order_tests orders first_failing least_from is_some convert meaning ms_of row start rows header_row row_at row_room read_all field_at bit_at digit widths layout_in size total index_in number_of version kind_of kinds_of named
none_4 = refl

-- ---- the network
references_good : bad_ref_section whole ≡ None
unfolding bad_ref_section bad_reference References.naming_rows ref_fault vl_tests stream_tests hop_tests names_system has_hop stream_names_vl names_sub_link hop_names_vl names_port parent_earlier parent_same_vl parent_lower_port of_parent no_earlier_twin twin_of not_too_deep route_longer least_from is_some first_failing
references_good = refl

none_5 : answer5 (network_in table) ≡ None
unfolding answer5
none_5 = rw (network_is, references_good, answer5)

samples_good : bad_sample whole ≡ None
unfolding bad_sample one_sample least_from packets number_or0 carried most_fragment full_fragment udp_header
samples_good = refl

none_6 : answer6 (network_in table) ≡ None
unfolding answer6
none_6 = rw (network_is, samples_good, answer6)

in_time_lem : late_system whole ≡ None
unfolding late_system sends_late in_time send_base send_limit send_sum vls_of send_most most_ticks line_ticks on_line largest_line line_overhead total passing least_from
in_time_lem = refl

none_7 : answer7 (network_in table) ≡ None
unfolding answer7 refused_at
none_7 = rw (network_is, in_time_lem)

rows_are : rows_of (network_in table) ≡ (0 ∷ 0 ∷ 12500 ∷ 19398 ∷ 2043 ∷ 17355 ∷ []) ∷ (1 ∷ 1 ∷ 0 ∷ 6898 ∷ 2043 ∷ 5855 ∷ []) ∷ []
rows_are = ap rows_of network_is ∙ Machine.rows

none_8 : (room : ℕ) → 12 ≤ room → answer8 (network_in table) room ≡ None
unfolding answer8 too_many_rows too_short
none_8 room h = rw (rows_are, le-ltb room 12 h)

-- a busy length stands in the way of 9 and 10
not_endless : (o : Option ℕ) → Has o → not (is_some o) ≡ false
not_endless o has = ap not (some_is o has.length has.is)

-- where there is but one row
none_of_one : (p : ℕ → Bool) → p 0 ≡ false → least_from p 0 1 ≡ None
none_of_one p e = least_none p 0 1 (λ i low high. let first : i ≡ 0 = omega arith in ap p first ∙ e)

no_endless_queue : endless_vl whole ≡ None
unfolding endless_vl endless_sub_link
no_endless_queue = no_row (endless_sub_link whole) 0 2 by_vl
  where
    by_vl : (v : ℕ) → 0 ≤ v → v < 2 → endless_sub_link whole v ≡ None
    by_vl zero low high = none_of_one (λ k. not (is_some (queue_length whole 0 k))) (not_endless (queue_length whole 0 0) (busy.queue 0 (omega arith)))
    by_vl (suc zero) low high = none_of_one (λ k. not (is_some (queue_length whole 1 k))) (not_endless (queue_length whole 1 0) (busy.queue 1 (omega arith)))
    by_vl (suc (suc v)) low high = absurd (omega arith)

none_9 : answer9 (network_in table) ≡ None
unfolding answer9 refused_at
none_9 = rw (network_is, no_endless_queue)

no_endless_port : endless_port whole ≡ None
unfolding endless_port endless
no_endless_port = none_of_one (endless whole) (not_endless (port_length whole (jitter_of whole) 0) (busy.port 0 (omega arith)))

none_10 : answer10 (network_in table) ≡ None
unfolding answer10 refused_at
none_10 = rw (network_is, no_endless_port)

accepted_with : (room : ℕ) → 12 ≤ room → analysis_answer table room ≡ accepted
unfolding analysis_answer refusals first_given
accepted_with room h = rw (none_1, none_2, none_3, none_4, none_5, none_6, none_7, none_8 room h, none_9, none_10)

-- ---- its rows
two_rows : (room : ℕ) → 12 ≤ room → (r : Analysed) (result : List ℕ) → Analyses table room r result → TwoRows room r result
unfolding joined
two_rows room h r result a =
    let yes = a.answer_is ∙ accepted_with room h in
    let left = demand_2.figures table room r result a yes in
    record { answer = yes; count = left.count ∙ ap length rows_are; rows = left.rows ∙ ap (λ (l : List (List ℕ)). lent room (joined l)) rows_are }

-- ---- demand 3 of them, with a lent result of just two rows
holds : Holds (network_in table) 2 numbers
unfolding lent
holds =
    let r : Analysed = record { answer = analysis_answer table 12; rows = rows_given table 12 } in
    let left = rows_left table 12 in
    let a : Analyses table 12 r left = record { answer_is = refl; count_is = refl; rows_are = refl } in
    let two = two_rows 12 (omega arith) r left a in
    rw (two.count, two.rows) at (demand_3 table 12 r left a two.answer)

pub whole_case : WholeCase
unfolding rowStream rowHop rowQueue rowWorst rowBest
whole_case = record {
  size = refl;
  accepts = accepted_with;
  rows = two_rows;
  stream_0 = record {
    by_worst = λ run n per t m l there e. holds.no_later run n per t m l there 0 (omega arith) (sym e);
    not_before_best = λ run n per t m l there e. holds.no_earlier run n per t m l there 0 (omega arith) (sym e);
  };
  stream_1 = record {
    by_worst = λ run n per t m l there e. holds.no_later run n per t m l there 1 (omega arith) (sym e);
    not_before_best = λ run n per t m l there e. holds.no_earlier run n per t m l there 1 (omega arith) (sym e);
  };
  waits = holds.reached 0 (omega arith) (ap (λ (net : Network). (vl_at net (stream_at net 0).vl).sublinks) network_is);
  waits_1 = holds.reached 1 (omega arith) (ap (λ (net : Network). (vl_at net (stream_at net 1).vl).sublinks) network_is);
}

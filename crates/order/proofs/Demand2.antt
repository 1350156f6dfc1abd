-- Demand 2, proved: the statement is in specs/Demand2.antt. What is left on acceptance is what the promise says; an accepted table's network is sound, so nothing is cut off; exactness, the one solution and the round trips are those of the analysis, of the rows and of the table.
-- Assumes nothing.
use mathlib.Core.Path.{sym, ◌∙◌}
use Rattle.frame.proofs.PacketLaws.{as_ip_cuts}
use Rattle.table.proofs.RoundTrip.{unpack_after_write, write_after_unpack, determined}
use Rattle.table.specs.Read.{network_in}
use Rattle.table.specs.Unpack.{left}
use Rattle.rows.proofs.PortLaws.{figures_of, figure_unique, jitter_unique}
use Rattle.answers.specs.Analysis.{rows_left, rows_given}
use Rattle.order.specs.Demand2.{Demand2}
use Rattle.answers.proofs.AcceptedLaws.{accepted_was, accepts_so}
use Rattle.order.proofs.SoundLaws.{accepted_references, accepted_sound, accepted_busy}
use Rattle.order.proofs.Exact.{exact_9, exact_10, exact_accepted, exact_three, jitters_exist, one_list_of_flows}
use Rattle.order.proofs.CutOffLaws.{nothing_cut_off}
use Rattle.order.proofs.GapLaws.{gap_table}
use Rattle.order.proofs.AgainLaws.{unpacked_is, written_then_unpacked, unpacked_then_written}

pub demand_2 : Demand2
unfolding rows_left rows_given left
demand_2 = record {
  figures = λ bytes room r result a e.
      let yes = accepts_so bytes room (sym a.answer_is ∙ e) in
      record { count = a.count_is ∙ rw yes; rows = a.rows_are ∙ rw yes };
  one_solution = λ bytes room e.
      let net = network_in bytes in
      let refs = accepted_references bytes room (accepted_was bytes room e) in
      record { kept = figures_of net refs; only_figure = figure_unique net refs; only_jitter = jitter_unique net refs };
  nothing_cut_off = λ bytes room e.
      let was = accepted_was bytes room e in
      nothing_cut_off (network_in bytes) (accepted_sound bytes room was) (accepted_busy bytes room was);
  gap_table = gap_table;
  as_ip_cuts = as_ip_cuts;
  load_refusal_9 = exact_9;
  load_refusal_10 = exact_10;
  no_load_refusal = exact_accepted;
  nothing_else = exact_three;
  jitters_exist = jitters_exist;
  one_list_of_flows = one_list_of_flows;
  unpack_after_write = unpack_after_write;
  written_then_unpacked = written_then_unpacked;
  write_after_unpack = write_after_unpack;
  unpacked_is = unpacked_is;
  unpacked_then_written = unpacked_then_written;
  determined = determined;
}

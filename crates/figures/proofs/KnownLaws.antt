-- What the figures of an accepted table are, place by place; and what a caller of the routine knows on acceptance: the sheet is good, its network is the table's, and its figures stand in the lists.
-- Assumes nothing.
use Prim.Native.Nat.{ℕ, ◌+◌, ◌*◌, ◌≤◌, ◌<◌}
use mathlib.Core.List.{List}
use mathlib.Core.Path.{◌≡◌, sym, ap, ◌∙◌}
use native.Mathlib.Omega.{arith}
use borrow.Author.Tests.{eq-eqb}
use lib.ListN.{length, get_or}
use Rattle.layout.specs.Limits.{limits}
use Rattle.layout.proofs.SizeLaws.{most_are}
use Rattle.network.specs.Network.{Network, vl_at}
use Rattle.network.specs.Ranges.{Ranges}
use Rattle.table.specs.declared.Answer.{Answer}
use Rattle.table.specs.Unpack.{left}
use Rattle.table.specs.Read.{network_in}
use Rattle.sheet.specs.declared.Sheet.{Sheet}
use Rattle.sheet.specs.Sheet.{network_on, Good}
use Rattle.reader.specs.Reading.{read_sheet}
use Rattle.reader.proofs.FillLaws.{good_sheet}
use Rattle.rows.specs.Queues.{queue_figure}
use Rattle.rows.specs.Ports.{figure_of}
use Rattle.rows.specs.Rows.{rows_of}
use Rattle.answers.specs.Analysis.{analysis_answer, accepts}
use Rattle.answers.proofs.AcceptedLaws.{number_accepts, accepted_was}
use Rattle.figures.specs.declared.found.Figures.{Figures}
use Rattle.figures.specs.Figures.{queue_at, queues_of, hop_figures, Figured}
use Rattle.figures.specs.Judging.{Computed}
use Rattle.figures.proofs.FillLaws.{noted_at}
use Rattle.figures.proofs.QueueLaws.{queue_at_lem}

module _ (net : Network) (found : Figures) (all : Computed net found) where
  pub queue_there : Ranges net → (v k : ℕ) → v < length net.vls → k < (vl_at net v).sublinks → get_or found.queues (v * 4 + k) 0 ≡ queue_figure net v k
  unfolding queues_of
  queue_there ranges v k l h =
      let four : k < 4 = omega (arith, (ranges.vl v l).sub_links_greatest) in
      ap (λ (qs : List ℕ). get_or qs (v * 4 + k) 0) all.queues_are
      ∙ noted_at (queue_at net) (limits.vls * 4) (length net.vls * 4) (v * 4 + k) (omega arith)
      ∙ queue_at_lem net v k four h

  pub figure_at_lem : (h : ℕ) → h < length net.hops → get_or found.hops h 0 ≡ figure_of net h
  unfolding hop_figures
  figure_at_lem h l = ap (λ (fs : List ℕ). get_or fs h 0) all.hops_are ∙ noted_at (figure_of net) limits.hops (length net.hops) h l

-- ---- on acceptance
pub record Known (bytes : List ℕ) (room : ℕ) (sheet : Sheet) (found : Figures) : Type 0 where
  pub same : network_on sheet ≡ network_in bytes
  pub good : Good sheet
  pub computed : Computed (network_on sheet) found
  pub rows_fit : 6 * length (rows_of (network_on sheet)) ≤ room

pub figured_known : (bytes : List ℕ) (room : ℕ) (r : Answer) (sheet : Sheet) (found : Figures) → Figured bytes room r sheet found → r.number ≡ 0
    → Known bytes room sheet found
unfolding accepts left read_sheet
figured_known bytes room r sheet found f z =
    let number = ap (λ (x : Answer). x.number) (sym f.answer_is) ∙ z in
    let yes = eq-eqb (analysis_answer bytes room).number 0 number in
    let was = accepted_was bytes room (number_accepts bytes room number) in
    let read = ap (λ (x : Answer). x.number) was.reads in
    let sheet-is : sheet ≡ read_sheet bytes = rw yes at f.sheet_is ∙ rw (eq-eqb _ 0 read) in
    let is = good_sheet bytes sheet was.reads sheet-is in
    record {
      same = is.0;
      good = is.1;
      computed = rw is.0 record {
        waits_are = rw (yes, most_are.vls) at f.waits_are;
        queues_are = rw (yes, most_are.vls) at f.queues_are;
        hops_are = rw (yes, most_are.hops) at f.hops_are;
      };
      rows_fit = rw is.0 was.rows_fit;
    }

-- `unpacker::unpack` meets its contract: a refusal leaves zeros; on acceptance each list has room for its section, and holds it.
-- Assumes nothing.
use mathlib.Core.Path.{◌≡◌}
use native.Mathlib.Omega.{arith}
use Rattle.base.specs.Tabulate.{tabulate}
use Rattle.table.specs.Answers.{accepted}
use Rattle.table.specs.Lent.{lists_before}
use Rattle.table.specs.Lists.{list_for}
use Rattle.table.specs.Refusals.{said}
use Rattle.table.specs.Unpack.{unpacked_by, counted, left}
use Rattle.unpacker.specs.Unpacking.{judged_answer}
use Rattle.unpacker.proofs.RoomLaws.{room, refusal_unpacks, counts_unpack, header_fits, header_left, section_left}
use Rattle.unpacker.proofs.unpack.Goals as goal

pub returns-in-Err : goal.returns-in-Err
unfolding said list_for left
returns-in-Err c =
    refusal_unpacks c.args.table.now (lists_before c.args.lists) _ _ (rw c.of-read.ensures at c.in-Err.ensures)
    (λ i. record {
      header = c.clear.ensures i;
      systems = c.clear-in-Err.ensures i;
      vls = c.clear-in-Err-2.ensures i;
      streams = c.clear-in-Err-3.ensures i;
      ports = c.clear-in-Err-4.ensures i;
      hops = c.clear-in-Err-5.ensures i;
    })

pub fill_list-requires : goal.fill_list-requires
unfolding said
fill_list-requires c = header_fits c.args.table.now (lists_before c.args.lists) (rw c.of-read.ensures at c.in_default.ensures)

pub returns : goal.returns
unfolding said list_for unpacked_by counted tabulate
returns c =
    let bytes = c.args.table.now in
    let before = lists_before c.args.lists in
    let e : accepted ≡ judged_answer bytes (room bytes before) = rw c.of-read.ensures at c.in_default.ensures in
    counts_unpack bytes before _ _ e
    (simp (c.counts.ensures, c.of-read.ensures))
    (λ i. record {
      header = header_left bytes before e _ _ c.of-read.ensures c.fill_list.ensures i;
      systems = section_left bytes before e 0 _ _ (omega arith) c.of-read.ensures c.fill_section.ensures i;
      vls = section_left bytes before e 1 _ _ (omega arith) c.of-read.ensures c.fill_section-2.ensures i;
      streams = section_left bytes before e 2 _ _ (omega arith) c.of-read.ensures c.fill_section-3.ensures i;
      ports = section_left bytes before e 3 _ _ (omega arith) c.of-read.ensures c.fill_section-4.ensures i;
      hops = section_left bytes before e 4 _ _ (omega arith) c.of-read.ensures c.fill_section-5.ensures i;
    })

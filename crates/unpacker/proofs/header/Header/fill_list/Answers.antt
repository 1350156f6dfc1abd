use mathlib.Core.Path.{◌≡◌, ap, ◌∙◌}
use lib.ListN.{length}
use native.Mathlib.Omega.{arith}
use Rattle.table.proofs.UnpackLaws.{length_header}
use Rattle.unpacker.proofs.ListLaws.{cleared_length, no_numbers, number_more}
use Rattle.unpacker.proofs.header.Header.fill_list.Goals as goal

pub loop-k-init : goal.loop-k-init
loop-k-init c = no_numbers _ _ _ c.clear.ensures (cleared_length _ _ c.clear.ensures)

pub loop-k-preserved : goal.loop-k-preserved
loop-k-preserved c =
    let five : length c.list-list.result ≡ 5 = ap length c.list-list.ensures ∙ length_header c.args.self.now.table.now in
    number_more _ c.loop-k.k c.list-list.result c.loop-k.out c.loop-k.invariant (omega arith)
    (omega (arith, c.requires, cleared_length _ _ c.clear.ensures))

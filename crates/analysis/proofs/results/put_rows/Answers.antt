use native.Mathlib.Omega.{arith}
use lib.ListN.{length}
use Rattle.sheet.specs.Sheet.{network_on}
use Rattle.analysis.proofs.JoinLaws.{put_no_rows, put_all_rows}
use Rattle.analysis.proofs.results.put_rows.Goals as goal

pub loop-s-init : goal.loop-s-init
loop-s-init c = put_no_rows (network_on c.args.net.sheet.now) c.args.res.now c.requires.room.zero_before

pub returns-clause-count : goal.returns-clause-count
returns-clause-count c =
    let l = c.loop-s in
    (put_all_rows (network_on c.args.net.sheet.now) l.s l.at (length c.args.res.now) l.res (omega arith) l.invariant).0

pub returns-clause-rows : goal.returns-clause-rows
returns-clause-rows c =
    let l = c.loop-s in
    (put_all_rows (network_on c.args.net.sheet.now) l.s l.at (length c.args.res.now) l.res (omega arith) l.invariant).1

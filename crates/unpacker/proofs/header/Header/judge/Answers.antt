-- `unpacker::header::Header::judge` meets its contract: answer 11 where no other is given.
-- Assumes nothing.
use mathlib.Core.Path.{◌∙◌}
use Rattle.table.specs.Refusals.{said}
use Rattle.unpacker.proofs.RoomLaws.{judged_bad, judged_good}
use Rattle.unpacker.proofs.header.Header.judge.Goals as goal

pub returns-in-Err : goal.returns-in-Err
unfolding said
returns-in-Err c =
    judged_bad c.args.self.now.table.now c.args.room.now _ c.in-Err.ensures

pub returns : goal.returns
unfolding said
returns c = c.test_room.ensures ∙ judged_good c.args.self.now.table.now c.args.room.now c.in_default.ensures

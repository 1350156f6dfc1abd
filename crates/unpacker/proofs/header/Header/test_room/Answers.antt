use native.Mathlib.Omega.{arith}
use Rattle.table.specs.Refusals.{answer_of, said}
use Rattle.unpacker.proofs.RoomLaws.{room_more, room_short, room_long}
use Rattle.unpacker.proofs.header.Header.test_room.Goals as goal

pub returns-then-room-s : goal.returns-then-room-s
unfolding said answer_of
returns-then-room-s c =
    room_short c.args.self.now.table.now c.args.room.now c.loop-s.s _ (omega arith) c.loop-s.invariant c.numbers.ensures (omega arith)

pub loop-s-preserved : goal.loop-s-preserved
loop-s-preserved c =
    room_more c.args.self.now.table.now c.args.room.now c.loop-s.s _ c.loop-s.invariant c.numbers.ensures (omega arith)

pub returns : goal.returns
unfolding said
returns c = room_long c.args.self.now.table.now c.args.room.now (λ j h. c.loop-s.invariant j (omega arith))

-- `unpacker::header::Header::test_room` meets its contract: after s turns no list of a section below s is too short.
-- Assumes nothing.
use Rattle.unpacker.proofs.RoomLaws.{RoomTo}
use Rattle.unpacker.proofs.header.Header.test_room.Given as goal

abbrev pub invariant-loop-s : goal.invariant-loop-s
invariant-loop-s l = RoomTo l.self.table.now l.room l.s

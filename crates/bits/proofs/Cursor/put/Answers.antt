-- `bits::Cursor::put` meets its contract: where there is room it is `write`.
-- Assumes nothing.
use mathlib.Core.Path.{sym, ◌∙◌}
use Rattle.bits.proofs.RoomLaws.{room_was, place_of, put_of_lem, place_none, put_none}
use Rattle.bits.proofs.Cursor.put.Goals as goal

pub write-requires : goal.write-requires
write-requires c = room_was _ _ _ (sym c.has_room.ensures ∙ c.if-has_room.true)

pub returns-then-has_room : goal.returns-then-has_room
returns-then-has_room c =
    let wrote = c.write.ensures in
    let here = room_was _ _ _ (sym c.has_room.ensures ∙ c.if-has_room.true) in
    ((λ i. record { at = wrote.0 i }) ∙ sym (place_of _ _ _ here), wrote.1 ∙ sym (put_of_lem _ _ _ _ here))

pub returns-else-has_room : goal.returns-else-has_room
returns-else-has_room c =
    let none = sym c.has_room.ensures ∙ c.if-has_room.false in
    (sym (place_none _ _ _ none), sym (put_none _ _ _ _ none))

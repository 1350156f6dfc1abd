-- `bits::Cursor::read` meets its contract: where there is room it is `take`.
-- Assumes nothing.
use mathlib.Core.Path.{sym, ◌∙◌}
use Rattle.bits.proofs.RoomLaws.{room_was, field_of_lem, field_none}
use Rattle.bits.proofs.Cursor.read.Goals as goal

pub take-requires : goal.take-requires
take-requires c = room_was _ _ _ (sym c.has_room.ensures ∙ c.if-has_room.true)

pub returns-then-has_room : goal.returns-then-has_room
returns-then-has_room c =
    (λ i. record { value = c.take.ensures.0 i; next = record { at = c.take.ensures.1 i } })
    ∙ sym (field_of_lem _ _ _ (room_was _ _ _ (sym c.has_room.ensures ∙ c.if-has_room.true)))

pub returns-else-has_room : goal.returns-else-has_room
returns-else-has_room c = sym (field_none _ _ _ (sym c.has_room.ensures ∙ c.if-has_room.false))

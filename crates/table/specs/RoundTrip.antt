-- The order, demand 2: "Fields written to a table read back the same, and an accepted table, unpacked and written again, gives the same
-- bytes." Here of the definitions; demand 2 says it of what writer and unpacker leave as well. Assumes nothing.
use Rattle.std.specs.Prelude.{ℕ, ◌≤◌, List, ◌≡◌, length}
use Rattle.bits.specs.Bits.{Bytes}
use Rattle.table.specs.Answers.{accepted}
use Rattle.table.specs.Lists.{Lists, list_for, unpacked}
use Rattle.table.specs.Unpack.{unpack_answer}
use Rattle.table.specs.Write.{write_answer, packed}

-- lent lists are long enough for these
abbrev pub RoomFor : Lists → Lists → Type 0
RoomFor ls before = (s : ℕ) → length (list_for ls s) ≤ length (list_for before s)

-- "Fields written to a table read back the same": the table of lists that the writer accepts is accepted by the unpacker, into any lent
-- lists that are long enough, and unpacks to those lists
abbrev pub UnpackAfterWrite : Type 0
UnpackAfterWrite =
    (ls : Lists) (room : ℕ) → write_answer ls room ≡ accepted → (before : Lists) → RoomFor ls before
    → (unpack_answer (packed ls) before ≡ accepted) × (unpacked (packed ls) ≡ ls)

-- "an accepted table, unpacked and written again, gives the same bytes": the lists of a table that the unpacker accepts are accepted by the
-- writer, into any lent bytes that are long enough for the table, and are packed to it. `Bytes bytes` says that each number is below 256:
-- the content of any slice of u8 has it, so a caller owes nothing for it.
abbrev pub WriteAfterUnpack : Type 0
WriteAfterUnpack =
    (bytes : List ℕ) (before : Lists) → Bytes bytes → unpack_answer bytes before ≡ accepted → (room : ℕ) → length bytes ≤ room
    → (write_answer (unpacked bytes) room ≡ accepted) × (packed (unpacked bytes) ≡ bytes)

-- accepted bytes are determined by their fields
abbrev pub Determined : Type 0
Determined =
    (s t : List ℕ) (before other : Lists) → Bytes s → Bytes t → unpack_answer s before ≡ accepted → unpack_answer t other ≡ accepted
    → unpacked s ≡ unpacked t → s ≡ t

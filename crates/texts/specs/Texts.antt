-- Tables as text, both ways: a table that is unpacked and printed is packed from that text to the same bytes, a text that can be packed
-- says what its table unpacks to, and what is printed is read without a mistake. Assumes nothing.
use Rattle.std.specs.Prelude.{ℕ, ◌≤◌, List, ◌≡◌, length, None, Result, Ok}
use Rattle.base.specs.Tabulate.{tabulate}
use Rattle.bits.specs.Bits.{Bytes}
use Rattle.table.specs.Answers.{accepted}
use Rattle.table.specs.Sections.{lent}
use Rattle.table.specs.Lists.{Lists, lists_by, list_for, unpacked}
use Rattle.table.specs.Unpack.{unpack_answer}
use Rattle.table.specs.RoundTrip.{RoomFor}
use Rattle.table.specs.Write.{write_answer, packed}
use Rattle.notation.specs.Meant.{list_in}
use Rattle.notation.specs.Printed.{printed}
use Rattle.parser.specs.declared.mistakes.Mistake.{Mistake}
use Rattle.parser.specs.Tables.{room_in, first_mistake, ReadsTo}

-- the lists that a text says
unfoldable pub said : List ℕ → Lists
said text = lists_by (list_in text)

-- the text that is printed for lists
abbrev pub text_for : Lists → List ℕ
text_for ls = printed (list_for ls)

-- lists that the writer accepts are what the text printed for them says
abbrev pub SaidBack : Type 0
SaidBack = (ls : Lists) (room : ℕ) → write_answer ls room ≡ accepted → said (text_for ls) ≡ ls

-- what is printed for them is read without a mistake, into any lent lists that are long enough
abbrev pub PrintedIsRead : Type 0
PrintedIsRead =
    (ls : Lists) (room : ℕ) → write_answer ls room ≡ accepted → (before : Lists) → RoomFor ls before
    → first_mistake (text_for ls) before ≡ None

-- lists that were read: no mistake but how long each is, and each as it is, with zeros behind
pub record ListsRead (ls before : Lists) (r : Result (List ℕ) Mistake) (after : Lists) : Type 0 where
  pub lengths : r ≡ Ok (tabulate (λ s. length (list_for ls s)) 6)
  pub held : after ≡ lists_by (λ s. lent (room_in before s) (list_for ls s))

-- a routine that reads as `parser::read` does reads them back from what is printed for them
abbrev pub PrintedReadBack : Type 0
PrintedReadBack =
    (ls : Lists) (room : ℕ) → write_answer ls room ≡ accepted → (before : Lists) → RoomFor ls before
    → (r : Result (List ℕ) Mistake) (after : Lists) → ReadsTo (text_for ls) before r after → ListsRead ls before r after

-- unpacked, printed, read and packed again, a table that the unpacker accepts is the same bytes; `Bytes bytes` as in the table's round trip
abbrev pub PackAfterUnpack : Type 0
PackAfterUnpack =
    (bytes : List ℕ) (before : Lists) → Bytes bytes → unpack_answer bytes before ≡ accepted → (room : ℕ) → length bytes ≤ room
    → (write_answer (said (text_for (unpacked bytes))) room ≡ accepted) × (packed (said (text_for (unpacked bytes))) ≡ bytes)

-- a text that can be packed says the lists that its table unpacks to, and what is printed for them says them again
abbrev pub UnpackAfterPack : Type 0
UnpackAfterPack =
    (text : List ℕ) (room : ℕ) → write_answer (said text) room ≡ accepted
    → (unpacked (packed (said text)) ≡ said text) × (said (text_for (unpacked (packed (said text)))) ≡ said text)

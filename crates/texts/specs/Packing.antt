-- A text that is packed to lent bytes: its first mistake, or what the writer answers for the lists that it says, and leaves.
-- Assumes nothing.
use Rattle.std.specs.Prelude.{ℕ, zero, suc, ◌≤◌, ◌≡◌, List, length, replicate, None, Some, Result, Ok, Err}
use Rattle.bits.specs.Bits.{Bytes}
use Rattle.layout.specs.Layout.{header_names}
use Rattle.layout.specs.Sizes.{capacity}
use Rattle.table.specs.Answers.{accepted}
use Rattle.table.specs.Sections.{lent}
use Rattle.table.specs.Lists.{Lists, lists_by, unpacked}
use Rattle.table.specs.Unpack.{unpack_answer}
use Rattle.table.specs.Write.{Writes, written_by}
use Rattle.parser.specs.Tables.{first_mistake}
use Rattle.texts.specs.declared.PackError.{PackError}
use Rattle.texts.specs.declared.PackError.TheVariants.{Mistaken, Refused}
use Rattle.texts.specs.Texts.{said, text_for}

-- the room of the lists that a text is read to: the version and the delays, and the most records of each section
abbrev pub room_of : ℕ → ℕ
room_of zero = length header_names
room_of (suc s) = capacity (suc s)

-- the lists themselves, as they are before: of zeros
abbrev pub zero_lists : Lists
zero_lists = lists_by (λ s. replicate (room_of s) 0)

-- on a mistake every lent byte is 0
unfoldable pub PacksTo : List ℕ → List ℕ → Result ℕ PackError → List ℕ → Type 0
PacksTo text before (Err (Mistaken m)) after = (first_mistake text zero_lists ≡ Some m) × (after ≡ replicate (length before) 0)
PacksTo text before (Err (Refused r)) after =
    (first_mistake text zero_lists ≡ None) × Writes (said text) (length before) (written_by (Err r)) after
PacksTo text before (Ok n) after =
    (first_mistake text zero_lists ≡ None) × Writes (said text) (length before) (written_by (Ok n)) after

-- Unpacked and printed, a table that the unpacker accepts is packed again to the same bytes, with zeros behind, by any routine that keeps
-- `PacksTo` and is lent enough of them.
abbrev pub PacksAgain : Type 0
PacksAgain =
    (bytes : List ℕ) (lists : Lists) → Bytes bytes → unpack_answer bytes lists ≡ accepted → (before : List ℕ) → length bytes ≤ length before
    → (r : Result ℕ PackError) (after : List ℕ) → PacksTo (text_for (unpacked bytes)) before r after
    → (r ≡ Ok (length bytes)) × (after ≡ lent (length before) bytes)

-- What was read, where no read failed: how many bytes, and which of the reader's. A read that fails is not the end of the input.
-- Assumes nothing.
use Rattle.std.specs.Prelude.{ℕ, ◌<◌, List, length, take, Option, Result, Ok, Err}
use Rattle.std.specs.Io.KnownBytes.{Consumes, IsAtEnd}
use Rattle.io.specs.Counts.{IsPrefixLen}

-- What was read counts bytes at the start of the buffer. Of a failed read nothing is said, and a caller has no number to go on with.
abbrev pub Counted : {E : Type 0} → Result ℕ E → List ℕ → Type 0
Counted (Ok n) buf = IsPrefixLen n buf
Counted (Err e) buf = Unit {0}

-- What was read is what the reader had first, and all that it had unless the buffer is full. Of a failed read nothing is said.
abbrev pub Taken : {E : Type 0} → Result ℕ E → Option (List ℕ) → Option (List ℕ) → List ℕ → Type 0
Taken (Ok n) old new buf = Consumes old new (take n buf) × (n < length buf → IsAtEnd new)
Taken (Err e) old new buf = Unit {0}

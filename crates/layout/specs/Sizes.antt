-- How many numbers the list of a section has that holds the most records, and how many bytes the longest table.
-- Assumes nothing.
use Rattle.std.specs.Prelude.{ℕ, zero, suc, ◌+◌, ◌*◌, length}
use Rattle.layout.specs.Limits.{most}
use Rattle.layout.specs.Layout.{header_names, size}
use Rattle.layout.specs.Rows.{listed}

-- the numbers of the list of a section that has the most rows; of section 0 the header's
unfoldable pub capacity : ℕ → ℕ
capacity zero = length header_names
capacity (suc s) = most (suc s) * listed (suc s)

-- the bytes of the first sections of a table that has the most rows; of all six it is the longest table
unfoldable pub most_bytes : ℕ → ℕ
most_bytes zero = size 0
most_bytes (suc s) = most_bytes s + most (suc s) * size (suc s)

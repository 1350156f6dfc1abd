-- 01, The packed table: where each section stands, its rows, and what they mean as lists of numbers.
-- Assumes nothing.
use Rattle.std.specs.Prelude.{ℕ, zero, suc, ◌+◌, ◌-◌, ◌*◌, List, [], ◌++◌, length, get_or, take, replicate}
use Rattle.layout.specs.declared.Name.TheVariants as name
use Rattle.layout.specs.declared.Way.TheVariants.{Reading}
use Rattle.layout.specs.Layout.{layout, kind_of, size}
use Rattle.layout.specs.Rows.{row_at, named, converted, listed}

-- the header: the stored numbers of the first 14 bytes; it is of kind 0 in every version
unfoldable pub header_row : List ℕ → List ℕ
header_row bytes = row_at (take (size 0) bytes) 0 0

-- the version that it names, and the kind of record that the table has in a section
unfoldable pub version : List ℕ → ℕ
version bytes = named 0 (header_row bytes) name.Version

abbrev pub kind_in : List ℕ → ℕ → ℕ
kind_in bytes section = kind_of (version bytes) section

-- the header is one row; field s of it counts the rows of section s
unfoldable pub rows : List ℕ → ℕ → ℕ
rows bytes zero = 1
rows bytes (suc s) = get_or (header_row bytes) (suc s) 0

-- the byte where a section begins, of a version and of so many rows in each section: sections follow one another; section 6, which is not
-- there, would begin where the table ends
unfoldable pub start : ℕ → (ℕ → ℕ) → ℕ → ℕ
start v count zero = 0
start v count (suc s) = start v count s + count s * size (kind_of v s)

abbrev pub from : List ℕ → ℕ → ℕ
from bytes section = start (version bytes) (rows bytes) section

-- "Rows are numbered from 0": the stored numbers of row i of a section
unfoldable pub row : List ℕ → ℕ → ℕ → List ℕ
row bytes section i = row_at bytes (8 * (from bytes section + i * size (kind_in bytes section))) (kind_in bytes section)

-- what they mean, padding left out
unfoldable pub record_of : List ℕ → ℕ → ℕ → List ℕ
record_of bytes section i = take (listed section) (converted Reading (layout (kind_in bytes section)) (row bytes section i))

-- the first n records of a section, one after the other in one list
unfoldable pub records : List ℕ → ℕ → ℕ → List ℕ
records bytes section zero = []
records bytes section (suc n) = records bytes section n ++ record_of bytes section n

-- a lent list of n numbers that holds these and then zeros
unfoldable pub lent : ℕ → List ℕ → List ℕ
lent n numbers = numbers ++ replicate (n - length numbers) 0

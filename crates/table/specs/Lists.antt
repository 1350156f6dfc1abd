-- The six lists of numbers that a table is unpacked to and written from: the header's, and the records of each section.
-- The version stands in the header's list, so that it travels with them. Assumes nothing.
use Rattle.std.specs.Prelude.{ℕ, zero, suc, ◌*◌, ◌/◌, List, [], ◌∷◌, map, length, get_or, take, drop}
use Rattle.layout.specs.declared.Name.{Name}
use Rattle.layout.specs.declared.Name.TheVariants as name
use Rattle.layout.specs.declared.Way.TheVariants.{Reading}
use Rattle.layout.specs.Names.{index_in}
use Rattle.layout.specs.Layout.{layout, kind_of, header_names}
use Rattle.layout.specs.Rows.{named, converted, listed}
use Rattle.table.specs.Sections.{header_row, rows, records}

pub record Lists : Type 0 where
  pub header : List ℕ
  pub systems : List ℕ
  pub vls : List ℕ
  pub streams : List ℕ
  pub ports : List ℕ
  pub hops : List ℕ

abbrev pub lists : (header systems vls streams ports hops : List ℕ) → Lists
lists header systems vls streams ports hops =
    record { header = header; systems = systems; vls = vls; streams = streams; ports = ports; hops = hops }

-- by the section: the header's list is that of section 0, and behind section 5 there is none
abbrev pub lists_by : (ℕ → List ℕ) → Lists
lists_by list = lists (list 0) (list 1) (list 2) (list 3) (list 4) (list 5)

unfoldable pub list_for : Lists → ℕ → List ℕ
list_for ls section = get_or (ls.header ∷ ls.systems ∷ ls.vls ∷ ls.streams ∷ ls.ports ∷ ls.hops ∷ []) section []

-- "takes its counts from its lists"
unfoldable pub records_in : Lists → ℕ → ℕ
records_in ls section = length (list_for ls section) / listed section

-- record i of a section's list, as its numbers
abbrev pub record_at : Lists → ℕ → ℕ → List ℕ
record_at ls section i = take (listed section) (drop (i * listed section) (list_for ls section))

-- the header's number of this name
abbrev pub header_at : Lists → Name → ℕ
header_at ls n = get_or ls.header (index_in header_names n) 0

-- the version, and the kind of record that the table has in a section
abbrev pub version_for : Lists → ℕ
version_for ls = header_at ls name.Version

abbrev pub kind_for : Lists → ℕ → ℕ
kind_for ls section = kind_of (version_for ls) section

-- ---- of a table
-- the version, and the delays of sending and receiving
unfoldable pub header_of : List ℕ → List ℕ
header_of bytes = map (named 0 (converted Reading (layout 0) (header_row bytes))) header_names

-- the list of a section: the header's numbers, and the records of all rows
abbrev pub list_in : List ℕ → ℕ → List ℕ
list_in bytes zero = header_of bytes
list_in bytes (suc s) = records bytes (suc s) (rows bytes (suc s))

-- the lists that an accepted table unpacks to
unfoldable pub unpacked : List ℕ → Lists
unpacked bytes = lists_by (list_in bytes)

-- The sheet: a network in memory, as the lists of a table with a count of records for each section; what stands behind them is not
-- read. Any value of that form is a sheet. Assumes nothing.
use Rattle.std.specs.Prelude.{ℕ, ◌*◌, ◌%◌, min, List, [], ◌∷◌, eqb, length, get_or, replicate}
use Rattle.base.specs.Pick.{pick}
use Rattle.base.specs.Tabulate.{tabulate}
use Rattle.layout.specs.Layout.{header_names}
use Rattle.layout.specs.Limits.{most}
use Rattle.layout.specs.Rows.{listed}
use Rattle.layout.specs.Sizes.{capacity}
use Rattle.network.specs.Network.{Network}
use Rattle.network.specs.ReferenceFacts.{References}
use Rattle.network.specs.Ranges.{Ranges}
use Rattle.table.specs.declared.Counts.{Counts}
use Rattle.table.specs.Sections.{lent}
use Rattle.table.specs.Lists.{Lists, records_in}
use Rattle.table.specs.Decoded.{network_of}
use Rattle.sheet.specs.declared.Delays.{Delays}
use Rattle.sheet.specs.declared.Sheet.{Sheet}

-- ---- the network on a sheet: that of the lists which stand there
-- how many records there are of a section, and the list of numbers that stands there
unfoldable pub count_for : Counts → ℕ → ℕ
count_for n section = get_or (0 ∷ n.systems ∷ n.vls ∷ n.streams ∷ n.ports ∷ n.hops ∷ []) section 0

unfoldable pub numbers_for : Sheet → ℕ → List ℕ
numbers_for sheet section =
    get_or (sheet.header ∷ sheet.systems ∷ sheet.vls ∷ sheet.streams ∷ sheet.ports ∷ sheet.hops ∷ []) section []

-- the records that are read: as many as the sheet says, and no more than it has room for
unfoldable pub count_on : Sheet → ℕ → ℕ
count_on sheet section = min (count_for sheet.counts section) (most section)

-- a number of a section as it is read: those of a VL are less than 2^16, so that its gap in ticks is a number of the code
unfoldable pub read_as : ℕ → ℕ → ℕ
read_as section n = pick (eqb section 2) (n % 65536) n

-- the list of a section that has so many records
unfoldable pub list_to : (ℕ → ℕ) → Sheet → ℕ → List ℕ
list_to counts sheet section =
    tabulate (λ k. read_as section (get_or (numbers_for sheet section) k 0)) (counts section * listed section)

unfoldable pub lists_to : (ℕ → ℕ) → Sheet → Lists
lists_to counts sheet = record {
  header = sheet.header;
  systems = list_to counts sheet 1;
  vls = list_to counts sheet 2;
  streams = list_to counts sheet 3;
  ports = list_to counts sheet 4;
  hops = list_to counts sheet 5;
}

unfoldable pub network_on : Sheet → Network
network_on sheet = network_of (lists_to (count_on sheet) sheet)

-- the delays of a network as one value
abbrev pub delays_in : Network → Delays
delays_in net = record {
  send_least = net.send_least;
  send_greatest = net.send_greatest;
  receive_least = net.receive_least;
  receive_greatest = net.receive_greatest;
}

-- the sheet of a table that 1 to 6 are not given to
pub record Good (sheet : Sheet) : Type 0 where
  pub ranges : Ranges (network_on sheet)
  pub references : References (network_on sheet)

-- ---- the sheet of a table's lists
-- each list, and zeros up to the most numbers that it may have
unfoldable pub sheet_of : Lists → Sheet
sheet_of ls = record {
  header = lent (length header_names) ls.header;
  counts = record {
    systems = records_in ls 1;
    vls = records_in ls 2;
    streams = records_in ls 3;
    ports = records_in ls 4;
    hops = records_in ls 5;
  };
  systems = lent (capacity 1) ls.systems;
  vls = lent (capacity 2) ls.vls;
  streams = lent (capacity 3) ls.streams;
  ports = lent (capacity 4) ls.ports;
  hops = lent (capacity 5) ls.hops;
}

-- "Each refusal leaves every lent result all zero"
unfoldable pub blank : Sheet
blank = record {
  header = replicate (length header_names) 0;
  counts = record { systems = 0; vls = 0; streams = 0; ports = 0; hops = 0 };
  systems = replicate (capacity 1) 0;
  vls = replicate (capacity 2) 0;
  streams = replicate (capacity 3) 0;
  ports = replicate (capacity 4) 0;
  hops = replicate (capacity 5) 0;
}

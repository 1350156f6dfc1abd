-- 01, The packed table: how many records a table may have of each section, and how many rows its result.
-- What depends on a limit takes the limits as an argument, so that two of them can be compared. Assumes nothing.
use Rattle.std.specs.Prelude.{ℕ, [], ◌∷◌, get_or}

pub record Limits : Type 0 where
  pub systems : ℕ
  pub vls : ℕ
  pub streams : ℕ
  pub ports : ℕ
  pub hops : ℕ
  pub rows : ℕ

-- those in force: "At most 64 end systems, 256 VLs, 512 streams, 128 ports, 1,024 hops, 1,024 result rows"
abbrev pub limits : Limits
limits = record { systems = 64; vls = 256; streams = 512; ports = 128; hops = 1024; rows = 1024 }

-- the most records by the section: the header is one
unfoldable pub most_in : Limits → ℕ → ℕ
most_in l section = get_or (1 ∷ l.systems ∷ l.vls ∷ l.streams ∷ l.ports ∷ l.hops ∷ []) section 0

abbrev pub most : ℕ → ℕ
most section = most_in limits section

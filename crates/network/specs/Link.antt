-- 01, Units and Frames: a link, of an end system or of a port, and the ticks that a frame takes on it. Figures and tick machine both
-- speak of a link by these alone. Assumes nothing.
use Rattle.std.specs.Prelude.{ℕ, ◌-◌, ◌*◌}
use Rattle.frame.specs.Frame.{least_line, largest_line}
use Rattle.network.specs.Network.{Network, system_at, port_at}

-- what is known of a link: the ticks that a byte takes on it
pub record Link : Type 0 where
  pub perbyte : ℕ

abbrev pub system_link : Network → ℕ → Link
system_link net e = record { perbyte = (system_at net e).perbyte }

abbrev pub port_link : Network → ℕ → Link
port_link net p = record { perbyte = (port_at net p).perbyte }

-- the bytes that a frame of b line bytes occupies on this link: no link adds to them
unfoldable pub on_line : Link → ℕ → ℕ
on_line link b = b

-- "b × ticks per byte"
unfoldable pub line_ticks : Link → ℕ → ℕ
line_ticks link b = on_line link b * link.perbyte

-- "84 × its ticks per byte"
unfoldable pub least_ticks : Link → ℕ
least_ticks link = line_ticks link least_line

-- "(20 + Lmax) × ticks per byte"
unfoldable pub most_ticks : Link → ℕ → ℕ
most_ticks link lmax = line_ticks link (largest_line lmax)

-- "(20 + Lmax − 84) × ticks per byte"
unfoldable pub spread_ticks : Link → ℕ → ℕ
spread_ticks link lmax = (on_line link (largest_line lmax) - on_line link least_line) * link.perbyte

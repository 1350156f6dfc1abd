-- The frame rule offered by itself: what it answers where a size is out of 01's ranges. A table's own ranges are the layout's.
-- Assumes nothing.
use Rattle.std.specs.Prelude.{ℕ, ◌&&◌, Option, None, Some}
use Rattle.base.specs.Pick.{pick, within}
use Rattle.frame.specs.Frame.{least_frame, greatest_frame, largest_line}
use Rattle.frame.specs.Packets.{packets}

-- the same where Lmax is in its range; any other is refused (4): "Lmax 64 to 1,518"
unfoldable pub largest_line_of : ℕ → Option ℕ
largest_line_of lmax = pick (within least_frame greatest_frame lmax) (Some (largest_line lmax)) None

-- the greatest message: "M 1 to 8,192"
unfoldable pub greatest_message : ℕ
greatest_message = 8192

-- the same where M and Lmax are in 01's ranges; any other is refused (4)
unfoldable pub packets_of : ℕ → ℕ → Option ℕ
packets_of m lmax = pick (within least_frame greatest_frame lmax && within 1 greatest_message m) (Some (packets m lmax)) None

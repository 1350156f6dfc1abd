-- 01, Frames: the four numbers of a frame, and the bytes that a packet occupies on the line.
-- Assumes nothing.
use Rattle.std.specs.Prelude.{ℕ, ◌+◌, Option, None, Some}
use Rattle.base.specs.Pick.{pick, within}

-- "Overhead on the line is 20 bytes"
unfoldable pub line_overhead : ℕ
line_overhead = 20

-- "protocol overhead inside the frame is 47"
unfoldable pub protocol_overhead : ℕ
protocol_overhead = 47

-- "least frame 64"
unfoldable pub least_frame : ℕ
least_frame = 64

-- "greatest 1,518"
unfoldable pub greatest_frame : ℕ
greatest_frame = 1518

-- "A packet payload of 1 to 17 bytes occupies 84 bytes on the line, 18 to 1,471 occupies 67 plus the payload, any other is refused (4)."
unfoldable pub line_of : ℕ → Option ℕ
line_of payload = pick (within 1 17 payload) (Some 84) (pick (within 18 1471 payload) (Some (67 + payload)) None)

-- the least that any frame occupies on the line: the 84 bytes of 01's best figure
unfoldable pub least_line : ℕ
least_line = line_overhead + least_frame

-- the most that a frame of a VL occupies on the line: 01's 20 + Lmax
unfoldable pub largest_line : ℕ → ℕ
largest_line lmax = line_overhead + lmax

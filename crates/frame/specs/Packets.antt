-- 01, Frames, as M-103 corrects equation 4: "By RFC 791 only the first fragment has the 8-byte UDP header, and every fragment but the last
-- carries a multiple of 8 bytes. With S = Lmax − 39 and C = S rounded down to a multiple of 8, p is the least count with M + 8 at most
-- (p − 1) × C + S." A message of M bytes on a VL of largest frame Lmax becomes these p packets. Assumes nothing.
use Rattle.std.specs.Prelude.{ℕ, ◌+◌, ◌-◌, ◌*◌, ◌/◌, max, List, [], ◌∷◌, ◌++◌, map, leb, replicate}
use Rattle.base.specs.Least.{least_from}
use Rattle.base.specs.Tests.{number_or0}
use Rattle.frame.specs.Frame.{least_line}

-- ---- the count
-- "the 8-byte UDP header"
unfoldable pub udp_header : ℕ
udp_header = 8

-- "S = Lmax − 39": the most that a fragment has, the UDP header counted
unfoldable pub most_fragment : ℕ → ℕ
most_fragment lmax = lmax - 39

-- "C = S rounded down to a multiple of 8": what a full one has
unfoldable pub full_fragment : ℕ → ℕ
full_fragment lmax = most_fragment lmax / 8 * 8

-- "(p − 1) × C + S": the most that p fragments have
unfoldable pub carried : ℕ → ℕ → ℕ
carried p lmax = (p - 1) * full_fragment lmax + most_fragment lmax

-- "p is the least count with M + 8 at most (p − 1) × C + S"; there is one up to M + 8 (`AsIpCuts`)
unfoldable pub packets : ℕ → ℕ → ℕ
packets m lmax = number_or0 (least_from (λ p. leb (m + udp_header) (carried p lmax)) 1 (m + udp_header))

-- ---- the cut
-- 01, The tick machine: "every packet but the last is full"; M-103: "a full one has C". The fragments in order, the UDP header counted
unfoldable pub cut : ℕ → ℕ → List ℕ
cut m lmax =
    let before = packets m lmax - 1 in
    replicate before (full_fragment lmax) ++ ((m + udp_header - before * full_fragment lmax) ∷ [])

-- "A fragment of f bytes, UDP header counted, takes 59 + f on the line, at least 84"
unfoldable pub fragment_line : ℕ → ℕ
fragment_line f = max least_line (59 + f)

-- the bytes that each packet of a message occupies on the line, in order
unfoldable pub packet_lines : ℕ → ℕ → List ℕ
packet_lines m lmax = map fragment_line (cut m lmax)

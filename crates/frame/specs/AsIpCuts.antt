-- M-103: what is proved of its count and its cut, for every message and every largest frame of 01's range.
-- Assumes nothing.
use Rattle.std.specs.Prelude.{ℕ, ◌+◌, ◌-◌, ◌≤◌, ◌≡◌, length, Some}
use mathlib.Core.List.{sum, Memᴰ}
use Rattle.base.specs.Round.{up}
use Rattle.frame.specs.Frame.{protocol_overhead, least_frame, greatest_frame, line_of, least_line, largest_line}
use Rattle.frame.specs.Packets.{udp_header, most_fragment, full_fragment, carried, packets, cut, fragment_line, packet_lines}

pub record AsIpCuts (m lmax : ℕ) : Type 0 where
  -- "p is the least count with M + 8 at most (p − 1) × C + S": there is one, and none is less
  pub at_least_one : 1 ≤ packets m lmax
  pub enough : m + udp_header ≤ carried (packets m lmax) lmax
  pub fewest : (n : ℕ) → 1 ≤ n → m + udp_header ≤ carried n lmax → packets m lmax ≤ n
  -- the same as one quotient, which the code computes: what S has beyond C is left to the last fragment, and the others have C
  pub quotient : packets m lmax ≡ up (m + (udp_header - (most_fragment lmax - full_fragment lmax))) (full_fragment lmax)
  pub grows : (n : ℕ) → m ≤ n → packets m lmax ≤ packets n lmax
  -- "so does the sampling limit": one packet exactly if M is at most Lmax − 47, and then 01's rule for a payload gives its line size
  pub one : m ≤ lmax - protocol_overhead → packets m lmax ≡ 1
  pub one_was : packets m lmax ≡ 1 → m ≤ lmax - protocol_overhead
  pub alone : packets m lmax ≡ 1 → line_of m ≡ Some (fragment_line (m + udp_header))
  -- "fewer packets than we state": never more than M / (Lmax − 47) rounded up
  pub no_more : packets m lmax ≤ up m (lmax - protocol_overhead)
  -- the cut has that many fragments; together they are the message and one UDP header; each has a byte and at most S, also the last,
  -- which may have more than C
  pub count : length (cut m lmax) ≡ packets m lmax
  pub whole : sum ◌+◌ 0 (cut m lmax) ≡ m + udp_header
  pub fragment : (f : ℕ) → Memᴰ f (cut m lmax) → (1 ≤ f) × (f ≤ most_fragment lmax)
  -- on the line each takes 84 bytes at least, and no more than the VL's largest frame
  pub line : (b : ℕ) → Memᴰ b (packet_lines m lmax) → (least_line ≤ b) × (b ≤ largest_line lmax)

abbrev pub CutsAsIp : Type 0
CutsAsIp = (m lmax : ℕ) → least_frame ≤ lmax → lmax ≤ greatest_frame → 1 ≤ m → AsIpCuts m lmax

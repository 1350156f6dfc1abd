-- The frame rule and equation 4 give a number for every VL and message of an accepted table.
-- Assumes nothing.
use Prim.Native.Nat.{ℕ, ◌≤◌}
use mathlib.Core.Path.{◌≡◌, ◌∙◌}
use native.Mathlib.Omega.{arith}
use Rattle.base.specs.Tests.{number_or0}
use Rattle.base.proofs.TestLaws.{number_is}
use Rattle.frame.specs.Frame.{largest_line}
use Rattle.frame.specs.Offered.{largest_line_of, packets_of}
use Rattle.frame.specs.Packets.{packets}
use Rattle.frame.proofs.FrameLaws.{least_line_is, largest_line_bounds, largest_line_given, protocol_overhead_is}
use Rattle.frame.proofs.PacketLaws.{most_packets, packets_given, packets_some, packets_most}

-- ---- the most bytes of a frame
pub line_is : (lmax r : ℕ) → 64 ≤ lmax → lmax ≤ 1518 → r ≡ number_or0 (largest_line_of lmax) → (r ≡ largest_line lmax) × (84 ≤ r) × (r ≤ 1538)
line_is lmax r low high e =
    let is : r ≡ largest_line lmax = e ∙ number_is (largest_line_of lmax) (largest_line lmax) (largest_line_given lmax low high) in
    let bounds = largest_line_bounds lmax low high in
    (is, omega (arith, least_line_is), omega arith)

-- ---- the packets of a message
pub packets_bounds : (m lmax : ℕ) → 1 ≤ m → m ≤ 8192 → 64 ≤ lmax → (1 ≤ packets m lmax) × (packets m lmax ≤ most_packets)
packets_bounds m lmax a b c = (packets_some m lmax (omega (arith, protocol_overhead_is)) a, packets_most m lmax c b)

pub packets_are : (m lmax r : ℕ) → 1 ≤ m → m ≤ 8192 → 64 ≤ lmax → lmax ≤ 1518 → r ≡ number_or0 (packets_of m lmax) → (r ≡ packets m lmax) × (1 ≤ r) × (r ≤ most_packets)
packets_are m lmax r a b low high e =
    let is : r ≡ packets m lmax = e ∙ number_is (packets_of m lmax) (packets m lmax) (packets_given m lmax low high a b) in
    let bounds = packets_bounds m lmax a b low in
    (is, omega arith, omega arith)

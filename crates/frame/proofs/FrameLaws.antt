-- What the frame rule says: its numbers follow from the four of 01, and a packet occupies its frame and the line's overhead.
-- Assumes nothing.
use mathlib.Core.Path.{◌≡◌, refl, ap, ◌∙◌}
use mathlib.Core.Logic.{◌⊎◌, ⊎_elim}
use Rattle.std.specs.Prelude.{None, Some}
use Prim.Native.Nat.{ℕ, ◌+◌, ◌-◌, ◌≤◌, ◌<◌, max}
use native.Mathlib.Decide.{dec_le}
use native.Mathlib.Omega.{arith}
use Rattle.base.proofs.Tests.{within_yes, within_below, within_above, within_not}
use Rattle.frame.specs.Frame.{line_overhead, protocol_overhead, least_frame, greatest_frame, line_of, least_line, largest_line}
use Rattle.frame.specs.Offered.{largest_line_of}

-- ---- the numbers
pub protocol_overhead_is : protocol_overhead ≡ 47
unfolding protocol_overhead
protocol_overhead_is = refl

pub greatest_frame_is : greatest_frame ≡ 1518
unfolding greatest_frame
greatest_frame_is = refl

pub least_line_is : least_line ≡ 84
unfolding least_line line_overhead least_frame
least_line_is = refl

-- 17, 67, 84 and 1,471 of the rule follow from the four numbers
pub numbers_follow :
    (17 ≡ least_frame - protocol_overhead) × (67 ≡ line_overhead + protocol_overhead) × (84 ≡ line_overhead + least_frame)
    × (1471 ≡ greatest_frame - protocol_overhead)
unfolding line_overhead protocol_overhead least_frame greatest_frame
numbers_follow = (refl, refl, refl, refl)

-- ---- the line size of a packet
pub line_small : (n : ℕ) → 1 ≤ n → n ≤ 17 → line_of n ≡ Some 84
unfolding line_of
line_small n h l = rw (within_yes 1 17 n (h, l))

pub line_large : (n : ℕ) → 18 ≤ n → n ≤ 1471 → line_of n ≡ Some (67 + n)
unfolding line_of
line_large n h l = rw (within_above 1 17 n h, within_yes 18 1471 n (h, l))

-- a frame has 47 bytes more than its payload and at least 64; on the line it occupies 20 more
pub line_framed :
    (n : ℕ) → 1 ≤ n → protocol_overhead + n ≤ greatest_frame → line_of n ≡ Some (line_overhead + max least_frame (protocol_overhead + n))
unfolding line_overhead protocol_overhead least_frame greatest_frame
line_framed n h l = go (dec_le n 17)
  where
    go : Dec (n ≤ 17) → line_of n ≡ Some (20 + max 64 (47 + n))
    go (yes s) = line_small n h s ∙ ap Some (omega arith)
    go (no b) = line_large n (omega arith) (omega arith) ∙ ap Some (omega arith)

pub line_refused : (n : ℕ) → (n ≡ 0) ⊎ (greatest_frame < protocol_overhead + n) → line_of n ≡ None
unfolding line_of protocol_overhead greatest_frame
line_refused n = ⊎_elim
    (λ (e : n ≡ 0). rw (within_below 1 17 n (omega arith), within_below 18 1471 n (omega arith)))
    (λ (l : 1518 < 47 + n). rw (within_above 1 17 n (omega arith), within_above 18 1471 n (omega arith)))

-- ---- the line size of a largest frame
pub largest_line_is : (l : ℕ) → largest_line l ≡ 20 + l
unfolding largest_line line_overhead
largest_line_is l = refl

pub largest_line_bounds : (lmax : ℕ) → 64 ≤ lmax → lmax ≤ 1518 → (least_line ≤ largest_line lmax) × (largest_line lmax ≤ 1538)
largest_line_bounds lmax h l = omega (arith, least_line_is, largest_line_is lmax)

pub largest_line_given : (lmax : ℕ) → 64 ≤ lmax → lmax ≤ 1518 → largest_line_of lmax ≡ Some (largest_line lmax)
unfolding largest_line_of least_frame greatest_frame
largest_line_given lmax h l = rw (within_yes 64 1518 lmax (h, l))

pub largest_line_refused : (lmax : ℕ) → (lmax < 64) ⊎ (1518 < lmax) → largest_line_of lmax ≡ None
unfolding largest_line_of least_frame greatest_frame
largest_line_refused lmax out = rw (within_not 64 1518 lmax out)

-- What the packet count and the cut of a message say: the packets are enough and the fewest, and the cut is the message.
-- Assumes nothing.
use mathlib.Core.Path.{◌≡◌, refl, ap, ◌∙◌, subst}
use mathlib.Core.Bool.{Bool, true, false, and-false}
use mathlib.Core.Logic.{◌⊎◌, ⊎_elim}
use mathlib.Core.List.Memᴰ
use mathlib.Core.List.{[], ◌∷◌, sum, sum-append, Memᴰ}
use Rattle.std.specs.Prelude.{None, Some}
use Prim.Native.Nat.{ℕ, zero, suc, ◌+◌, ◌-◌, ◌*◌, ◌/◌, ◌%◌, ◌≤◌, ◌<◌}
use native.Mathlib.Nat.{zero-add, add_assoc, lt_of_not-le, mul-le-mul_left, lt-div-mul-add, div-mul-le_self, div-add-mod'}
use native.Mathlib.Omega.{arith}
use borrow.Author.Tests.{le-leb, lt-leb}
use lib.Dec.{leb}
use lib.ListN.{length, replicate, length-append, length-replicate, length-map}
use Rattle.base.specs.Least.{least_from}
use Rattle.base.specs.Pick.{within}
use Rattle.base.specs.Round.{up}
use Rattle.base.specs.Tests.{number_or0}
use Rattle.base.proofs.LeastLaws.{least_is}
use Rattle.base.proofs.Members.{replicate_member, sum_replicate}
use Rattle.base.proofs.RoundLaws.{up_enough, up_fewest, up_some, up_before, up_last, up_mono}
use Rattle.base.proofs.Tests.{within_yes, within_not}
use Rattle.frame.specs.Frame.{line_overhead, protocol_overhead, least_frame, greatest_frame, line_of, least_line, largest_line}
use Rattle.frame.specs.Packets.{udp_header, most_fragment, full_fragment, carried, packets, cut, fragment_line, packet_lines}
use Rattle.frame.specs.AsIpCuts.{CutsAsIp}
use Rattle.frame.specs.Offered.{greatest_message, packets_of}
use Rattle.frame.proofs.FrameLaws.{protocol_overhead_is, line_framed, least_line_is, largest_line_is}

-- ---- S and C
pub udp_header_is : udp_header ≡ 8
unfolding udp_header
udp_header_is = refl

pub most_fragment_is : (lmax : ℕ) → most_fragment lmax ≡ lmax - 39
unfolding most_fragment
most_fragment_is lmax = refl

-- 39 and 59 follow from 01's numbers: a fragment has no UDP header of its own
pub fragment_numbers_follow : (39 ≡ protocol_overhead - udp_header) × (59 ≡ line_overhead + protocol_overhead - udp_header)
unfolding line_overhead protocol_overhead udp_header
fragment_numbers_follow = (refl, refl)

-- C is a multiple of 8, and S has less than 8 beyond it
pub full_fragment_is : (lmax : ℕ) → full_fragment lmax ≡ most_fragment lmax / 8 * 8
unfolding full_fragment
full_fragment_is lmax = refl

rounded : (lmax : ℕ) → (full_fragment lmax ≤ most_fragment lmax) × (most_fragment lmax ≤ full_fragment lmax + 7)
unfolding full_fragment
rounded lmax = (div-mul-le_self (most_fragment lmax) 8, omega (arith, lt-div-mul-add {a = most_fragment lmax} {b = 8} (omega arith)))

full_fragment_some : (lmax : ℕ) → protocol_overhead < lmax → 1 ≤ full_fragment lmax
full_fragment_some lmax h = omega (arith, rounded lmax, most_fragment_is lmax, protocol_overhead_is)

-- what is beyond C is the last fragment's
carried_is : (n lmax : ℕ) → 1 ≤ n → carried n lmax ≡ n * full_fragment lmax + (most_fragment lmax - full_fragment lmax)
unfolding carried
carried_is zero lmax h = absurd (omega arith)
carried_is (suc n) lmax h = let s : suc n - 1 ≡ n = omega arith in rw s (omega (arith, rounded lmax))

-- ---- the count
-- M + 8 less what the last fragment has beyond C: this much, p fragments of C each have to cover
abbrev pub evenly : ℕ → ℕ → ℕ
evenly m lmax = m + (udp_header - (most_fragment lmax - full_fragment lmax))

module _ (m lmax : ℕ) (wide : protocol_overhead < lmax) where
  some_full : 1 ≤ full_fragment lmax
  some_full = full_fragment_some lmax wide

  -- a count is enough exactly if so many full fragments cover that
  covered : (n : ℕ) → 1 ≤ n → evenly m lmax ≤ n * full_fragment lmax → m + udp_header ≤ carried n lmax
  covered n h l = omega (arith, carried_is n lmax h, rounded lmax, udp_header_is)

  was_covered : (n : ℕ) → 1 ≤ n → m + udp_header ≤ carried n lmax → evenly m lmax ≤ n * full_fragment lmax
  was_covered n h l = omega (arith, carried_is n lmax h, rounded lmax, udp_header_is)

  some_evenly : 1 ≤ evenly m lmax
  some_evenly = omega (arith, rounded lmax, udp_header_is)

  pub packets_is : packets m lmax ≡ up (evenly m lmax) (full_fragment lmax)
  unfolding packets number_or0
  packets_is = rw (least_is test 1 (m + udp_header) least some_packet (omega (arith, few)) passes fails)
    where
      test : ℕ → Bool
      test p = leb (m + udp_header) (carried p lmax)

      least : ℕ
      least = up (evenly m lmax) (full_fragment lmax)

      some_packet : 1 ≤ least
      some_packet = up_some (evenly m lmax) (full_fragment lmax) some_full some_evenly

      few : least ≤ evenly m lmax
      few =
          up_fewest (evenly m lmax) (full_fragment lmax) (evenly m lmax) some_full
          (omega (arith, mul-le-mul_left (evenly m lmax) some_full))

      passes : test least ≡ true
      passes = le-leb (m + udp_header) (carried least lmax)
          (covered least some_packet (up_enough (evenly m lmax) (full_fragment lmax) some_full))

      fails : (i : ℕ) → 1 ≤ i → i < least → test i ≡ false
      fails i h l = lt-leb (m + udp_header) (carried i lmax)
          (lt_of_not-le (λ k. omega (arith, up_fewest (evenly m lmax) (full_fragment lmax) i some_full (was_covered i h k))))

-- the same as the code has it: what S has beyond C is its rest by 8
pub packets_computed : (m lmax : ℕ) → protocol_overhead < lmax
    → let most = lmax - 39 in let full = most - most % 8 in packets m lmax ≡ (m + (8 - most % 8) + (full - 1)) / full
unfolding up full_fragment most_fragment udp_header
packets_computed m lmax wide =
    let most = lmax - 39 in
    let spare : most - most / 8 * 8 ≡ most % 8 = omega (arith, div-add-mod' most 8) in
    let full : most / 8 * 8 ≡ most - most % 8 = omega (arith, div-add-mod' most 8) in
    packets_is m lmax wide ∙ rw (spare, full)

module _ (m lmax : ℕ) (wide : protocol_overhead < lmax) where
  counted : 1 ≤ packets m lmax
  counted =
      rw (packets_is m lmax wide) (up_some (evenly m lmax) (full_fragment lmax) (full_fragment_some lmax wide) (some_evenly m lmax wide))

  pub packets_some : 1 ≤ m → 1 ≤ packets m lmax
  packets_some h = counted

  pub packets_enough : m + udp_header ≤ carried (packets m lmax) lmax
  packets_enough = covered m lmax wide (packets m lmax) counted
      (rw (packets_is m lmax wide) (up_enough (evenly m lmax) (full_fragment lmax) (full_fragment_some lmax wide)))

  pub packets_fewest : (n : ℕ) → 1 ≤ n → m + udp_header ≤ carried n lmax → packets m lmax ≤ n
  packets_fewest n h l =
      rw (packets_is m lmax wide)
      (up_fewest (evenly m lmax) (full_fragment lmax) n (full_fragment_some lmax wide) (was_covered m lmax wide n h l))

  pub packets_grow : (n : ℕ) → m ≤ n → packets m lmax ≤ packets n lmax
  packets_grow n h =
      rw (packets_is m lmax wide, packets_is n lmax wide)
      (up_mono (evenly m lmax) (evenly n lmax) (full_fragment lmax) (full_fragment_some lmax wide) (omega arith))

  -- what all fragments but the last have leaves the last something
  pub last_some : (packets m lmax - 1) * full_fragment lmax < m + udp_header
  last_some =
      rw (packets_is m lmax wide)
      (omega (arith, udp_header_is, some_evenly m lmax wide, up_before (evenly m lmax) (full_fragment lmax) (full_fragment_some lmax wide)))

  -- one fragment carries S, which is Lmax − 47 and the UDP header
  one_carries : carried 1 lmax ≡ lmax - protocol_overhead + udp_header
  one_carries = omega (
    arith,
    carried_is 1 lmax (omega arith),
    rounded lmax,
    most_fragment_is lmax,
    udp_header_is,
    protocol_overhead_is,
  )

  pub packets_one : 1 ≤ m → m ≤ lmax - protocol_overhead → packets m lmax ≡ 1
  packets_one h l = omega (arith, packets_some h, packets_fewest 1 (omega arith) (omega (arith, one_carries)))

  pub packets_one_was : packets m lmax ≡ 1 → m ≤ lmax - protocol_overhead
  packets_one_was e = let l = rw e at packets_enough in omega (arith, one_carries)

  -- never more than the former equation 4, which left every packet Lmax − 47: a full fragment has more
  pub packets_no_more : 1 ≤ m → packets m lmax ≤ up m (lmax - protocol_overhead)
  unfolding carried
  packets_no_more h =
      let old = lmax - protocol_overhead in
      let n = up m old in
      let some-old : 1 ≤ old = omega arith in
      let some-n : 1 ≤ n = up_some m old some-old h in
      let less : old ≤ full_fragment lmax = omega (arith, rounded lmax, most_fragment_is lmax, protocol_overhead_is) in
      let more : (n - 1) * old ≤ (n - 1) * full_fragment lmax = mul-le-mul_left (n - 1) less in
      packets_fewest n some-n (omega (arith, more, up_last m old some-old, most_fragment_is lmax, udp_header_is, protocol_overhead_is))

-- the most packets of a message: 8,192 bytes in frames of 64
abbrev pub most_packets : ℕ
most_packets = 342

pub packets_most : (m lmax : ℕ) → 64 ≤ lmax → m ≤ 8192 → packets m lmax ≤ most_packets
packets_most m lmax h l =
    packets_fewest m lmax (omega (arith, protocol_overhead_is)) most_packets (omega arith)
    (omega (arith, carried_is most_packets lmax (omega arith), rounded lmax, full_fragment_is lmax, most_fragment_is lmax, udp_header_is))

-- ---- the range in which equation 4 is asked
pub packets_given : (m lmax : ℕ) → 64 ≤ lmax → lmax ≤ 1518 → 1 ≤ m → m ≤ 8192 → packets_of m lmax ≡ Some (packets m lmax)
unfolding packets_of least_frame greatest_frame greatest_message
packets_given m lmax h l a b = rw (within_yes 64 1518 lmax (h, l), within_yes 1 8192 m (a, b))

pub packets_frame_refused : (m lmax : ℕ) → (lmax < 64) ⊎ (1518 < lmax) → packets_of m lmax ≡ None
unfolding packets_of least_frame greatest_frame
packets_frame_refused m lmax out = rw (within_not 64 1518 lmax out)

pub packets_message_refused : (m lmax : ℕ) → (m < 1) ⊎ (8192 < m) → packets_of m lmax ≡ None
unfolding packets_of greatest_message
packets_message_refused m lmax out = rw (within_not 1 8192 m out, and-false (within least_frame greatest_frame lmax))

-- ---- the cut
-- into frames of 64 bytes, where S is 25 and C is 24: the message of 100 bytes of 01's numbers, and one whose last fragment is longer than
-- a full one
pub cut_in_5 : (cut 100 64 ≡ 24 ∷ 24 ∷ 24 ∷ 24 ∷ 12 ∷ []) × (cut 113 64 ≡ 24 ∷ 24 ∷ 24 ∷ 24 ∷ 25 ∷ [])
unfolding cut packets number_or0 least_from carried most_fragment full_fragment udp_header
cut_in_5 = (refl, refl)

module _ (m lmax : ℕ) (wide : protocol_overhead < lmax) (some_bytes : 1 ≤ m) where
  pub cut_length : length (cut m lmax) ≡ packets m lmax
  unfolding cut
  cut_length =
      let before = packets m lmax - 1 in
      let full = full_fragment lmax in
      length-append (replicate before full) ((m + udp_header - before * full) ∷ [])
      ∙ rw (length-replicate before full) (omega (arith, packets_some m lmax wide some_bytes))

  -- the fragments are the message's bytes and one UDP header, none lost and none twice
  pub cut_whole : sum ◌+◌ 0 (cut m lmax) ≡ m + udp_header
  unfolding cut sum
  cut_whole =
      let before = packets m lmax - 1 in
      let full = full_fragment lmax in
      sum-append ◌+◌ 0 zero-add add_assoc (replicate before full) ((m + udp_header - before * full) ∷ [])
      ∙ rw (sum_replicate before full) (omega (arith, last_some m lmax wide))

  -- the last may have more than a full one, and S at most
  pub cut_fragment : (f : ℕ) → Memᴰ f (cut m lmax) → (1 ≤ f) × (f ≤ most_fragment lmax)
  unfolding cut carried
  cut_fragment f member =
      let before = packets m lmax - 1 in
      let full = full_fragment lmax in
      ⊎_elim
      (λ i. let e = replicate_member before i in omega (arith, full_fragment_some lmax wide, rounded lmax))
      (λ i. let e = Memᴰ.eq_of_singleton i in omega (arith, last_some m lmax wide, packets_enough m lmax wide))
      (Memᴰ.append_cases (replicate before full) member)

-- ---- the line sizes of the packets
pub packet_lines_length : (m lmax : ℕ) → protocol_overhead < lmax → 1 ≤ m → length (packet_lines m lmax) ≡ packets m lmax
unfolding packet_lines
packet_lines_length m lmax wide h = length-map (cut m lmax) fragment_line ∙ cut_length m lmax wide h

-- a fragment that fits a frame occupies from the least line size to the VL's largest
pub fragment_line_between : (lmax : ℕ) → 64 ≤ lmax → (f : ℕ) → f ≤ most_fragment lmax
    → (least_line ≤ fragment_line f) × (fragment_line f ≤ largest_line lmax)
unfolding fragment_line
fragment_line_between lmax low f h = omega (arith, least_line_is, largest_line_is lmax, most_fragment_is lmax)

pub packet_lines_between : (m lmax : ℕ) → 64 ≤ lmax → lmax ≤ 1518 → 1 ≤ m → (b : ℕ) → Memᴰ b (packet_lines m lmax)
    → (least_line ≤ b) × (b ≤ largest_line lmax)
unfolding packet_lines
packet_lines_between m lmax low high some_bytes b member =
    let from = Memᴰ.of_map fragment_line (cut m lmax) member in
    let fits = cut_fragment m lmax (omega (arith, protocol_overhead_is)) some_bytes from.0 from.1 in
    subst (λ (x : ℕ). (least_line ≤ x) × (x ≤ largest_line lmax)) from.2 (fragment_line_between lmax low from.0 fits.1)

-- ---- 01's rule for a payload: a packet by itself is a fragment with its UDP header
pub line_alone : (n : ℕ) → 1 ≤ n → protocol_overhead + n ≤ greatest_frame → line_of n ≡ Some (fragment_line (n + udp_header))
unfolding fragment_line line_overhead protocol_overhead least_frame greatest_frame
line_alone n h l = line_framed n h l ∙ ap Some (omega (arith, least_line_is, udp_header_is))

-- ---- M-103, whole
pub as_ip_cuts : CutsAsIp
unfolding least_frame greatest_frame
as_ip_cuts m lmax low high h =
    let wide : protocol_overhead < lmax = omega (arith, protocol_overhead_is) in
    record {
      at_least_one = packets_some m lmax wide h;
      enough = packets_enough m lmax wide;
      fewest = packets_fewest m lmax wide;
      quotient = packets_is m lmax wide;
      grows = packets_grow m lmax wide;
      one = packets_one m lmax wide h;
      one_was = packets_one_was m lmax wide;
      alone = λ e. line_alone m h (omega (arith, packets_one_was m lmax wide e, protocol_overhead_is));
      no_more = packets_no_more m lmax wide h;
      count = cut_length m lmax wide h;
      whole = cut_whole m lmax wide h;
      fragment = cut_fragment m lmax wide h;
      line = packet_lines_between m lmax low high h;
    }

-- The gaps double from code to code, so code k stands for 2 ^ k milliseconds; and a gap in milliseconds and its code give each other back.
-- Assumes nothing.
use mathlib.Core.Path.{◌≡◌, refl, sym, ap, ◌∙◌, subst}
use mathlib.Core.Bool.{Bool, true, false, ◌&&◌, ◌||◌, not, and-eq-true_iff}
use mathlib.Core.Logic.{◌⊎◌}
use Rattle.std.specs.Prelude.{None, Some}
use Prim.Native.Nat.{ℕ, zero, suc, ◌*◌, ◌^◌, ◌≤◌, ◌<◌}
use native.Mathlib.Nat.{pow-suc}
use native.Mathlib.Omega.{arith}
use lib.Count.{ones, count_trailing_zeros}
use lib.Dec.{T, eqb, eqb→eq, leb, ltb}
use lib.ListN.{get_or}
use lib.Pow.{pow_pos, pow_mono}
use borrow.Author.Tests.{lt-ltb, le-ltb, ltb-true, leb-true, eq-eqb, ne_eqb, eqb-true}
use Rattle.base.specs.Pick.{within}
use Rattle.base.proofs.Every.{every, at, left, right, implied, is_true}
use Rattle.base.proofs.Tests.{within_yes, within_not, pick_gave}
use Rattle.frame.specs.Tick.{per_ms}
use Rattle.frame.specs.Gap.{gaps, gap_of, good_ms, code_of, ms_of}

-- ---- the table
-- each gap is twice the one before: one test over the table, which antt computes
pub doubling : (k : ℕ) → k < 7 → get_or gaps (suc k) 0 ≡ 2 * get_or gaps k 0
unfolding gaps
doubling k h = eqb→eq _ _ (at (λ j. eqb (get_or gaps (suc j) 0) (2 * get_or gaps j 0)) 7 tt k h)

-- the first is one millisecond, so code k stands for 2 ^ k of them
pub table_in_ms : (k : ℕ) → k < 8 → get_or gaps k 0 ≡ per_ms * 2 ^ k
unfolding gaps per_ms
table_in_ms zero h = refl
table_in_ms (suc k) h =
    let double = doubling k (omega arith) in
    let before = table_in_ms k (omega arith) in
    rw (pow-suc 2 k) (omega arith)

-- ---- the gap in ticks of a code
pub gap_given : (code : ℕ) → code < 8 → gap_of code ≡ Some (get_or gaps code 0)
unfolding gap_of
gap_given code h = rw (lt-ltb code 8 h)

pub gap_refused : (code : ℕ) → 8 ≤ code → gap_of code ≡ None
unfolding gap_of
gap_refused code h = rw (le-ltb code 8 h)

pub gap_was : (code g : ℕ) → gap_of code ≡ Some g → (code < 8) × (g ≡ per_ms * 2 ^ code)
unfolding gap_of
gap_was code g e =
    let given = pick_gave (ltb code 8) (get_or gaps code 0) g e in
    let low = ltb-true code 8 given.0 in
    (low, sym given.1 ∙ table_in_ms code low)

pub gap_bounds : (code g : ℕ) → gap_of code ≡ Some g → (12500 ≤ g) × (g ≤ 1600000)
unfolding per_ms
gap_bounds code g e =
    let was = gap_was code g e in
    omega (arith, pow_pos code, pow_mono {i = code} {j = 7} (omega arith))

-- ---- the gap in milliseconds of a code
pub ms_given : (code : ℕ) → code < 8 → ms_of code ≡ Some (2 ^ code)
unfolding ms_of
ms_given code h = rw (lt-ltb code 8 h)

pub ms_refused : (code : ℕ) → 8 ≤ code → ms_of code ≡ None
unfolding ms_of
ms_refused code h = rw (le-ltb code 8 h)

pub ms_was : (code ms : ℕ) → ms_of code ≡ Some ms → (code < 8) × (2 ^ code ≡ ms)
unfolding ms_of
ms_was code ms e = let given = pick_gave (ltb code 8) (2 ^ code) ms e in (ltb-true code 8 given.0, given.1)

pub gap_in_ms : (code ms : ℕ) → ms_of code ≡ Some ms → gap_of code ≡ Some (per_ms * ms)
gap_in_ms code ms e =
    let was = ms_was code ms e in
    gap_given code was.0 ∙ ap Some (table_in_ms code was.0 ∙ ap (λ (n : ℕ). per_ms * n) was.1)

-- ---- the code of a gap in milliseconds
pub good_ms_lem : (ms : ℕ) → 1 ≤ ms → ms ≤ 128 → ones ms ≡ 1 → good_ms ms ≡ true
unfolding good_ms
good_ms_lem ms h l e = rw (within_yes 1 128 ms (h, l), eq-eqb (ones ms) 1 e)

pub good_was : (ms : ℕ) → good_ms ms ≡ true → (1 ≤ ms) × (ms ≤ 128) × (ones ms ≡ 1)
unfolding good_ms
good_was ms e =
    let both = (and-eq-true_iff (within 1 128 ms) (eqb (ones ms) 1)).0 e in
    let range = (and-eq-true_iff (leb 1 ms) (leb ms 128)).0 both.0 in
    (leb-true 1 ms range.0, leb-true ms 128 range.1, eqb-true (ones ms) 1 both.1)

pub outside_not_good : (ms : ℕ) → (ms < 1) ⊎ (128 < ms) → good_ms ms ≡ false
unfolding good_ms
outside_not_good ms out = rw (within_not 1 128 ms out)

pub bits_not_good : (ms : ℕ) → 1 ≤ ms → ms ≤ 128 → (ones ms ≡ 1 → ⊥) → good_ms ms ≡ false
unfolding good_ms
bits_not_good ms h l n = rw (within_yes 1 128 ms (h, l), ne_eqb (ones ms) 1 n)

pub code_given : (ms : ℕ) → good_ms ms ≡ true → code_of ms ≡ Some (count_trailing_zeros 64 ms)
unfolding code_of
code_given ms e = rw e

pub code_refused : (ms : ℕ) → good_ms ms ≡ false → code_of ms ≡ None
unfolding code_of
code_refused ms e = rw e

pub code_was : (ms code : ℕ) → code_of ms ≡ Some code → (good_ms ms ≡ true) × (count_trailing_zeros 64 ms ≡ code)
unfolding code_of
code_was ms code e = pick_gave (good_ms ms) (count_trailing_zeros 64 ms) code e

-- ---- the two give each other back
-- 2 ^ k is good, and k zeros stand below its bit
power_good : ℕ → Bool
power_good k = good_ms (2 ^ k) && eqb (count_trailing_zeros 64 (2 ^ k)) k

powers_good : T (every power_good 8)
unfolding ones count_trailing_zeros good_ms power_good
powers_good = tt

pub code_back : (code ms : ℕ) → ms_of code ≡ Some ms → code_of ms ≡ Some code
unfolding power_good
code_back code ms e =
    let was = ms_was code ms e in
    let t = at power_good 8 powers_good code was.0 in
    let good = good_ms (2 ^ code) in
    let zeros = eqb (count_trailing_zeros 64 (2 ^ code)) code in
    rw (← was.1)
    (code_given (2 ^ code) (is_true good (left good zeros t)) ∙ ap Some (eqb→eq (count_trailing_zeros 64 (2 ^ code)) code (right good zeros t)))

-- a good gap is 2 to the count of zeros below its bit, which is below 8
good_power : ℕ → Bool
good_power ms = not (good_ms ms) || (ltb (count_trailing_zeros 64 ms) 8 && eqb (2 ^ count_trailing_zeros 64 ms) ms)

all_powers : T (every good_power 129)
unfolding ones count_trailing_zeros good_ms good_power
all_powers = tt

pub ms_back : (ms code : ℕ) → code_of ms ≡ Some code → ms_of code ≡ Some ms
unfolding good_power
ms_back ms code e =
    let was = code_was ms code e in
    let z = count_trailing_zeros 64 ms in
    let small = ltb z 8 in
    let same = eqb (2 ^ z) ms in
    let good = subst T (sym was.0) tt in
    let t = implied (good_ms ms) (small && same) (at good_power 129 all_powers ms (omega (arith, good_was ms was.0))) good in
    rw (← was.1) (ms_given z (ltb-true z 8 (is_true small (left small same t))) ∙ ap Some (eqb→eq (2 ^ z) ms (right small same t)))

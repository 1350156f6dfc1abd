-- One digit of a number: what is written is read, and no other digit changes, as the digits above and below are kept apart by a power of 2.
-- Assumes nothing.
use mathlib.Core.Path.{◌≡◌, sym, ap, ◌∙◌, subst}
use Prim.Native.Nat.{ℕ, suc, ◌+◌, ◌-◌, ◌*◌, ◌/◌, ◌%◌, ◌^◌, ◌<◌}
use native.Mathlib.Nat.{mod-lt}
use native.Mathlib.Omega.{arith}
use lib.Arith.{digits_lt}
use lib.Pow.{pow_pos, pow-add, high, low, shr-shr, shr_lt, field, mod-mod-pow}
use Rattle.bits.specs.Bits.{digit, with_digit}

-- the upper digits, and the lower
upper : (x p b : ℕ) → with_digit x p b / 2 ^ p ≡ x / 2 ^ p / 2 * 2 + b
unfolding with_digit
upper x p b = high (x / 2 ^ p / 2 * 2 + b) p (mod-lt x (pow_pos p))

lower : (x p b : ℕ) → with_digit x p b % 2 ^ p ≡ x % 2 ^ p
unfolding with_digit
lower x p b = low (x / 2 ^ p / 2 * 2 + b) p (mod-lt x (pow_pos p))

pub digit_same : (x p b : ℕ) → b < 2 → digit (with_digit x p b) p ≡ b
unfolding digit
digit_same x p b h = rw (upper x p b) (omega arith)

-- a digit below p is one of the p lower digits, and one above p is one of those above p
in_lower : (n p q : ℕ) → q < p → digit (n % 2 ^ p) q ≡ digit n q
unfolding digit
in_lower n p q h =
    let j = p - suc q in
    let e : j + 1 + q ≡ p = omega arith in
    subst (λ (m : ℕ). digit (n % 2 ^ m) q ≡ digit n q) e (rw (field n (j + 1) q) (mod-mod-pow (n / 2 ^ q) j 1))

in_upper : (n p q : ℕ) → p < q → n / 2 ^ p / 2 / 2 ^ (q - suc p) ≡ n / 2 ^ q
in_upper n p q h =
    let e : p + 1 + (q - suc p) ≡ q = omega arith in
    ap (λ (m : ℕ). m / 2 ^ (q - suc p)) (shr-shr n p 1) ∙ shr-shr n (p + 1) (q - suc p) ∙ ap (λ (m : ℕ). n / 2 ^ m) e

pub digit_below : (x p b q : ℕ) → q < p → digit (with_digit x p b) q ≡ digit x q
digit_below x p b q h = sym (in_lower (with_digit x p b) p q h) ∙ ap (λ (y : ℕ). digit y q) (lower x p b) ∙ in_lower x p q h

pub digit_above : (x p b q : ℕ) → b < 2 → p < q → digit (with_digit x p b) q ≡ digit x q
unfolding digit
digit_above x p b q hb h =
    let u = upper x p b in
    let e : with_digit x p b / 2 ^ p / 2 ≡ x / 2 ^ p / 2 = omega arith in
    rw (← in_upper (with_digit x p b) p q h, e, in_upper x p q h)

pub digit_lt : (n x p b : ℕ) → b < 2 → p < n → x < 2 ^ n → with_digit x p b < 2 ^ n
unfolding with_digit
digit_lt n x p b hb hp hx =
    let e : n - suc p + 1 + p ≡ n = omega arith in
    let high_lt : x / 2 ^ p < 2 ^ (n - suc p + 1) = shr_lt (n - suc p + 1) p (rw e hx) in
    let new-lt : x / 2 ^ p / 2 * 2 + b < 2 ^ (n - suc p + 1) = omega (arith, pow-add 2 (n - suc p) 1) in
    subst (λ (m : ℕ). with_digit x p b < m) (sym (pow-add 2 (n - suc p + 1) p) ∙ ap (λ (m : ℕ). 2 ^ m) e) (digits_lt new-lt (mod-lt x (pow_pos p)))

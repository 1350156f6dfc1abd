-- The digits that io's contract names, the fewest that hold a number, are those that division by ten gives; there are at most twenty,
-- they are digits alone, and they spell the number.
-- Assumes nothing.
use Prim.Native.Nat.{ℕ, zero, suc, ◌+◌, ◌-◌, ◌*◌, ◌/◌, ◌%◌, ◌^◌, ◌≤◌, ◌<◌}
use mathlib.Core.Path.{◌≡◌, refl, sym, ◌∙◌}
use mathlib.Core.Bool.{Bool, true, false, ◌&&◌, false≢true}
use mathlib.Core.List.{List, [], ◌∷◌, ◌++◌}
use native.Mathlib.Omega.{arith}
use native.Mathlib.Nat.{lt_of_not-le, mod-eq_of_lt, pow-suc, div-lt_iff_lt-mul, le-div_iff_mul-le, one-le-pow, pow-le-pow_right}
use native.Mathlib.Decide.{dec_le, dec_lt}
use borrow.Author.Tests.{lt-ltb, le-ltb, ltb-true, leb-true}
use lib.Dec.{leb, ltb}
use lib.ListN.{length, take, length-append}
use Rattle.base.specs.Pick.{pick}
use Rattle.base.proofs.Tests.{within_yes}
use Rattle.io.specs.Digits.{hex_digit_ascii, last_digits, IsDigitCount}
use Rattle.text.specs.Text.{decimal_in, decimal, spells, SpellsBack, all, digit, DigitsAlone}

glyph_digit : (n : ℕ) → hex_digit_ascii (n % 10) ≡ 48 + n % 10
glyph_digit n = rw (lt-ltb (n % 10) 10 (omega arith))

-- a number of two digits or more has one more than its tenth
least_of_more : (k n : ℕ) → IsDigitCount 10 1 n (suc (suc k)) → 10 ^ suc k ≤ n
least_of_more k n f = let e : suc (suc k) - 1 ≡ suc k = omega arith in rw e at (f.2 (omega arith))

tenth_fewest : (k n : ℕ) → IsDigitCount 10 1 n (suc (suc k)) → IsDigitCount 10 1 (n / 10) (suc k)
tenth_fewest k n f =
    let e : suc k - 1 ≡ k = omega arith in (
      omega arith,
      (div-lt_iff_lt-mul {k = 10} (omega arith)).1 (rw (pow-suc 10 (suc k)) at f.1),
      λ h. (le-div_iff_mul-le {k = 10} (omega arith)).1 (rw (e, ← pow-suc 10 k) (least_of_more k n f)),
    )

decimal_digits : (most k n : ℕ) → k ≤ most → IsDigitCount 10 1 n k → decimal_in most n ≡ last_digits 10 k n
unfolding decimal_in
decimal_digits most zero n h f = absurd (omega (arith, f.0))
decimal_digits zero (suc k) n h f = absurd (omega arith)
decimal_digits (suc most) (suc zero) n h f =
    let small : n < 10 = f.1 in
    rw (lt-ltb n 10 small, glyph_digit n, mod-eq_of_lt small)
decimal_digits (suc most) (suc (suc k)) n h f =
    let large : 10 ≤ n = omega (arith, rw (pow-suc 10 k) at (least_of_more k n f), one-le-pow k 10 (omega arith)) in
    rw (le-ltb n 10 large, decimal_digits most (suc k) (n / 10) (omega arith) (tenth_fewest k n f), glyph_digit n)

fewest_most : (n k : ℕ) → n < 2 ^ 64 → IsDigitCount 10 1 n k → k ≤ 20
fewest_most n k h f = go (dec_le k 20)
  where
    go : Dec (k ≤ 20) → k ≤ 20
    go (yes p) = p
    go (no p) =
        let more : 20 < k = lt_of_not-le p in
        absurd (omega (arith, f.2 (omega arith), pow-le-pow_right {n = 10} (omega arith) {i = 20} {j = k - 1} (omega arith)))

-- what io's contract says of the bytes at the start of a list
pub decimal_spelled : (n k : ℕ) (out : List ℕ) → n < 2 ^ 64 → IsDigitCount 10 1 n k → take k out ≡ last_digits 10 k n → decimal n ≡ take k out
unfolding decimal
decimal_spelled n k out h f e = decimal_digits 20 k n (fewest_most n k h f) f ∙ sym e

longest : (most n : ℕ) (t : Bool) → length (decimal_in most (n / 10)) ≤ most → length (pick t ((48 + n) ∷ []) (decimal_in most (n / 10) ++ ((48 + n % 10) ∷ []))) ≤ suc most
longest most n true h = omega arith
longest most n false h = rw length-append (omega arith)

length_decimal_in : (most n : ℕ) → length (decimal_in most n) ≤ most
unfolding decimal_in
length_decimal_in zero n = omega arith
length_decimal_in (suc most) n = longest most n (ltb n 10) (length_decimal_in most (n / 10))

pub length_decimal : (n : ℕ) → length (decimal n) ≤ 20
unfolding decimal
length_decimal n = length_decimal_in 20 n

spells_more : (v : ℕ) (bs : List ℕ) (b : ℕ) → spells v (bs ++ (b ∷ [])) ≡ spells v bs * 10 + (b - 48)
unfolding spells
spells_more v [] b = refl
spells_more v (c ∷ bs) b = spells_more (v * 10 + (c - 48)) bs b

spells_back_in : (most n : ℕ) → n < 10 ^ most → spells 0 (decimal_in most n) ≡ n
unfolding decimal_in spells
spells_back_in zero n h = omega arith
spells_back_in (suc most) n h = go (dec_lt n 10) (spells_back_in most (n / 10))
  where
    go : Dec (n < 10) → (n / 10 < 10 ^ most → spells 0 (decimal_in most (n / 10)) ≡ n / 10) → spells 0 (decimal_in (suc most) n) ≡ n
    go (yes small) tenth = rw (lt-ltb n 10 small) (omega arith)
    go (no large) tenth =
        let less = (div-lt_iff_lt-mul {k = 10} (omega arith)).1 (rw (pow-suc 10 most) at h) in
        rw (le-ltb n 10 (omega (arith, lt_of_not-le large)), spells_more 0 (decimal_in most (n / 10)) (48 + n % 10), tenth less) (omega arith)

pub spells_back : SpellsBack
unfolding decimal
spells_back n h = spells_back_in 20 n (omega arith)

pub spells_none : (v : ℕ) → spells v [] ≡ v
unfolding spells
spells_none v = refl

pub spells_next : (v b : ℕ) (bs : List ℕ) → spells v (b ∷ bs) ≡ spells (v * 10 + (b - 48)) bs
unfolding spells
spells_next v b bs = refl

-- ---- digits alone
pub digit_yes : (b : ℕ) → (48 ≤ b) × (b ≤ 57) → digit b ≡ true
unfolding digit
digit_yes b h = within_yes 48 57 b h

pub digit_was : (b : ℕ) → digit b ≡ true → (48 ≤ b) × (b ≤ 57)
unfolding digit
digit_was b e = go (leb 48 b) (leb b 57) (leb-true 48 b) (leb-true b 57) e
  where
    go : (s t : Bool) → (s ≡ true → 48 ≤ b) → (t ≡ true → b ≤ 57) → s && t ≡ true → (48 ≤ b) × (b ≤ 57)
    go true t f g k = (f refl, g k)
    go false t f g k = absurd (false≢true k)

pub all_none : (p : ℕ → Bool) → all p [] ≡ true
unfolding all
all_none p = refl

pub all_next : (p : ℕ → Bool) (b : ℕ) (bs : List ℕ) → all p (b ∷ bs) ≡ p b && all p bs
unfolding all
all_next p b bs = refl

pub all_append : (p : ℕ → Bool) (xs ys : List ℕ) → all p xs ≡ true → all p ys ≡ true → all p (xs ++ ys) ≡ true
unfolding all
all_append p [] ys h k = k
all_append p (x ∷ xs) ys h k = both (p x) (all p xs) (all p (xs ++ ys)) h (λ t. all_append p xs ys t k)
  where
    both : (a b c : Bool) → a && b ≡ true → (b ≡ true → c ≡ true) → a && c ≡ true
    both true b c t f = f t
    both false b c t f = t

digits_picked : (most n : ℕ) (t : Bool) → (t ≡ true → n < 10) → all digit (decimal_in most (n / 10)) ≡ true
    → all digit (pick t ((48 + n) ∷ []) (decimal_in most (n / 10) ++ ((48 + n % 10) ∷ []))) ≡ true
unfolding all
digits_picked most n true h k = rw (digit_yes (48 + n) (omega (arith, h refl)))
digits_picked most n false h k = all_append digit (decimal_in most (n / 10)) _ k (rw (digit_yes (48 + n % 10) (omega arith)))

digits_in : (most n : ℕ) → all digit (decimal_in most n) ≡ true
unfolding decimal_in all
digits_in zero n = refl
digits_in (suc most) n = digits_picked most n (ltb n 10) (ltb-true n 10) (digits_in most (n / 10))

some_digit : (n : ℕ) (t : Bool) (xs : List ℕ) → 0 < length (pick t ((48 + n) ∷ []) (xs ++ ((48 + n % 10) ∷ [])))
some_digit n true xs = omega arith
some_digit n false xs = rw length-append (omega arith)

pub digits_alone : DigitsAlone
unfolding decimal decimal_in
digits_alone n = (some_digit n (ltb n 10) (decimal_in 19 (n / 10)), digits_in 20 n)

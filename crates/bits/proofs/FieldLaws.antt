-- Fields, from the last bit on: what is written is read, and nothing else changes.
-- Assumes nothing.
use mathlib.Core.Path.{◌≡◌, refl, ap₂, ◌∙◌}
use mathlib.Core.List.{List}
use Prim.Native.Nat.{ℕ, zero, suc, ◌+◌, ◌-◌, ◌*◌, ◌/◌, ◌%◌, ◌^◌, ◌≤◌, ◌<◌}
use native.Mathlib.Nat.{pow-suc}
use native.Mathlib.Decide.{ℕ_discrete}
use native.Mathlib.Numerals.{add-one}
use native.Mathlib.Omega.{arith}
use lib.ListN.{length}
use lib.Pow.{shr-shr}
use Rattle.bits.specs.Bits.{Bytes, bit_at, put_bit, field_at, put_at}
use Rattle.bits.proofs.BitLaws.{bit_lt, length_bit, bit_same, bit_other, bytes_bit}

-- ---- what a field is
pub field_lt : (s : List ℕ) (a w : ℕ) → field_at s a w < 2 ^ w
unfolding field_at
field_lt s a zero = omega arith
field_lt s a (suc w) = omega (arith, field_lt s a w, bit_lt s (a + w), pow-suc 2 w)

-- a field goes by its bits alone, wherever it stands
pub field_moved : (s t : List ℕ) (a b w : ℕ) → ((i : ℕ) → i < w → bit_at s (a + i) ≡ bit_at t (b + i)) → field_at s a w ≡ field_at t b w
unfolding field_at
field_moved s t a b zero h = refl
field_moved s t a b (suc w) h = ap₂ (λ (f d : ℕ). f * 2 + d) (field_moved s t a b w (λ i l. h i (omega arith))) (h w (omega arith))

pub field_by_bits : (s t : List ℕ) (a w : ℕ) → ((i : ℕ) → a ≤ i → i < a + w → bit_at s i ≡ bit_at t i) → field_at s a w ≡ field_at t a w
field_by_bits s t a w h = field_moved s t a a w (λ i l. h (a + i) (omega arith) (omega arith))

-- ---- what a write leaves
pub length_put : (s : List ℕ) (a w v : ℕ) → length (put_at s a w v) ≡ length s
unfolding put_at
length_put s a zero v = refl
length_put s a (suc w) v = length_bit (put_at s a w (v / 2)) (a + w) (v % 2) ∙ length_put s a w (v / 2)

pub bytes_put : (s : List ℕ) (a w v : ℕ) → a + w ≤ 8 * length s → Bytes s → Bytes (put_at s a w v)
unfolding put_at
bytes_put s a zero v h bs = bs
bytes_put s a (suc w) v h bs =
    let n = length_put s a w (v / 2) in
    bytes_bit (put_at s a w (v / 2)) (a + w) (v % 2) (omega arith) (omega arith) (bytes_put s a w (v / 2) (omega arith) bs)

-- a bit outside the field is as it was
pub bit_outside : (s : List ℕ) (a w v i : ℕ) → a + w ≤ 8 * length s → (a ≤ i → i < a + w → ⊥) → bit_at (put_at s a w v) i ≡ bit_at s i
unfolding put_at
bit_outside s a zero v i h out = refl
bit_outside s a (suc w) v i h out =
    let l = length_put s a w (v / 2) in
    bit_other (put_at s a w (v / 2)) (a + w) (v % 2) (omega arith) (omega arith) i (λ e. out (omega arith) (omega arith))
    ∙ bit_outside s a w (v / 2) i (omega arith) (λ p q. out p (omega arith))

-- ---- reads and writes
-- what is written is read
pub field_same : (s : List ℕ) (a w v : ℕ) → a + w ≤ 8 * length s → v < 2 ^ w → field_at (put_at s a w v) a w ≡ v
unfolding put_at field_at
field_same s a zero v h l = omega arith
field_same s a (suc w) v h l =
    let t = put_at s a w (v / 2) in
    let n = length_put s a w (v / 2) in
    let room : a + w < 8 * length t = omega arith in
    let rest = field_by_bits (put_bit t (a + w) (v % 2)) t a w (λ i p q. bit_other t (a + w) (v % 2) room (omega arith) i (omega arith)) in
    let last = bit_same t (a + w) (v % 2) room (omega arith) in
    let first = field_same s a w (v / 2) (omega arith) (omega (arith, pow-suc 2 w)) in
    omega (arith, rest, last, first)

-- a bit of a field that was read from another list is that list's
pub bit_carried : (z t : List ℕ) (a w i : ℕ) → a + w ≤ 8 * length z → a ≤ i → i < a + w → bit_at (put_at z a w (field_at t a w)) i ≡ bit_at t i
unfolding put_at field_at
bit_carried z t a zero i h l m = absurd (omega arith)
bit_carried z t a (suc w) i h l m =
    let b = bit_lt t (a + w) in
    let f = field_at t a w in
    let high : (f * 2 + bit_at t (a + w)) / 2 ≡ f = omega arith in
    let low : (f * 2 + bit_at t (a + w)) % 2 ≡ bit_at t (a + w) = omega arith in
    rw (high, low) (go (bit_carried z t a w i (omega arith) l) (ℕ_discrete i (a + w)))
  where
    s : List ℕ
    s = put_at z a w (field_at t a w)

    room : a + w < 8 * length s
    room = omega (arith, length_put z a w (field_at t a w))

    go : (i < a + w → bit_at s i ≡ bit_at t i) → Dec (i ≡ a + w) → bit_at (put_bit s (a + w) (bit_at t (a + w))) i ≡ bit_at t i
    go rest (yes e) = rw e (bit_same s (a + w) (bit_at t (a + w)) room (bit_lt t (a + w)))
    go rest (no d) = bit_other s (a + w) (bit_at t (a + w)) room (bit_lt t (a + w)) i d ∙ rest (omega arith)

-- a turn of the writer: the first i bits of a field of w bits, and then the next
pub put_step : (s : List ℕ) (a v w i : ℕ) → i < w
    → put_at s a (i + 1) (v / 2 ^ (w - (i + 1))) ≡ put_bit (put_at s a i (v / 2 ^ (w - i))) (a + i) (v / 2 ^ (w - 1 - i) % 2)
unfolding put_at
put_step s a v w i h =
    let e : w - (i + 1) ≡ w - 1 - i = omega arith in
    let f : w - 1 - i + 1 ≡ w - i = omega arith in
    rw (e, add-one i, shr-shr v (w - 1 - i) 1, f)

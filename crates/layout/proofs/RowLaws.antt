-- A row of numbers, place by place: each number is converted by its own field, and zeros past the end of a row change nothing.
-- Assumes nothing.
use mathlib.Core.Path.{◌≡◌, refl, sym, ap, ◌∙◌}
use mathlib.Core.List.{List, [], ◌∷◌, ◌++◌}
use Prim.Native.Nat.{ℕ, zero, suc, ◌+◌, ◌-◌, ◌≤◌, ◌<◌}
use native.Mathlib.Nat.{not-suc-le-zero, le_of_suc-le-suc}
use native.Mathlib.Decide.{dec_le}
use native.Mathlib.Numerals.{add-one}
use native.Mathlib.Omega.{arith}
use lib.ListN.{length, get_or, take, set, replicate, length-append, length-replicate, replicate-append-replicate}
use lib.Seq.{ext_get_or, set_at, append_snoc, take-suc, length-take-le, take-append_seam}
use Rattle.std.proofs.lemmas.List.{take_all, set-get_or}
use Rattle.layout.specs.declared.Shape.{Shape}
use Rattle.layout.specs.declared.Way.{Way}
use Rattle.layout.specs.Layout.{blank}
use Rattle.layout.specs.Fields.{convert}
use Rattle.base.specs.Tests.{number_or0}
use Rattle.layout.specs.Promises.{wide}
use Rattle.layout.specs.Rows.{converted}

-- ---- the numbers converted, one by one
pub length_converted : (way : Way) (ss : List Shape) (row : List ℕ) → length (converted way ss row) ≡ length ss
unfolding converted
length_converted way [] row = refl
length_converted way (s ∷ ss) [] = ap suc (length_converted way ss [])
length_converted way (s ∷ ss) (n ∷ row) = ap suc (length_converted way ss row)

pub converted_at : (way : Way) (ss : List Shape) (row : List ℕ) (k : ℕ) → k < length ss
    → get_or (converted way ss row) k 0 ≡ number_or0 (convert way (get_or ss k blank) (get_or row k 0))
unfolding converted
converted_at way [] row k h = absurd (not-suc-le-zero h)
converted_at way (s ∷ ss) [] zero h = refl
converted_at way (s ∷ ss) [] (suc k) h = converted_at way ss [] k (le_of_suc-le-suc h)
converted_at way (s ∷ ss) (n ∷ row) zero h = refl
converted_at way (s ∷ ss) (n ∷ row) (suc k) h = converted_at way ss row k (le_of_suc-le-suc h)

-- rows that agree at each place are converted alike
pub converted_same : (way : Way) (ss : List Shape) (row row' : List ℕ) → ((k : ℕ) → get_or row k 0 ≡ get_or row' k 0) → converted way ss row ≡ converted way ss row'
converted_same way ss row row' same =
    ext_get_or 0 (converted way ss row) (converted way ss row')
    (length_converted way ss row ∙ sym (length_converted way ss row'))
    (λ k h.
    let low = rw (length_converted way ss row) at h in
    converted_at way ss row k low
    ∙ ap (λ (n : ℕ). number_or0 (convert way (get_or ss k blank) n)) (same k)
    ∙ sym (converted_at way ss row' k low))

-- ---- zeros past the end
pub zero_at : (m k : ℕ) → get_or {A = ℕ} (replicate m 0) k 0 ≡ 0
zero_at zero k = refl
zero_at (suc m) zero = refl
zero_at (suc m) (suc k) = zero_at m k

zeros_after : (row : List ℕ) (m k : ℕ) → get_or (row ++ replicate m 0) k 0 ≡ get_or row k 0
zeros_after [] m k = zero_at m k
zeros_after (n ∷ row) m zero = refl
zeros_after (n ∷ row) m (suc k) = zeros_after row m k

pub wide_at : (row : List ℕ) (k : ℕ) → get_or (wide row) k 0 ≡ get_or row k 0
unfolding wide
wide_at row k = zeros_after row (11 - length row) k

pub length_wide : (row : List ℕ) → length row ≤ 11 → length (wide row) ≡ 11
unfolding wide
length_wide row h = omega (arith, length-append row (replicate (11 - length row) 0), length-replicate {A = ℕ} (11 - length row) 0)

pub take_wide : (row : List ℕ) → take (length row) (wide row) ≡ row
unfolding wide
take_wide row = take-append_seam row (replicate (11 - length row) 0)

pub converted_wide : (way : Way) (ss : List Shape) (row : List ℕ) → converted way ss (wide row) ≡ converted way ss row
converted_wide way ss row = converted_same way ss (wide row) row (wide_at row)

pub wide_zeros : (n : ℕ) → n ≤ 11 → wide (replicate n 0) ≡ replicate 11 0
unfolding wide
wide_zeros n h =
    let e : n + (11 - n) ≡ 11 = omega arith in
    rw (length-replicate {A = ℕ} n 0) (replicate-append-replicate n (11 - n) 0 ∙ ap (λ (m : ℕ). replicate m 0) e)

-- ---- an array filled number by number
pub wide_start : (row : List ℕ) → wide (take 0 row) ≡ replicate 11 0
unfolding wide
wide_start row = refl

pub wide_more : (row : List ℕ) (k : ℕ) → length row ≤ 11 → k < length row → set (wide (take k row)) k (get_or row k 0) ≡ wide (take (k + 1) row)
unfolding wide
wide_more row k h l =
    let n = length-take-le k row (omega arith) in
    let left : 11 - k ≡ suc (11 - suc k) = omega arith in
    let n' : length (take k row ++ (get_or row k 0 ∷ [])) ≡ suc k = omega (arith, length-append (take k row) (get_or row k 0 ∷ [])) in
    rw (add-one k, take-suc row k 0 l, n, n', left)
    (set_at (take k row) 0 (replicate (11 - suc k) 0) (get_or row k 0) k n
    ∙ sym (append_snoc (take k row) (get_or row k 0) (replicate (11 - suc k) 0)))

-- the same of any place: past the row's end a zero is put where a zero stands
past_end : (row : List ℕ) (k : ℕ) → length row ≤ k → set (wide (take k row)) k (get_or row k 0) ≡ wide (take (k + 1) row)
past_end row k h =
    rw (take_all k row h, take_all (k + 1) row (omega arith))
    (ap (set (wide row) k) (sym (wide_at row k)) ∙ set-get_or (wide row) k 0)

pub wide_next : (row : List ℕ) (k : ℕ) → length row ≤ 11 → set (wide (take k row)) k (get_or row k 0) ≡ wide (take (k + 1) row)
wide_next row k h = elim (dec_le (length row) k) [
  | yes past ↦ past_end row k past
  | no inside ↦ wide_more row k h (omega arith)
]

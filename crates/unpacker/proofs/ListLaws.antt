-- The lists that the unpacker fills: numbers put behind those that a lent list has, and so the records of a section, one more at a time.
-- Assumes nothing.
use mathlib.Core.Path.{◌≡◌, sym, ap, ◌∙◌}
use mathlib.Core.List.{List, [], ◌++◌, append_assoc}
use Prim.Native.Nat.{ℕ, ◌+◌, ◌-◌, ◌*◌, ◌/◌, ◌≤◌, ◌<◌, min}
use mathlib.Core.Logic.{◌⊎◌}
use native.Mathlib.Nat.{le-div_iff_mul-le}
use native.Mathlib.Numerals.{add-one}
use native.Mathlib.Omega.{arith}
use borrow.Rule.Slice.PartMut.{put_mid}
use lib.ListN.{length, get_or, set, take, drop, replicate, length-append, length-replicate}
use lib.Seq.{length-take-le, take-append_seam, drop-append_seam}
use Rattle.std.proofs.lemmas.List.{take_more, drop-replicate}
use Rattle.base.proofs.Tests.{within_yes, within_not}
use Rattle.layout.specs.Rows.{listed}
use Rattle.table.specs.Sections.{record_of, records, lent}
use Rattle.table.proofs.LentLaws.{lent_none, lent_more}
use Rattle.table.proofs.SectionLaws.{length_records}
use Rattle.unpacker.specs.Unpacking.{fitting_in, fitting}
use Rattle.unpacker.proofs.RowLaws.{length_record}

pub cleared_length : (out : List ℕ) (n : ℕ) → out ≡ replicate n 0 → length out ≡ n
cleared_length out n e = ap length e ∙ length-replicate n 0

-- numbers put behind those that a lent list has
pub lent_behind : (n a k : ℕ) (xs ys : List ℕ) → length xs ≡ a → length ys ≡ k → a + k ≤ n
    → put_mid a k (lent n xs) ys ≡ lent n (xs ++ ys)
unfolding lent
lent_behind n a k xs ys e f h =
    let zeros = replicate {A = ℕ} (n - length xs) 0 in
    let front : take a (xs ++ zeros) ≡ xs = rw (← e) (take-append_seam xs zeros) in
    let behind : drop a (xs ++ zeros) ≡ zeros = rw (← e) (drop-append_seam xs zeros) in
    let left : n - length xs - k ≡ n - length (xs ++ ys) = omega (arith, length-append xs ys) in
    let rest : drop k zeros ≡ replicate (n - length (xs ++ ys)) 0 = drop-replicate k (n - length xs) 0 ∙ ap (λ (m : ℕ). replicate m 0) left in
    rw (front, behind, rest) (sym (append_assoc xs ys _))

pub no_numbers : (n m : ℕ) (out : List ℕ) → out ≡ replicate n 0 → m ≡ n → out ≡ lent m []
no_numbers n m out e f = e ∙ sym (rw f (lent_none n))

pub number_more : (n k : ℕ) (list out : List ℕ) → out ≡ lent n (take k list) → k < length list → k < n
    → set out k (get_or list k 0) ≡ lent n (take (k + 1) list)
number_more n k list out e l h =
    rw (e, take_more list k 0 l) (lent_more n (take k list) k (get_or list k 0) (length-take-le k list (omega arith)) h)

-- ---- the records of a section
pub no_records : (bytes : List ℕ) (s n m : ℕ) (out : List ℕ) → out ≡ replicate n 0 → m ≡ n → out ≡ lent m (records bytes s 0)
unfolding records
no_records bytes s = no_numbers

pub record_more : (bytes : List ℕ) (s i n a k : ℕ) (out ys : List ℕ) → out ≡ lent n (records bytes s i) → ys ≡ record_of bytes s i
    → a ≡ i * listed s → k ≡ listed s → (i + 1) * listed s ≤ n → put_mid a k out ys ≡ lent n (records bytes s (i + 1))
unfolding records
record_more bytes s i n a k out ys e f g h room =
    let long : length (record_of bytes s i) ≡ k = length_record bytes s i ∙ sym h in
    rw (e, f, add-one i)
    (lent_behind n a k (records bytes s i) (record_of bytes s i) (length_records bytes s i ∙ sym g) long (omega arith))

-- of as many records as a list has room for, each has its place
pub place_fits : (i count room n r : ℕ) → 0 < n → r ≡ min count (room / n) → i < r → (i + 1) * n ≤ room
place_fits i count room n r some e h =
    let least : i + 1 ≤ room / n = omega arith in
    (le-div_iff_mul-le {k = n} some).0 least

-- ---- a section by itself
module _ (bytes : List ℕ) (s n : ℕ) where
  pub fitting_within : 1 ≤ s → s ≤ 5 → fitting_in bytes s n ≡ fitting bytes s n
  unfolding fitting
  fitting_within low high = rw (within_yes 1 5 s (low, high))

  -- there is none
  pub nothing_fits : (out : List ℕ) → (s < 1) ⊎ (5 < s) → out ≡ replicate n 0 → out ≡ lent n (records bytes s (fitting bytes s n))
  unfolding fitting records
  nothing_fits out h e = rw (within_not 1 5 s h) (e ∙ sym (lent_none n))

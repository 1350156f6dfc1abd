-- A section of records: how many rows it has, what each means, where its numbers stand in the list, and the bytes that all take.
-- Assumes nothing.
use mathlib.Core.Path.{◌≡◌, refl, ap, ◌∙◌}
use Prim.Native.Nat.{ℕ, zero, suc, ◌+◌, ◌-◌, ◌*◌, ◌/◌, ◌^◌, ◌≤◌, ◌<◌}
use native.Mathlib.Nat.{le_refl, le-div_iff_mul-le, mul-le-mul}
use native.Mathlib.Omega.{arith}
use lib.ListN.{length, drop, length-drop}
use lib.Seq.{length-take-le}
use Rattle.layout.specs.declared.Way.TheVariants.{Writing}
use Rattle.layout.specs.Layout.{layout, size}
use Rattle.layout.specs.Promises.{wide}
use Rattle.layout.specs.Rows.{listed, row_fault}
use Rattle.layout.proofs.FaultLaws.{fault_wide}
use Rattle.layout.proofs.LayoutLaws.{few_fields, listed_fields, listed_same, listed_some, size_most, size_numbers}
use Rattle.layout.proofs.WideLaws.{wide_padded}
use Rattle.table.specs.Lists.{Lists, list_for, records_in, record_at, version_for, kind_for}
use Rattle.table.specs.Write.{meant_row, count, meant, numbers_in}
use Rattle.writer.specs.Writing.{HasRow}

-- ---- the sections behind the header
pub numbers_record : (s : ℕ) → 0 < s → numbers_in s ≡ listed s
unfolding numbers_in
numbers_record zero h = absurd (omega arith)
numbers_record (suc s) h = refl

module _ (ls : Lists) where
  pub count_records : (s : ℕ) → 0 < s → count ls s ≡ records_in ls s
  unfolding count
  count_records zero h = absurd (omega arith)
  count_records (suc s) h = refl

  pub meant_record : (s i : ℕ) → 0 < s → meant ls s i ≡ meant_row ls s i
  unfolding meant
  meant_record zero i h = absurd (omega arith)
  meant_record (suc s) i h = refl

  pub count_by_length : (s : ℕ) → 0 < s → count ls s ≡ length (list_for ls s) / listed s
  unfolding records_in
  count_by_length s h = count_records s h

  -- the fault of a record, of the array that holds it
  pub fault_record : (s i : ℕ) → 0 < s
      → row_fault Writing (kind_for ls s) (wide (meant ls s i)) ≡ row_fault Writing (kind_for ls s) (meant_row ls s i)
  fault_record s i h =
      fault_wide Writing (kind_for ls s) (meant ls s i) ∙ ap (row_fault Writing (kind_for ls s)) (meant_record s i h)

  -- there are so few numbers that the bytes can be counted
  pub bytes_few : (s : ℕ) → count ls s * numbers_in s ≤ 2 ^ 60 → count ls s * size (kind_for ls s) ≤ 2 ^ 61
  unfolding count numbers_in
  bytes_few zero h = omega (arith, size_most (kind_for ls 0))
  bytes_few (suc s) h =
      omega (arith, mul-le-mul (le_refl (records_in ls (suc s))) (size_numbers (kind_for ls (suc s))), ap (λ (m : ℕ). records_in ls (suc s) * (2 * m)) (listed_same (version_for ls) (suc s)))

  -- ---- a record of a list
  module _ (s i : ℕ) (behind : 0 < s) (has : HasRow ls s i) where
    -- it ends inside the list
    pub record_inside : i * listed s + listed s ≤ length (list_for ls s)
    record_inside = omega (arith, (le-div_iff_mul-le {k = listed s} (listed_some s has.known)).0 (rw (count_by_length s behind) at has.inside))

    pub length_record : length (record_at ls s i) ≡ listed s
    length_record =
        length-take-le (listed s) (drop (i * listed s) (list_for ls s))
        (omega (arith, record_inside, length-drop (i * listed s) (list_for ls s)))

    -- padding is zero, as an array has it
    pub record_wide : wide (meant_row ls s i) ≡ wide (record_at ls s i)
    unfolding meant_row
    record_wide =
        let k = kind_for ls s in
        wide_padded (record_at ls s i) (length (layout k) - listed s)
        (omega (arith, length_record, few_fields k, (listed_fields k).0, listed_same (version_for ls) s))

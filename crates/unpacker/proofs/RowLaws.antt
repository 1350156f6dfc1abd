-- The rows of a section: where each stands, so that no place overflows, and what its stored numbers mean.
-- Assumes nothing.
use mathlib.Core.Path.{◌≡◌, refl, sym, ap, ◌∙◌}
use mathlib.Core.List.{List}
use Prim.Native.Nat.{ℕ, ◌+◌, ◌*◌, ◌≤◌, ◌<◌}
use native.Mathlib.Omega.{arith}
use lib.ListN.{length, get_or, set, take}
use lib.Seq.{get_or-take, length-take-le}
use Rattle.std.proofs.lemmas.List.{take_more, take_more_set}
use Rattle.base.specs.Tests.{number_or0}
use Rattle.layout.specs.declared.Way.TheVariants.{Reading}
use Rattle.layout.specs.Fields.{convert}
use Rattle.layout.specs.Layout.{layout, blank, size}
use Rattle.layout.specs.Promises.{wide}
use Rattle.layout.specs.Rows.{row_at, converted, listed}
use Rattle.layout.proofs.LayoutLaws.{listed_fields, listed_same}
use Rattle.layout.proofs.RowLaws.{length_converted, converted_at, converted_wide}
use Rattle.table.specs.Sections.{version, kind_in, from, row, record_of}
use Rattle.table.proofs.SectionLaws.{section_most, from_most}

module _ (bytes : List ℕ) (s i : ℕ) where
  pub place_low : s < 6 → i < 4096 → (i * size (kind_in bytes s) ≤ 57344) × (from bytes s ≤ 344064)
  place_low h low = (section_most (kind_in bytes s) i (omega arith), omega (arith, from_most bytes s (omega arith)))

  pub row_is : row_at bytes (8 * (from bytes s + i * size (kind_in bytes s))) (kind_in bytes s) ≡ row bytes s i
  unfolding row
  row_is = refl

  pub length_record : length (record_of bytes s i) ≡ listed s
  unfolding record_of
  length_record =
      let fits = (listed_fields (kind_in bytes s)).0 in
      let numbers = listed_same (version bytes) s in
      length-take-le (listed s) (converted Reading (layout (kind_in bytes s)) (row bytes s i))
      (omega (arith, length_converted Reading (layout (kind_in bytes s)) (row bytes s i)))

  -- number k of the record
  pub number_is : (raw : List ℕ) (k : ℕ) → raw ≡ wide (row bytes s i) → k < listed s
      → number_or0 (convert Reading (get_or (layout (kind_in bytes s)) k blank) (get_or raw k 0)) ≡ get_or (record_of bytes s i) k 0
  unfolding record_of
  number_is raw k e h =
      let meant = converted Reading (layout (kind_in bytes s)) (row bytes s i) in
      let fits = (listed_fields (kind_in bytes s)).0 in
      let numbers = listed_same (version bytes) s in
      let long = length_converted Reading (layout (kind_in bytes s)) (row bytes s i) in
      sym (converted_at Reading (layout (kind_in bytes s)) raw k (omega arith))
      ∙ ap (λ (r : List ℕ). get_or r k 0) (ap (converted Reading (layout (kind_in bytes s))) e ∙ converted_wide Reading (layout (kind_in bytes s)) (row bytes s i))
      ∙ sym (get_or-take (listed s) meant k 0 h)

-- one number more, of a list that has those before it
pub more_alike : (xs ys : List ℕ) (k v : ℕ) → k < length xs → k < length ys → take k xs ≡ take k ys → v ≡ get_or ys k 0
    → take (k + 1) (set xs k v) ≡ take (k + 1) ys
more_alike xs ys k v h l same e = take_more_set xs k v h ∙ rw (same, e) (sym (take_more ys k 0 l))

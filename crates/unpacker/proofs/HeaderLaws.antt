-- What the header row of a table says: the version, the counts, the version and the delays as a list; and that no section begins far behind.
-- Assumes nothing.
use mathlib.Core.Path.{◌≡◌, refl, sym, ap, ◌∙◌}
use mathlib.Core.List.{List, [], ◌∷◌}
use Prim.Native.Nat.{ℕ, zero, suc, ◌+◌, ◌*◌, ◌≤◌, ◌<◌, min}
use native.Mathlib.Numerals.{add-one}
use native.Mathlib.Omega.{arith}
use lib.ListN.{length, get_or, take}
use Rattle.std.proofs.Math.Nat.{min_comm}
use Rattle.std.proofs.lemmas.List.{take_min}
use Rattle.layout.specs.declared.Way.TheVariants.{Reading}
use Rattle.layout.specs.Names.{number_of, index_in}
use Rattle.layout.specs.Layout.{layout_in, layout, size}
use Rattle.layout.specs.Promises.{wide}
use Rattle.layout.specs.Rows.{row_at, named, converted}
use Rattle.layout.proofs.LayoutLaws.{header_size}
use Rattle.layout.proofs.RowLaws.{wide_at, converted_wide}
use Rattle.layout.proofs.SizeLaws.{field_places}
use Rattle.table.specs.Lists.{header_of}
use Rattle.table.specs.Sections.{header_row, version, kind_in, rows, start, from}
use Rattle.table.proofs.SectionLaws.{section_most, rows_few}

-- it is the row of the first 14 bytes, or of all where there are fewer
pub header_front : (bytes : List ℕ) → row_at (take (min (length bytes) 14) bytes) 0 0 ≡ header_row bytes
unfolding header_row
header_front bytes = rw (header_size, min_comm (length bytes) 14, take_min 14 bytes)

module _ (bytes row : List ℕ) (read : row ≡ wide (header_row bytes)) where
  field_read : (k : ℕ) → get_or row k 0 ≡ get_or (header_row bytes) k 0
  field_read k = ap (λ (r : List ℕ). get_or r k 0) read ∙ wide_at (header_row bytes) k

  pub version_read : get_or row 0 0 ≡ version bytes
  unfolding version named
  version_read = field_read 0 ∙ ap (λ (k : ℕ). get_or (header_row bytes) k 0) (sym field_places.version)

  pub count_read : (s : ℕ) → (s ≡ 0 → ⊥) → get_or row s 0 ≡ rows bytes s
  unfolding rows
  count_read zero h = absurd (h refl)
  count_read (suc s) h = field_read (suc s)

  -- the numbers of the converted row stand at their places
  pub list_read : (vs : List ℕ) → vs ≡ wide (converted Reading (layout 0) row)
      → get_or vs 0 0 ∷ get_or vs 6 0 ∷ get_or vs 7 0 ∷ get_or vs 8 0 ∷ get_or vs 9 0 ∷ [] ≡ header_of bytes
  unfolding header_of named index_in number_of layout_in
  list_read vs e =
      let meant = converted Reading (layout 0) (header_row bytes) in
      let same : converted Reading (layout 0) row ≡ meant = ap (converted Reading (layout 0)) read ∙ converted_wide Reading (layout 0) (header_row bytes) in
      let number : (k : ℕ) → get_or vs k 0 ≡ get_or meant k 0 =
      λ k. ap (λ (r : List ℕ). get_or r k 0) (e ∙ ap wide same) ∙ wide_at meant k in
      λ i. number 0 i ∷ number 6 i ∷ number 7 i ∷ number 8 i ∷ number 9 i ∷ []

pub count_0 : (bytes : List ℕ) (s : ℕ) → s ≡ 0 → 1 ≡ rows bytes s
unfolding rows
count_0 bytes s e = rw e

-- ---- sections follow one another
pub start_0 : (bytes : List ℕ) → 0 ≡ from bytes 0
unfolding start
start_0 bytes = refl

module _ (bytes : List ℕ) (s : ℕ) where
  pub bytes_most : s < 6 → rows bytes s * size (kind_in bytes s) ≤ 57344
  bytes_most h = section_most (kind_in bytes s) (rows bytes s) (omega (arith, rows_few bytes s h))

  pub start_more : from bytes s + rows bytes s * size (kind_in bytes s) ≡ from bytes (s + 1)
  unfolding start
  start_more = rw (add-one s)

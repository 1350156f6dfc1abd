-- The header row: its first ten fields are numbers, which are stored as they are: the version, the counts and the delays. So the length that they require is that of a short table.
-- Assumes nothing.
use mathlib.Core.Path.{◌≡◌, refl, sym, ap, ◌∙◌}
use mathlib.Core.List.{List, [], ◌∷◌, map}
use Rattle.std.specs.Prelude.{None}
use Prim.Native.Nat.{ℕ, zero, suc, ◌^◌, ◌≤◌, ◌<◌}
use native.Mathlib.Decide.{dec_lt}
use native.Mathlib.Omega.{arith}
use lib.Dec.{leb, leb→le}
use lib.ListN.{length, get_or, take}
use lib.Seq.{take_all, length-take-le}
use Rattle.base.specs.Tabulate.{tabulate}
use Rattle.base.proofs.Every.{at}
use Rattle.base.proofs.TabulateLaws.{tabulate_rows}
use Rattle.bits.specs.Tables.{Fit}
use Rattle.bits.proofs.PartLaws.{fit_at}
use Rattle.bits.proofs.RecordLaws.{read_part}
use Rattle.layout.specs.declared.Way.{Way}
use Rattle.layout.specs.declared.Way.TheVariants.{Reading, Writing}
use Rattle.layout.specs.Layout.{layout_in, layout, header_names, widths, size}
use Rattle.layout.specs.Names.{number_of, index_in}
use Rattle.layout.specs.Rows.{row_at, named, converted, row_fault}
use Rattle.layout.proofs.LayoutLaws.{header_fields, header_listed, header_kind, length_widths, whole_bytes}
use Rattle.layout.proofs.RowLaws.{length_converted}
use Rattle.layout.proofs.FaultLaws.{faultless}
use Rattle.layout.proofs.BackLaws.{is_number, number_at, same_number}
use Rattle.layout.proofs.RoomLaws.{room_yes, row_there}
use Rattle.table.specs.Sections.{header_row, version, rows, start, from, row}
use Rattle.table.specs.Lists.{Lists, records_in, version_for, header_of, unpacked}
use Rattle.table.specs.Write.{header_for, count}
use Rattle.table.proofs.SectionLaws.{padding_at, start_most, from_most}

-- ---- the numbers
-- either way they stay what they are
pub header_stays : (way : Way) (row : List ℕ) → row_fault way 0 row ≡ None → (k : ℕ) → k < 10 → get_or (converted way (layout 0) row) k 0 ≡ get_or row k 0
unfolding number_at is_number layout_in
header_stays way row e k h = same_number way 0 row (faultless way 0 row e) k (at (number_at (layout 0)) 10 tt k h)

-- so are the counts
pub header_rows : (bytes : List ℕ) → row_fault Reading 0 (header_row bytes) ≡ None → (s : ℕ) → suc s < 6
    → get_or (converted Reading (layout 0) (header_row bytes)) (suc s) 0 ≡ rows bytes (suc s)
unfolding rows
header_rows bytes e s h = header_stays Reading (header_row bytes) e (suc s) (omega arith)

-- and the version, which the lists then have
pub version_meant : (bytes : List ℕ) → row_fault Reading 0 (header_row bytes) ≡ None → version_for (unpacked bytes) ≡ version bytes
unfolding unpacked header_of version named index_in number_of layout_in
version_meant bytes e = header_stays Reading (header_row bytes) e 0 (omega arith)

-- a table of the length that its counts require is short, as they have at most 12 bits
pub header_short : (bytes : List ℕ) → length bytes ≡ from bytes 6 → length bytes ≤ 2 ^ 32
header_short bytes e = omega (arith, from_most bytes 6 (omega arith))

-- in a table that is not too long, the first 14 bytes have the row that the whole table has at its first bit
pub header_at : (bytes : List ℕ) → length bytes ≤ 2 ^ 32 → header_row bytes ≡ row_at bytes 0 0
unfolding header_row
header_at bytes h = go (dec_lt (length bytes) (size 0))
  where
    go : Dec (length bytes < size 0) → row_at (take (size 0) bytes) 0 0 ≡ row_at bytes 0 0
    go (yes l) = ap (λ (b : List ℕ). row_at b 0 0) (take_all (size 0) bytes (omega arith))
    go (no n) =
        let long = length-take-le (size 0) bytes (omega arith) in
        row_there (take (size 0) bytes) 0 0 (room_yes _ 0 (widths 0) (omega arith) (omega (arith, whole_bytes 0)))
        ∙ read_part bytes 0 (size 0) 0 (widths 0) (omega (arith, whole_bytes 0))
        ∙ sym (row_there bytes 0 0 (room_yes _ 0 (widths 0) h (omega (arith, whole_bytes 0))))

-- the header is row 0 of section 0
pub first_row : (bytes : List ℕ) → length bytes ≤ 2 ^ 32 → (i : ℕ) → i < rows bytes 0 → row bytes 0 i ≡ header_row bytes
unfolding row rows start
first_row bytes short i h =
    let e : i ≡ 0 = omega arith in
    rw (header_kind (version bytes)) (ap (λ (a : ℕ). row_at bytes a 0) (rw e (omega arith)) ∙ sym (header_at bytes short))

-- ---- the header that lists ask for
-- five numbers are their list
pub five : (l : List ℕ) → length l ≡ 5 → get_or l 0 0 ∷ get_or l 1 0 ∷ get_or l 2 0 ∷ get_or l 3 0 ∷ get_or l 4 0 ∷ [] ≡ l
five [] e = absurd (omega arith)
five (a ∷ []) e = absurd (omega arith)
five (a ∷ b ∷ []) e = absurd (omega arith)
five (a ∷ b ∷ c ∷ []) e = absurd (omega arith)
five (a ∷ b ∷ c ∷ d ∷ []) e = absurd (omega arith)
five (a ∷ b ∷ c ∷ d ∷ f ∷ []) e = refl
five (a ∷ b ∷ c ∷ d ∷ f ∷ g ∷ l) e = absurd (omega arith)

module _ (ls : Lists) where
  pub header_count : (s : ℕ) → suc s < 6 → get_or (header_for ls) (suc s) 0 ≡ records_in ls (suc s)
  unfolding header_for tabulate
  header_count zero h = refl
  header_count (suc zero) h = refl
  header_count (suc (suc zero)) h = refl
  header_count (suc (suc (suc zero))) h = refl
  header_count (suc (suc (suc (suc zero)))) h = refl
  header_count (suc (suc (suc (suc (suc s))))) h = absurd (omega arith)

  -- it has the numbers of the header's list
  pub header_numbers : length ls.header ≡ length header_names → map (named 0 (header_for ls)) header_names ≡ ls.header
  unfolding header_for named index_in number_of layout_in tabulate
  header_numbers n = five ls.header n

  -- a row that has the counts and these numbers, converted, is the header
  pub header_meant : (raw : List ℕ) → ((s : ℕ) → suc s < 6 → get_or (converted Reading (layout 0) raw) (suc s) 0 ≡ records_in ls (suc s))
      → map (named 0 (converted Reading (layout 0) raw)) header_names ≡ ls.header → header_for ls ≡ converted Reading (layout 0) raw
  unfolding header_for named index_in number_of layout_in tabulate
  header_meant raw counts numbers =
      let vs = converted Reading (layout 0) raw in
      let n = length_converted Reading (layout 0) raw ∙ header_fields in
      let all : tabulate (λ i. get_or vs i 0) 11 ≡ vs = ap (tabulate (λ i. get_or vs i 0)) (sym n) ∙ tabulate_rows vs 0 in
      let number : (k : ℕ) → get_or ls.header k 0 ≡ get_or (map (named 0 vs) header_names) k 0 = λ k. ap (λ (l : List ℕ). get_or l k 0) (sym numbers) in
      let tally : (s : ℕ) → suc s < 6 → records_in ls (suc s) ≡ get_or vs (suc s) 0 = λ s h. sym (counts s h) in
      let last = sym (padding_at 0 10 raw (omega (arith, header_listed)) (omega (arith, header_fields))) in
      (λ i.
      number 0 i
      ∷ tally 0 (omega arith) i
      ∷ tally 1 (omega arith) i
      ∷ tally 2 (omega arith) i
      ∷ tally 3 (omega arith) i
      ∷ tally 4 (omega arith) i
      ∷ number 1 i
      ∷ number 2 i
      ∷ number 3 i
      ∷ number 4 i
      ∷ last i
      ∷ [])
      ∙ all

-- ---- counts that fit their fields of at most 12 bits take few bytes
few_bits : (s : ℕ) → s < 6 → 2 ^ get_or (widths 0) s 0 ≤ 4096
unfolding widths layout_in
few_bits s h = leb→le _ _ (at (λ k. leb (2 ^ get_or (widths 0) k 0) 4096) 6 tt s h)

pub counts_short : (ls : Lists) → Fit (widths 0) (converted Writing (layout 0) (header_for ls)) → row_fault Writing 0 (header_for ls) ≡ None
    → start (version_for ls) (count ls) 6 ≤ 2 ^ 32
unfolding count
counts_short ls fit e = omega (arith, start_most (version_for ls) (count ls) 6 few)
  where
    few : (s : ℕ) → s < 6 → count ls s ≤ 4096
    few zero h = omega arith
    few (suc s) h =
        let is = header_stays Writing (header_for ls) e (suc s) (omega arith) ∙ header_count ls s h in
        let fits = fit_at (widths 0) (converted Writing (layout 0) (header_for ls)) (suc s) fit (omega (arith, length_widths 0, header_fields)) in
        omega (arith, few_bits (suc s) h)

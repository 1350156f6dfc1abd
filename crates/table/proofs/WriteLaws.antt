-- The lists as sections, of which the header is one of one row: the bytes that they are packed to have each row as it is stored, and no other bytes do.
-- Assumes nothing.
use mathlib.Core.Path.{◌≡◌, sym, ap, ◌∙◌}
use mathlib.Core.List.{List, []}
use Rattle.std.specs.Prelude.{None}
use Prim.Native.Nat.{ℕ, zero, suc, ◌+◌, ◌-◌, ◌*◌, ◌≤◌, ◌<◌}
use native.Mathlib.Nat.{mul-le-mul_right}
use native.Mathlib.Omega.{arith}
use lib.ListN.{length, get_or, take, drop, replicate, length-append, length-drop, length-replicate}
use lib.Seq.{ext_get_or, length-take-le, take_at}
use Rattle.base.specs.Tabulate.{tabulate, total}
use Rattle.base.proofs.TabulateLaws.{length_tabulate, tabulate_at, tabulate_same}
use Rattle.bits.specs.Bits.{Bytes}
use Rattle.bits.specs.Rows.{read_all}
use Rattle.bits.specs.Tables.{Fit, table_bits, read_table, FitTable}
use Rattle.bits.proofs.ByteLaws.{bytes_zero}
use Rattle.bits.proofs.RowLaws.{length_rows, row_at, fit_rows_of}
use Rattle.bits.proofs.TableLaws.{table_back, table_carried, length_put_table, fit_more}
use Rattle.layout.specs.declared.Way.TheVariants.{Writing}
use Rattle.layout.specs.Layout.{layout, widths}
use Rattle.layout.specs.Rows.{listed, row_fault}
use Rattle.layout.proofs.LayoutLaws.{header_fields, listed_fields, listed_same, header_kind}
use Rattle.table.specs.Sections.{start}
use Rattle.table.specs.Lists.{Lists, list_for, records_in, version_for, kind_for}
use Rattle.table.specs.Write.{header_for, meant_row, count, meant, stored_row, sections, parts, table_size, packed}
use Rattle.table.proofs.AnswerLaws.{Writable}
use Rattle.table.proofs.SectionLaws.{section_at, bits_are, rows_at, table_read}

module _ (ls : Lists) where
  abbrev v : ℕ
  v = version_for ls

  -- the rows of a section as they are stored
  abbrev stored_in : ℕ → List (List ℕ)
  stored_in s = tabulate (stored_row ls s) (count ls s)

  sections_fill : table_bits (sections ls) ≡ 8 * table_size ls
  unfolding sections table_size
  sections_fill = bits_are v (count ls) 6

  pub length_packed : length (packed ls) ≡ table_size ls
  unfolding packed
  length_packed = length_put_table (replicate (table_size ls) 0) 0 (sections ls) (parts ls) ∙ length-replicate (table_size ls) 0

  -- ---- what is packed is read
  -- each row fits its fields
  abbrev pub Fits : Type 0
  Fits = (s i : ℕ) → s < 6 → i < count ls s → Fit (widths (kind_for ls s)) (stored_row ls s i)

  fit_sections : Fits → (n : ℕ) → n ≤ 6 → FitTable (tabulate (section_at v (count ls)) n) (tabulate stored_in n)
  unfolding tabulate FitTable
  fit_sections fits zero h = tt
  fit_sections fits (suc n) h =
      let long = length_tabulate (stored_row ls n) (count ls n) in
      fit_more (tabulate (section_at v (count ls)) n) (tabulate stored_in n) (section_at v (count ls) n) (stored_in n) (fit_sections fits n (omega arith)) long
      (fit_rows_of (widths (kind_for ls n)) (stored_in n) (λ i l. rw (tabulate_at (stored_row ls n) (count ls n) i [] (omega arith)) (fits n i h (omega arith))))

  pub row_packed : Fits → (s i : ℕ) → s < 6 → i < count ls s
      → read_all (packed ls) (8 * start v (count ls) s + i * total (widths (kind_for ls s))) (widths (kind_for ls s)) ≡ stored_row ls s i
  unfolding packed sections parts
  row_packed fits s i h l =
      let zeros : List ℕ = replicate (table_size ls) 0 in
      let long = length-replicate {A = ℕ} (table_size ls) 0 in
      let back = table_back zeros 0 (sections ls) (parts ls) (omega (arith, sections_fill)) (fit_sections fits 6 (omega arith)) in
      let same : tabulate (rows_at (packed ls) v (count ls)) 6 ≡ tabulate stored_in 6 = sym (table_read (packed ls) v (count ls) 6) ∙ back in
      let here : rows_at (packed ls) v (count ls) s ≡ stored_in s =
      sym (tabulate_at (rows_at (packed ls) v (count ls)) 6 s [] h)
      ∙ ap (λ (r : List (List (List ℕ))). get_or r s []) same
      ∙ tabulate_at stored_in 6 s [] h in
      sym (row_at (packed ls) (8 * start v (count ls) s) (widths (kind_for ls s)) (count ls s) i l)
      ∙ ap (λ (r : List (List ℕ)). get_or r i []) here
      ∙ tabulate_at (stored_row ls s) (count ls s) i [] l

  -- ---- bytes that have each row as it is stored, and no more, are what is packed
  pub packed_is : (bytes : List ℕ) → Bytes bytes → length bytes ≡ table_size ls
      → ((s i : ℕ) → s < 6 → i < count ls s → stored_row ls s i ≡ read_all bytes (8 * start v (count ls) s + i * total (widths (kind_for ls s))) (widths (kind_for ls s)))
      → packed ls ≡ bytes
  unfolding packed sections parts
  packed_is bytes b n same =
      let part : (s : ℕ) → s < 6 → stored_in s ≡ rows_at bytes v (count ls) s =
      λ s h.
      let long = length_tabulate (stored_row ls s) (count ls s) in
      ext_get_or [] (stored_in s) (rows_at bytes v (count ls) s) (long ∙ sym (length_rows bytes (8 * start v (count ls) s) (widths (kind_for ls s)) (count ls s)))
      (λ i l.
      tabulate_at (stored_row ls s) (count ls s) i [] (omega arith)
      ∙ same s i h (omega arith)
      ∙ sym (row_at bytes (8 * start v (count ls) s) (widths (kind_for ls s)) (count ls s) i (omega arith))) in
      let read : parts ls ≡ read_table bytes 0 (sections ls) =
      tabulate_same stored_in (rows_at bytes v (count ls)) 6 part ∙ sym (table_read bytes v (count ls) 6) in
      let zeros = length-replicate {A = ℕ} (table_size ls) 0 in
      rw read (table_carried bytes (replicate (table_size ls) 0) (sections ls) (bytes_zero (table_size ls)) b (zeros ∙ sym n) (rw n sections_fill))

  -- ---- lists of whole records
  module _ (w : Writable ls) where
    pub good_rows : (s i : ℕ) → s < 6 → i < count ls s → row_fault Writing (kind_for ls s) (meant ls s i) ≡ None
    unfolding count meant
    good_rows zero i h l = rw (header_kind v) w.header
    good_rows (suc s) i h l = w.good s i h l

    -- what the lists have of a record
    length_record_given : (s i : ℕ) → suc s < 6 → i < records_in ls (suc s)
        → length (take (listed (suc s)) (drop (i * listed (suc s)) (list_for ls (suc s)))) ≡ listed (suc s)
    length_record_given s i h l =
        let more = mul-le-mul_right (listed (suc s)) l in
        let left = length-drop (i * listed (suc s)) (list_for ls (suc s)) in
        length-take-le (listed (suc s)) (drop (i * listed (suc s)) (list_for ls (suc s))) (omega (arith, w.full s h))

    pub record_given : (s i : ℕ) → suc s < 6 → i < records_in ls (suc s)
        → take (listed (suc s)) (meant ls (suc s) i) ≡ take (listed (suc s)) (drop (i * listed (suc s)) (list_for ls (suc s)))
    unfolding meant meant_row
    record_given s i h l =
        take_at (take (listed (suc s)) (drop (i * listed (suc s)) (list_for ls (suc s)))) (replicate (length (layout (kind_for ls (suc s))) - listed (suc s)) 0) (listed (suc s))
        (length_record_given s i h l)

    pub length_meant : (s i : ℕ) → s < 6 → i < count ls s → length (meant ls s i) ≡ length (layout (kind_for ls s))
    unfolding count meant meant_row header_for tabulate
    length_meant zero i h l = sym (ap (λ (k : ℕ). length (layout k)) (header_kind v) ∙ header_fields)
    length_meant (suc s) i h l =
        let zeros : List ℕ = replicate (length (layout (kind_for ls (suc s))) - listed (suc s)) 0 in
        omega (
          arith,
          length_record_given s i h l,
          length-append (take (listed (suc s)) (drop (i * listed (suc s)) (list_for ls (suc s)))) zeros,
          length-replicate {A = ℕ} (length (layout (kind_for ls (suc s))) - listed (suc s)) 0,
          (listed_fields (kind_for ls (suc s))).0,
          listed_same v (suc s),
        )

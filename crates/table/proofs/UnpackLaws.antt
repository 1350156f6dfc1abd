-- The lists that a sound table unpacks to: they have its counts, and each row of theirs means what the table's row means, so they are packed to its bytes.
-- Assumes nothing.
use mathlib.Core.Path.{◌≡◌, refl, sym, ap, ◌∙◌}
use mathlib.Core.List.{List, ◌++◌}
use Rattle.std.specs.Prelude.{None}
use Prim.Native.Nat.{ℕ, zero, suc, ◌+◌, ◌-◌, ◌*◌, ◌^◌, ◌≤◌, ◌<◌}
use native.Mathlib.Nat.{div-eq_of_eq-mul_left}
use native.Mathlib.Omega.{arith}
use lib.ListN.{length, take, drop, replicate}
use Rattle.bits.specs.Bits.{Bytes}
use Rattle.base.specs.Tabulate.{total}
use Rattle.bits.specs.Rows.{read_all}
use Rattle.layout.specs.declared.Way.TheVariants.{Reading, Writing}
use Rattle.layout.specs.Layout.{layout, kind_of, header_names, widths}
use Rattle.layout.specs.Rows.{converted, listed, row_fault}
use Rattle.layout.proofs.LayoutLaws.{listed_some, header_kind}
use Rattle.table.specs.Sections.{header_row, version, kind_in, rows, start, row, record_of}
use Rattle.table.specs.Lists.{list_for, records_in, version_for, kind_for, header_of, list_in, unpacked}
use Rattle.table.specs.Write.{count, meant, meant_row, table_size, packed}
use Rattle.table.proofs.AnswerLaws.{Sound, Writable}
use Rattle.table.proofs.ListsLaws.{list_by}
use Rattle.table.proofs.SectionLaws.{padded_in, start_same, row_read, length_records, record_at_lem}
use Rattle.table.proofs.WriteLaws.{packed_is}
use Rattle.table.proofs.HeaderLaws.{header_rows, version_meant, first_row, header_short, header_meant}

-- a row of the table, read and written again: it is the same, and what it means has no fault
pub record Again (bytes : List ℕ) (s i : ℕ) : Type 0 where
  pub same : converted Writing (layout (kind_in bytes s)) (converted Reading (layout (kind_in bytes s)) (row bytes s i)) ≡ row bytes s i
  pub good : row_fault Writing (kind_in bytes s) (converted Reading (layout (kind_in bytes s)) (row bytes s i)) ≡ None

module _ (bytes : List ℕ) where
  -- ---- the counts
  pub list_is : (s : ℕ) → s < 6 → list_for (unpacked bytes) s ≡ list_in bytes s
  unfolding unpacked
  list_is = list_by (list_in bytes)

  pub length_list : (s : ℕ) → suc s < 6 → length (list_for (unpacked bytes) (suc s)) ≡ rows bytes (suc s) * listed (suc s)
  length_list s h = ap length (list_is (suc s) h) ∙ length_records bytes (suc s) (rows bytes (suc s))

  pub count_is : (s : ℕ) → s < 6 → count (unpacked bytes) s ≡ rows bytes s
  unfolding count rows records_in
  count_is zero h = refl
  count_is (suc s) h = div-eq_of_eq-mul_left (listed_some (suc s) h) (length_list s h)

  pub length_header : length (header_of bytes) ≡ length header_names
  unfolding header_of
  length_header = refl

  -- ---- the rows
  module _ (sound : Sound bytes) where
    short : length bytes ≤ 2 ^ 32
    short = header_short bytes sound.exact

    pub sound_rows : (s i : ℕ) → s < 6 → i < rows bytes s → row_fault Reading (kind_in bytes s) (row bytes s i) ≡ None
    sound_rows zero i h l = rw (first_row bytes short i l, header_kind (version bytes)) sound.header
    sound_rows (suc s) i h l = sound.good s i h l

    row_is : (s i : ℕ) → s < 6 → i < rows bytes s → row bytes s i
        ≡ read_all bytes (8 * start (version bytes) (rows bytes) s + i * total (widths (kind_in bytes s))) (widths (kind_in bytes s))
    row_is = row_read bytes (omega (arith, sound.exact)) short

    -- the lists have the table's version
    same_version : version_for (unpacked bytes) ≡ version bytes
    same_version = version_meant bytes sound.header

    row_meant : (s i : ℕ) → s < 6 → i < rows bytes s → meant (unpacked bytes) s i ≡ converted Reading (layout (kind_in bytes s)) (row bytes s i)
    unfolding meant meant_row unpacked header_of record_of count
    row_meant zero i h l =
        rw (first_row bytes short i l, header_kind (version bytes))
        (header_meant (unpacked bytes) (header_row bytes) (λ s h. header_rows bytes sound.header s h ∙ sym (count_is (suc s) h)) refl)
    row_meant (suc s) i h l =
        let k = kind_in bytes (suc s) in
        ap (λ (w : ℕ). take (listed (suc s)) (drop (i * listed (suc s)) (list_for (unpacked bytes) (suc s))) ++ replicate (length (layout (kind_of w (suc s))) - listed (suc s)) 0)
        same_version
        ∙ ap (λ (l : List ℕ). take (listed (suc s)) (drop (i * listed (suc s)) l) ++ replicate (length (layout k) - listed (suc s)) 0) (list_is (suc s) h)
        ∙ ap (λ (l : List ℕ). l ++ replicate (length (layout k) - listed (suc s)) 0) (record_at_lem bytes (suc s) (rows bytes (suc s)) i l)
        ∙ padded_in (version bytes) (suc s) (row bytes (suc s) i)

    starts_are : (n : ℕ) → n ≤ 6 → start (version_for (unpacked bytes)) (count (unpacked bytes)) n ≡ start (version bytes) (rows bytes) n
    starts_are n h =
        ap (λ (w : ℕ). start w (count (unpacked bytes)) n) same_version
        ∙ start_same (version bytes) (count (unpacked bytes)) (rows bytes) n (λ s l. count_is s (omega arith))

    pub size_unpacked : table_size (unpacked bytes) ≡ length bytes
    unfolding table_size
    size_unpacked = starts_are 6 (omega arith) ∙ sym sound.exact

    -- ---- where each row gives itself again
    module _ (again : (s i : ℕ) → s < 6 → i < rows bytes s → Again bytes s i) where
      pub same_bytes : Bytes bytes → packed (unpacked bytes) ≡ bytes
      same_bytes b =
          packed_is (unpacked bytes) bytes b (sym size_unpacked)
          (λ s i h l.
          let low = rw (count_is s h) at l in
          let k = kind_in bytes s in
          rw same_version
          (ap (converted Writing (layout k)) (row_meant s i h low)
          ∙ (again s i h low).same
          ∙ row_is s i h low
          ∙ ap (λ (a : ℕ). read_all bytes (8 * a + i * total (widths k)) (widths k))
          (sym (starts_are s (omega arith)) ∙ ap (λ (w : ℕ). start w (count (unpacked bytes)) s) same_version)))

      meant_good : (s i : ℕ) → s < 6 → i < count (unpacked bytes) s → row_fault Writing (kind_for (unpacked bytes) s) (meant (unpacked bytes) s i) ≡ None
      meant_good s i h l = let low = rw (count_is s h) at l in rw (same_version, row_meant s i h low) (again s i h low).good

      pub writable : Writable (unpacked bytes)
      unfolding count meant unpacked
      writable = record {
        header_list = length_header;
        full = λ s h. length_list s h ∙ ap (λ (n : ℕ). n * listed (suc s)) (sym (count_is (suc s) h));
        header = rw (header_kind (version_for (unpacked bytes))) at (meant_good 0 0 (omega arith) (omega arith));
        good = λ s i h l. meant_good (suc s) i h l;
      }

-- The table that lists are packed to, where each row can be read back: it has the lists' counts, rows and records, so it is sound and unpacks to the lists.
-- Assumes nothing.
use mathlib.Core.Path.{◌≡◌, refl, sym, ap, ◌∙◌}
use mathlib.Core.List.{List, map}
use Rattle.std.specs.Prelude.{None}
use Prim.Native.Nat.{ℕ, zero, suc, ◌+◌, ◌*◌, ◌^◌, ◌≤◌, ◌<◌}
use native.Mathlib.Omega.{arith}
use lib.ListN.{length, get_or, take}
use lib.Seq.{take_all}
use Rattle.base.specs.Tabulate.{tabulate, total}
use Rattle.bits.specs.Rows.{read_all}
use Rattle.bits.specs.Tables.{Fit}
use Rattle.layout.specs.declared.Way.TheVariants.{Reading, Writing}
use Rattle.layout.specs.Names.{number_of, index_in}
use Rattle.layout.specs.Layout.{layout_in, layout, kind_of, header_names, widths, size}
use Rattle.layout.specs.Rows.{named, converted, listed, row_fault}
use Rattle.layout.proofs.LayoutLaws.{whole_bytes, header_size, header_kind}
use Rattle.layout.proofs.RoomLaws.{room_yes, row_there}
use Rattle.table.specs.Sections.{header_row, version, kind_in, rows, start, from, row, record_of}
use Rattle.table.specs.Lists.{Lists, list_for, records_in, version_for, kind_for, header_of, list_in, unpacked}
use Rattle.table.specs.Write.{header_for, count, meant, stored_row, table_size, packed}
use Rattle.table.proofs.AnswerLaws.{Writable, Sound}
use Rattle.table.proofs.ListsLaws.{lists_same}
use Rattle.table.proofs.SectionLaws.{start_same, start_le, row_read, records_are}
use Rattle.table.proofs.WriteLaws.{length_packed, Fits, row_packed, record_given}
use Rattle.table.proofs.HeaderLaws.{header_at, header_stays, header_count, header_numbers, counts_short}
use Rattle.table.proofs.UnpackLaws.{list_is}

-- a row as it is stored, read back: it fits its fields, has no fault, and means what it meant
pub record Back (ls : Lists) (s i : ℕ) : Type 0 where
  pub same : converted Reading (layout (kind_for ls s)) (stored_row ls s i) ≡ meant ls s i
  pub fit : Fit (widths (kind_for ls s)) (stored_row ls s i)
  pub good : row_fault Reading (kind_for ls s) (stored_row ls s i) ≡ None

module _ (ls : Lists) (w : Writable ls) (back : (s i : ℕ) → s < 6 → i < count ls s → Back ls s i) where
  abbrev v : ℕ
  v = version_for ls

  fits : Fits ls
  fits s i h l = (back s i h l).fit

  long : length (packed ls) ≡ start v (count ls) 6
  unfolding table_size
  long = length_packed ls

  one_header : 0 < count ls 0
  unfolding count
  one_header = omega arith

  small : length (packed ls) ≤ 2 ^ 32
  unfolding meant
  small = rw long (counts_short ls (rw (header_kind v) at (fits 0 0 (omega arith) one_header)) w.header)

  -- the header takes 14 bytes
  pub header_fits : 14 ≤ length (packed ls)
  unfolding start count
  header_fits = omega (arith, long, start_le v (count ls) 1 6 (omega arith), header_size, ap size (header_kind v))

  header_row_lem : header_row (packed ls) ≡ converted Writing (layout 0) (header_for ls)
  unfolding start meant
  header_row_lem =
      let here : 0 ≡ 8 * start v (count ls) 0 + 0 * total (widths 0) = omega arith in
      header_at (packed ls) small
      ∙ row_there (packed ls) 0 0 (room_yes (length (packed ls)) 0 (widths 0) small (omega (arith, header_fits, whole_bytes 0, header_size)))
      ∙ ap (λ (a : ℕ). read_all (packed ls) a (widths 0)) here
      ∙ rw (header_kind v) at (row_packed ls fits 0 0 (omega arith) one_header)

  same_version : version (packed ls) ≡ v
  unfolding version named index_in number_of layout_in header_for tabulate
  same_version = ap (λ (r : List ℕ). get_or r 0 0) header_row_lem ∙ header_stays Writing (header_for ls) w.header 0 (omega arith)

  -- ---- the counts
  pub rows_packed : (s : ℕ) → s < 6 → rows (packed ls) s ≡ count ls s
  unfolding rows count meant
  rows_packed zero h = refl
  rows_packed (suc s) h =
      ap (λ (r : List ℕ). get_or r (suc s) 0) header_row_lem
      ∙ header_stays Writing (header_for ls) w.header (suc s) (omega arith)
      ∙ header_count ls s h

  starts_are : (n : ℕ) → n ≤ 6 → start (version (packed ls)) (rows (packed ls)) n ≡ start v (count ls) n
  starts_are n h = rw same_version (start_same v (rows (packed ls)) (count ls) n (λ s l. rows_packed s (omega arith)))

  exact : length (packed ls) ≡ from (packed ls) 6
  exact = long ∙ sym (starts_are 6 (omega arith))

  -- ---- the rows
  row_is : (s i : ℕ) → s < 6 → i < count ls s → row (packed ls) s i ≡ stored_row ls s i
  row_is s i h l =
      row_read (packed ls) (omega (arith, exact)) small s i h (rw (rows_packed s h) l)
      ∙ rw same_version
      (ap (λ (a : ℕ). read_all (packed ls) (8 * a + i * total (widths (kind_for ls s))) (widths (kind_for ls s))) (rw same_version at (starts_are s (omega arith)))
      ∙ row_packed ls fits s i h l)

  pub packed_sound : Sound (packed ls)
  unfolding count meant
  packed_sound = record {
    header = rw (header_row_lem) (rw (header_kind v) at (back 0 0 (omega arith) one_header).good);
    exact = exact;
    good = λ s i h l. let low = rw (rows_packed (suc s) h) at l in rw (row_is (suc s) i h low, same_version) (back (suc s) i h low).good;
  }

  -- ---- the lists
  list_back : (s : ℕ) → s < 6 → list_in (packed ls) s ≡ list_for ls s
  unfolding list_for header_of record_of count meant
  list_back zero h =
      ap (λ (r : List ℕ). map (named 0 (converted Reading (layout 0) r)) header_names) header_row_lem
      ∙ ap (λ (r : List ℕ). map (named 0 r) header_names) (rw (header_kind v) at (back 0 0 (omega arith) one_header).same)
      ∙ header_numbers ls w.header_list
  list_back (suc s) h =
      let n = rows_packed (suc s) h in
      rw n
      (records_are (packed ls) (suc s) (list_for ls (suc s)) (records_in ls (suc s))
      (λ i l.
      ap (λ (r : List ℕ). take (listed (suc s)) (converted Reading (layout (kind_in (packed ls) (suc s))) r)) (row_is (suc s) i h l)
      ∙ ap (λ (u : ℕ). take (listed (suc s)) (converted Reading (layout (kind_of u (suc s))) (stored_row ls (suc s) i))) same_version
      ∙ ap (take (listed (suc s))) (back (suc s) i h l).same
      ∙ record_given ls w s i h l)
      ∙ take_all (records_in ls (suc s) * listed (suc s)) (list_for ls (suc s)) (omega (arith, w.full s h)))

  pub same_lists : unpacked (packed ls) ≡ ls
  same_lists = lists_same (unpacked (packed ls)) ls (λ s h. list_is (packed ls) s h ∙ list_back s h)

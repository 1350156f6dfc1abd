-- Rows put into bytes: one where there is room, those of a section one after the other, and the sections of the table likewise.
-- Assumes nothing.
use mathlib.Core.Path.{◌≡◌, refl, sym, ap, ap₂, ◌∙◌}
use mathlib.Core.List.{List, [], ◌∷◌, ◌++◌}
use Rattle.std.specs.Prelude.{None}
use Prim.Native.Nat.{ℕ, suc, ◌+◌, ◌*◌, ◌^◌, ◌≤◌, ◌<◌}
use native.Mathlib.Nat.{mul-le-mul_right, add-zero, add_assoc}
use native.Mathlib.Numerals.{add-one}
use native.Mathlib.Omega.{arith}
use lib.ListN.{length, replicate, length-replicate}
use Rattle.base.specs.Tabulate.{tabulate, total}
use Rattle.base.proofs.TabulateLaws.{length_tabulate}
use Rattle.bits.specs.Rows.{put_all, put_rows, Section, section_bits, put_table}
use Rattle.bits.specs.Tables.{table_bits}
use Rattle.bits.proofs.RowLaws.{put_rows_more}
use Rattle.layout.specs.declared.Way.TheVariants.{Writing}
use Rattle.layout.specs.Layout.{layout, widths, size}
use Rattle.layout.specs.Promises.{wide, with_row_at}
use Rattle.layout.specs.Rows.{converted, row_fault}
use Rattle.layout.proofs.BackLaws.{written_fits}
use Rattle.layout.proofs.LayoutLaws.{whole_bytes}
use Rattle.layout.proofs.RowLaws.{length_converted, converted_wide}
use Rattle.layout.proofs.WideLaws.{put_wide}
use Rattle.table.specs.Sections.{start}
use Rattle.table.specs.Lists.{Lists, version_for, kind_for}
use Rattle.table.specs.Write.{header_for, count, stored_row, sections, parts, table_size, packed}
use Rattle.table.proofs.SectionLaws.{section_at, bits_are, start_le}
use Rattle.table.proofs.HeaderLaws.{counts_short}
use Rattle.writer.specs.Writing.{HasRoom, stored, Fillable}

-- ---- one row
pub row_put : (vs : List ℕ) (kind at : ℕ) (out row raw after : List ℕ) → HasRoom out kind at 1 → row ≡ wide vs
    → raw ≡ wide (converted Writing (layout kind) row) → after ≡ with_row_at out (8 * at) kind raw
    → after ≡ put_all out (8 * at) (widths kind) (converted Writing (layout kind) vs)
row_put vs kind at out row raw after room is stored put =
    let same : raw ≡ wide (converted Writing (layout kind) vs) =
    stored ∙ ap (λ (r : List ℕ). wide r) (ap (converted Writing (layout kind)) is ∙ converted_wide Writing (layout kind) vs) in
    put
    ∙ ap (with_row_at out (8 * at) kind) same
    ∙ put_wide out (8 * at) kind (converted Writing (layout kind) vs) room.short (omega (arith, whole_bytes kind, room.inside)) (length_converted Writing (layout kind) vs)

-- ---- sections put one after the other
table_end : (s : List ℕ) (a : ℕ) (xs : List Section) (ps : List (List (List ℕ))) (x : Section) (rows : List (List ℕ)) → length xs ≡ length ps
    → put_table s a (xs ++ (x ∷ [])) (ps ++ (rows ∷ [])) ≡ put_rows (put_table s a xs ps) (a + table_bits xs) x.widths rows
unfolding put_table table_bits
table_end s a [] [] x rows e = ap (λ (b : ℕ). put_rows s b x.widths rows) (sym (add-zero a))
table_end s a [] (p ∷ ps) x rows e = absurd (omega arith)
table_end s a (y ∷ xs) [] x rows e = absurd (omega arith)
table_end s a (y ∷ xs) (p ∷ ps) x rows e =
    let put = put_rows s a y.widths p in
    table_end put (a + section_bits y) xs ps x rows (omega arith)
    ∙ ap (λ (b : ℕ). put_rows (put_table put (a + section_bits y) xs ps) b x.widths rows) (add_assoc a (section_bits y) (table_bits xs))

module _ (ls : Lists) where
  -- ---- the rows of a section
  module _ (section at : ℕ) (out : List ℕ) where
    abbrev k : ℕ
    k = kind_for ls section

    -- the first i rows are put
    abbrev pub put_to : ℕ → List ℕ
    put_to i = put_rows out (8 * at) (widths (kind_for ls section)) (stored ls section i)

    pub put_none : out ≡ put_to 0
    unfolding tabulate put_rows
    put_none = refl

    pub put_one_more : (i : ℕ) (now next : List ℕ) → now ≡ put_to i
        → next ≡ put_all now (8 * (at + i * size k)) (widths k) (stored_row ls section i) → next ≡ put_to (i + 1)
    unfolding tabulate
    put_one_more i now next is put =
        let rows = stored ls section i in
        let long = length_tabulate (stored_row ls section) i in
        let here : 8 * (at + i * size k) ≡ 8 * at + length rows * total (widths k) =
        rw long (omega (arith, ap (λ (n : ℕ). i * n) (whole_bytes k))) in
        put
        ∙ ap₂ (λ (s : List ℕ) (a : ℕ). put_all s a (widths k) (stored_row ls section i)) is here
        ∙ sym (put_rows_more out (8 * at) (widths k) rows (stored_row ls section i))
        ∙ ap (λ (n : ℕ). put_rows out (8 * at) (widths k) (stored ls section n)) (sym (add-one i))

    -- where there is room for all rows, there is for row i, in bytes that are as long
    pub room_for : (n i : ℕ) (now : List ℕ) → HasRoom out k at n → i < n → length now ≡ length out → HasRoom now k (at + i * size k) 1
    room_for n i now room h long =
        record { inside = omega (arith, room.inside, mul-le-mul_right (size k) h, long); short = omega (arith, room.short, long) }

  -- ---- the table
  -- the rows of the first n sections are put
  abbrev pub filled : List ℕ → ℕ → List ℕ
  filled zeros n = put_table zeros 0 (tabulate (section_at (version_for ls) (count ls)) n) (tabulate (λ s. stored ls s (count ls s)) n)

  pub filled_none : (zeros : List ℕ) → zeros ≡ filled zeros 0
  unfolding tabulate put_table
  filled_none zeros = refl

  pub filled_more : (zeros now next : List ℕ) (n at : ℕ) → now ≡ filled zeros n → at ≡ start (version_for ls) (count ls) n
      → next ≡ put_rows now (8 * at) (widths (kind_for ls n)) (stored ls n (count ls n)) → next ≡ filled zeros (n + 1)
  unfolding tabulate
  filled_more zeros now next n at is here put =
      let xs = tabulate (section_at (version_for ls) (count ls)) n in
      let ps = tabulate (λ s. stored ls s (count ls s)) n in
      let same = length_tabulate (section_at (version_for ls) (count ls)) n ∙ sym (length_tabulate (λ s. stored ls s (count ls s)) n) in
      let place : 8 * at ≡ 0 + table_bits xs = omega (arith, here, bits_are (version_for ls) (count ls) n) in
      put
      ∙ ap₂ (λ (s : List ℕ) (a : ℕ). put_rows s a (widths (kind_for ls n)) (stored ls n (count ls n))) is
      place
      ∙ sym (table_end zeros 0 xs ps _ _ same)
      ∙ ap (filled zeros) (sym (add-one n))

  pub filled_all : (zeros : List ℕ) → zeros ≡ replicate (table_size ls) 0 → filled zeros 6 ≡ packed ls
  unfolding packed sections parts
  filled_all zeros clear = ap (λ (z : List ℕ). put_table z 0 (sections ls) (parts ls)) clear

  -- where the bytes are as long as the table there is room for each section
  pub section_room : (zeros now : List ℕ) (n at : ℕ) → Fillable ls zeros → length now ≡ length zeros → n < 6
      → at ≡ start (version_for ls) (count ls) n → HasRoom now (kind_for ls n) at (count ls n)
  unfolding table_size start
  section_room zeros now n at fillable long h here =
      let whole : length zeros ≡ table_size ls = ap length fillable.clear ∙ length-replicate (table_size ls) 0 in
      record {
        inside = omega (arith, long, whole, here, start_le (version_for ls) (count ls) (suc n) 6 h);
        short = omega (arith, long, whole, fillable.short);
      }

  -- a good header keeps its counts within their limits, so the table is short
  pub short : row_fault Writing 0 (header_for ls) ≡ None → table_size ls ≤ 2 ^ 32
  unfolding table_size
  short good = counts_short ls (written_fits 0 (header_for ls) good) good

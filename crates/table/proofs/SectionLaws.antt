-- The sections of a table and their rows: each row is where the rows before it end, they are few, and the records are what the rows mean, as padding means 0.
-- Assumes nothing.
use mathlib.Core.Path.{◌≡◌, refl, sym, ap, ap₂, ◌∙◌}
use mathlib.Core.Bool.{Bool, true, false}
use mathlib.Core.List.{List, [], ◌∷◌, ◌++◌}
use mathlib.Core.Logic.{⊎_elim}
use Rattle.std.specs.Prelude.{None, Some}
use Prim.Native.Nat.{ℕ, zero, suc, ◌+◌, ◌-◌, ◌*◌, ◌^◌, ◌≤◌, ◌<◌}
use native.Mathlib.Nat.{le_of_suc-le-suc, eq-or-lt_of_le, mul-le-mul, mul-le-mul_right}
use native.Mathlib.Omega.{arith}
use lib.Dec.{eqb}
use lib.ListN.{length, get_or, take, drop, replicate, length-append, length-drop, length-replicate, get_or-replicate, take-append-drop}
use lib.Seq.{ext_get_or, get_or-drop, length-take-le, take_all, drop_at, drop-append-le, take-append-le, take-add}
use Rattle.base.specs.Pick.{pick}
use Rattle.base.specs.Tabulate.{tabulate, total}
use Rattle.bits.specs.Rows.{read_all, Section, section_bits}
use Rattle.bits.specs.Tables.{read_rows, table_bits, read_table}
use Rattle.bits.proofs.TableLaws.{bits_more, table_more}
use Rattle.layout.specs.declared.Kind.{Kind}
use Rattle.layout.specs.declared.Way.TheVariants.{Reading}
use Rattle.layout.specs.Layout.{layout, kind_of, blank, widths, size}
use Rattle.layout.specs.Fields.{meaning, convert}
use Rattle.base.specs.Tests.{number_or0}
use Rattle.layout.specs.Rows.{converted, listed_in, listed}
use Rattle.layout.proofs.LayoutLaws.{listed_fields, listed_same, unlisted, whole_bytes, size_most}
use Rattle.layout.proofs.ReadLaws.{count_lt}
use Rattle.layout.proofs.RowLaws.{length_converted, converted_at}
use Rattle.layout.proofs.RoomLaws.{room_yes, row_there}
use Rattle.table.specs.Sections.{header_row, version, kind_in, rows, start, from, row, record_of, records}

-- ---- padding means 0
padding_means : (s k n : ℕ) → listed_in (layout s) ≤ k → number_or0 (convert Reading (get_or (layout s) k blank) n) ≡ 0
unfolding convert meaning number_or0
padding_means s k n h = ap (λ (kind : Kind). number_or0 (meaning kind n)) (unlisted s k h) ∙ go (eqb n 0)
  where
    go : (t : Bool) → number_or0 (pick t (Some 0) None) ≡ 0
    go true = refl
    go false = refl

pub padding_at : (s k : ℕ) (raw : List ℕ) → listed_in (layout s) ≤ k → k < length (layout s)
    → get_or (converted Reading (layout s) raw) k 0 ≡ 0
padding_at s k raw h l = converted_at Reading (layout s) raw k l ∙ padding_means s k (get_or raw k 0) h

-- so a row that is meant is what the lists have of it, and zeros
pub padded : (s : ℕ) (raw : List ℕ)
    → take (listed_in (layout s)) (converted Reading (layout s) raw) ++ replicate (length (layout s) - listed_in (layout s)) 0
    ≡ converted Reading (layout s) raw
padded s raw =
    let l = listed_in (layout s) in
    let vs = converted Reading (layout s) raw in
    let n = length_converted Reading (layout s) raw in
    let m = length-drop l vs in
    let zeros : drop l vs ≡ replicate (length (layout s) - l) 0 =
    ext_get_or 0 (drop l vs) (replicate (length (layout s) - l) 0)
    (m ∙ rw n (sym (length-replicate {A = ℕ} (length (layout s) - l) 0)))
    (λ i h.
    get_or-drop l vs i 0
    ∙ padding_at s (l + i) raw (omega arith) (omega arith)
    ∙ sym (get_or-replicate (length (layout s) - l) i 0 0 (omega arith))) in
    ap (λ (zs : List ℕ). take l vs ++ zs) (sym zeros) ∙ take-append-drop l vs

-- and of any version, as all have the same numbers in the lists
pub padded_in : (v s : ℕ) (raw : List ℕ)
    → take (listed s) (converted Reading (layout (kind_of v s)) raw) ++ replicate (length (layout (kind_of v s)) - listed s) 0
    ≡ converted Reading (layout (kind_of v s)) raw
padded_in v s raw = rw (listed_same v s) at (padded (kind_of v s) raw)

-- ---- sections by their numbers, of a version v, where a function says how many rows each has
abbrev pub section_at : ℕ → (ℕ → ℕ) → ℕ → Section
section_at v count s = record { widths = widths (kind_of v s); count = count s }

pub start_same : (v : ℕ) (f g : ℕ → ℕ) (n : ℕ) → ((s : ℕ) → s < n → f s ≡ g s) → start v f n ≡ start v g n
unfolding start
start_same v f g zero same = refl
start_same v f g (suc n) same = rw (start_same v f g n (λ s h. same s (omega arith)), same n (omega arith))

pub start_le : (v : ℕ) (count : ℕ → ℕ) (s t : ℕ) → s ≤ t → start v count s ≤ start v count t
unfolding start
start_le v count s zero h = let e : s ≡ 0 = omega arith in rw e (omega arith)
start_le v count s (suc t) h = ⊎_elim
    (λ (e : s ≡ suc t). rw e (omega arith))
    (λ (l : s < suc t). omega (arith, start_le v count s t (le_of_suc-le-suc l)))
    (eq-or-lt_of_le h)

-- where no section has more rows than 12 bits count, each takes few bytes
pub section_most : (kind n : ℕ) → n ≤ 4096 → n * size kind ≤ 57344
section_most kind n h = mul-le-mul h (size_most kind)

pub start_most : (v : ℕ) (count : ℕ → ℕ) (n : ℕ) → ((s : ℕ) → s < n → count s ≤ 4096) → start v count n ≤ n * 57344
unfolding start
start_most v count zero h = omega arith
start_most v count (suc n) h =
    omega (arith, section_most (kind_of v n) (count n) (h n (omega arith)), start_most v count n (λ s l. h s (omega arith)))

pub bits_are : (v : ℕ) (count : ℕ → ℕ) (n : ℕ) → table_bits (tabulate (section_at v count) n) ≡ 8 * start v count n
unfolding start table_bits tabulate section_bits
bits_are v count zero = refl
bits_are v count (suc n) =
    omega (arith, bits_more (tabulate (section_at v count) n) (section_at v count n), bits_are v count n, ap (λ (m : ℕ). count n * m) (whole_bytes (kind_of v n)))

-- the rows of a section
abbrev pub rows_at : List ℕ → ℕ → (ℕ → ℕ) → ℕ → List (List ℕ)
rows_at bytes v count s = read_rows bytes (8 * start v count s) (widths (kind_of v s)) (count s)

pub table_read : (bytes : List ℕ) (v : ℕ) (count : ℕ → ℕ) (n : ℕ) → read_table bytes 0 (tabulate (section_at v count) n) ≡ tabulate (rows_at bytes v count) n
unfolding read_table tabulate
table_read bytes v count zero = refl
table_read bytes v count (suc n) =
    let here : 0 + table_bits (tabulate (section_at v count) n) ≡ 8 * start v count n = omega (arith, bits_are v count n) in
    table_more bytes 0 (tabulate (section_at v count) n) (section_at v count n)
    ∙ ap₂ (λ (r : List (List (List ℕ))) (a : ℕ). r ++ (read_rows bytes a (widths (kind_of v n)) (count n) ∷ [])) (table_read bytes v count n) here

module _ (bytes : List ℕ) where
  -- ---- a count of rows has at most 12 bits, so that no section begins far behind
  pub rows_few : (s : ℕ) → s < 6 → rows bytes s < 4096
  unfolding rows header_row
  rows_few zero h = omega arith
  rows_few (suc s) h = count_lt (take (size 0) bytes) 0 (suc s) h

  pub from_most : (s : ℕ) → s ≤ 6 → from bytes s ≤ s * 57344
  from_most s h = start_most (version bytes) (rows bytes) s (λ j l. omega (arith, rows_few j (omega arith)))

  -- ---- a row that is there
  pub row_read : from bytes 6 ≤ length bytes → length bytes ≤ 2 ^ 32 → (s i : ℕ) → s < 6 → i < rows bytes s
      → row bytes s i ≡ read_all bytes (8 * start (version bytes) (rows bytes) s + i * total (widths (kind_in bytes s))) (widths (kind_in bytes s))
  unfolding row start
  row_read fits short s i h l =
      let k = kind_in bytes s in
      let a = 8 * (from bytes s + i * size k) in
      let next = start_le (version bytes) (rows bytes) (suc s) 6 h in
      let bits = whole_bytes k in
      let more = mul-le-mul_right (size k) l in
      let here : a ≡ 8 * start (version bytes) (rows bytes) s + i * total (widths k) = omega (arith, ap (λ (n : ℕ). i * n) bits) in
      row_there bytes a k (room_yes (length bytes) a (widths k) short (omega arith)) ∙ ap (λ (b : ℕ). read_all bytes b (widths k)) here

  -- ---- the records
  length_record : (s i : ℕ) → length (record_of bytes s i) ≡ listed s
  unfolding record_of
  length_record s i =
      let k = kind_in bytes s in
      length-take-le (listed s) (converted Reading (layout k) (row bytes s i))
      (omega (arith, length_converted Reading (layout k) (row bytes s i), (listed_fields k).0, listed_same (version bytes) s))

  pub length_records : (s n : ℕ) → length (records bytes s n) ≡ n * listed s
  unfolding records
  length_records s zero = omega arith
  length_records s (suc n) = omega (arith, length-append (records bytes s n) (record_of bytes s n), length_records s n, length_record s n)

  pub record_at_lem : (s n i : ℕ) → i < n → take (listed s) (drop (i * listed s) (records bytes s n)) ≡ record_of bytes s i
  unfolding records
  record_at_lem s zero i h = absurd (omega arith)
  record_at_lem s (suc n) i h =
      let all = records bytes s n in
      let last = record_of bytes s n in
      let long = length_records s n in
      ⊎_elim
      (λ (e : suc i ≡ suc n).
      let same : i ≡ n = omega arith in
      rw same (ap (λ (l : List ℕ). take (listed s) l) (drop_at all last (n * listed s) long) ∙ take_all (listed s) last (omega (arith, length_record s n))))
      (λ (l : suc i < suc n).
      let more = mul-le-mul_right (listed s) (le_of_suc-le-suc l) in
      ap (λ (l : List ℕ). take (listed s) l) (drop-append-le (i * listed s) all last (omega arith))
      ∙ take-append-le (listed s) (drop (i * listed s) all) last (omega (arith, length-drop (i * listed s) all))
      ∙ record_at_lem s n i (le_of_suc-le-suc l))
      (eq-or-lt_of_le h)

  -- records that are the parts of a list are its front
  pub records_are : (s : ℕ) (list : List ℕ) (n : ℕ) → ((i : ℕ) → i < n → record_of bytes s i ≡ take (listed s) (drop (i * listed s) list))
      → records bytes s n ≡ take (n * listed s) list
  unfolding records
  records_are s list zero same = let e : 0 * listed s ≡ 0 = omega arith in rw e
  records_are s list (suc n) same =
      let e : suc n * listed s ≡ n * listed s + listed s = omega arith in
      rw e (ap₂ ◌++◌ (records_are s list n (λ i h. same i (omega arith))) (same n (omega arith)) ∙ sym (take-add (n * listed s) (listed s) list))

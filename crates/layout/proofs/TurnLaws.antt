-- What one turn of each loop over the fields of a row adds: one number to an array, one field read or written, one field tested.
-- Assumes nothing.
use mathlib.Core.Path.{◌≡◌, sym, ap, ◌∙◌}
use mathlib.Core.Bool.{true, false}
use mathlib.Core.List.{List}
use mathlib.Core.Logic.{⊎_elim}
use Prim.Native.Nat.{ℕ, ◌+◌, ◌≤◌, ◌<◌}
use native.Mathlib.Nat.{eq-or-lt_of_le}
use native.Mathlib.Omega.{arith}
use lib.ListN.{length, get_or, take, set}
use lib.Seq.{take_all, take-length}
use Rattle.std.specs.Prelude.{None, Some}
use Rattle.bits.specs.declared.Cursor.{Cursor}
use Rattle.bits.specs.declared.Field.{Field}
use Rattle.bits.specs.Bits.{field_at}
use Rattle.bits.specs.Place.{next_place, field_of, put_of}
use Rattle.base.specs.Tabulate.{total}
use Rattle.bits.specs.Rows.{read_all, put_all}
use Rattle.bits.proofs.RecordLaws.{total_more, length_read, read_at, length_put_all}
use Rattle.bits.proofs.PartLaws.{put_more, put_first}
use Rattle.bits.proofs.RoomLaws.{field_next, put_next}
use Rattle.layout.specs.declared.Shape.{Shape}
use Rattle.layout.specs.declared.Way.{Way}
use Rattle.layout.specs.Layout.{layout, blank, widths}
use Rattle.layout.specs.Fields.{convert}
use Rattle.base.specs.Tests.{is_some}
use Rattle.layout.specs.Promises.{wide, with_row_at}
use Rattle.layout.specs.Rows.{row_room, row_at}
use Rattle.layout.proofs.ToldLaws.{some_told, none_told}
use Rattle.layout.proofs.FaultLaws.{GoodTo}
use Rattle.layout.proofs.LayoutLaws.{widths_at, length_widths}
use Rattle.layout.proofs.RoomLaws.{field_room, row_there, put_there}
use Rattle.layout.proofs.RowLaws.{wide_more}

-- ---- an array filled number by number
pub filled_more : (row out : List ℕ) (k v : ℕ) → length row ≤ 11 → k < length row → out ≡ wide (take k row) → v ≡ get_or row k 0 → set out k v ≡ wide (take (k + 1) row)
filled_more row out k v h l e f = rw (e, f) (wide_more row k h l)

pub filled_all : (row out : List ℕ) (k : ℕ) → length row ≤ k → out ≡ wide (take k row) → out ≡ wide row
filled_all row out k h e = e ∙ ap wide (take_all k row h)

-- ---- a number tested
module _ (way : Way) (kind : ℕ) (row : List ℕ) (k : ℕ) (s : Shape) (is : s ≡ get_or (layout kind) k blank) where
  pub refused_here : convert way s (get_or row k 0) ≡ None → is_some (convert way (get_or (layout kind) k blank) (get_or row k 0)) ≡ false
  refused_here e = rw (← is) (none_told _ e)

  pub good_more : GoodTo way kind row k → (v : ℕ) → convert way s (get_or row k 0) ≡ Some v → GoodTo way kind row (k + 1)
  good_more good v e i h = ⊎_elim
      (λ (same : i ≡ k). rw (same, ← is) (some_told _ v e))
      (λ (low : i < k). good i low)
      (eq-or-lt_of_le (omega arith))

-- ---- a field read or written
module _ (bytes : List ℕ) (a kind k : ℕ) (room : row_room (length bytes) a (widths kind) ≡ true) (h : k < length (layout kind))
    (s : Shape) (is : s ≡ get_or (layout kind) k blank) (b : ℕ) (at : b ≡ a + total (take k (widths kind))) where
  low : k < length (widths kind)
  low = omega (arith, length_widths kind)

  next_total : a + total (take k (widths kind)) + s.width ≡ a + total (take (k + 1) (widths kind))
  next_total = rw is (omega (arith, total_more (widths kind) k low, widths_at kind k))

  same_width : s.width ≡ get_or (widths kind) k 0
  same_width = ap (λ (x : Shape). x.width) is ∙ sym (widths_at kind k)

  pub read_more : (r : Field) → r ≡ field_of bytes b s.width
      → (r.next.at ≡ a + total (take (k + 1) (widths kind))) × (r.value ≡ get_or (read_all bytes a (widths kind)) k 0)
  read_more r e =
      let got = field_next bytes (a + total (take k (widths kind))) b s.width r e at (rw is (field_room bytes a kind k room h)) in (
        got.1 ∙ next_total,
        got.0 ∙ ap (field_at bytes (a + total (take k (widths kind)))) same_width ∙ sym (read_at bytes a (widths kind) k low),
      )

  pub write_more : (now next row : List ℕ) (c : Cursor) → k < length row → now ≡ put_all bytes a (take k (widths kind)) (take k row)
      → (c ≡ next_place now b s.width) × (next ≡ put_of now b s.width (get_or row k 0))
      → (c.at ≡ a + total (take (k + 1) (widths kind))) × (next ≡ put_all bytes a (take (k + 1) (widths kind)) (take (k + 1) row))
  write_more now next row c l is-now e =
      let long : length now ≡ length bytes = rw is-now (length_put_all bytes a (take k (widths kind)) (take k row)) in
      let room-now : row_room (length now) a (widths kind) ≡ true = rw long room in
      let got =
      put_next now next (a + total (take k (widths kind))) b s.width (get_or row k 0) c e at (rw is (field_room now a kind k room-now h)) in
      (got.0 ∙ next_total, got.1 ∙ rw (same_width, is-now) (sym (put_more bytes a (widths kind) row k low l)))

-- ---- all fields
module _ (bytes : List ℕ) (a kind k : ℕ) (room : row_room (length bytes) a (widths kind) ≡ true) (h : length (layout kind) ≤ k) where
  pub read_all_lem : (out : List ℕ) → out ≡ wide (take k (read_all bytes a (widths kind))) → out ≡ wide (row_at bytes a kind)
  read_all_lem out e =
      rw (row_there bytes a kind room)
      (filled_all (read_all bytes a (widths kind)) out k (omega (arith, length_read bytes a (widths kind), length_widths kind)) e)

  pub written_all : (now row : List ℕ) → k ≤ length (layout kind) → length (layout kind) ≤ length row
      → now ≡ put_all bytes a (take k (widths kind)) (take k row) → now ≡ with_row_at bytes a kind row
  written_all now row l enough e =
      let n = length_widths kind in
      let same : k ≡ length (widths kind) = omega arith in
      e
      ∙ rw (same, take-length (widths kind), put_there bytes a kind row room) (put_first bytes a (widths kind) row (omega arith))

-- Where the table has a row of a section: two bounds, and then each field of the row is one that the cursor reads or writes.
-- Assumes nothing.
use mathlib.Core.Path.{◌≡◌, refl}
use mathlib.Core.Bool.{Bool, true, false, and-eq-true_iff}
use mathlib.Core.List.{List}
use Prim.Native.Nat.{ℕ, ◌+◌, ◌*◌, ◌^◌, ◌≤◌, ◌<◌}
use native.Mathlib.Omega.{arith}
use lib.Dec.{leb}
use lib.ListN.{length, get_or, take, replicate, length-replicate}
use lib.Pow.{pow_pos}
use borrow.Author.Tests.{leb-true, le-leb}
use Rattle.bits.specs.Place.{Room}
use Rattle.base.specs.Tabulate.{total}
use Rattle.bits.specs.Rows.{read_all, put_all}
use Rattle.bits.specs.Tables.{Fit}
use Rattle.bits.proofs.RecordLaws.{total_more, total_le, fit_read}
use Rattle.bits.proofs.PartLaws.{fit_of}
use Rattle.layout.specs.Layout.{layout, blank, widths}
use Rattle.layout.specs.Rows.{row_room, row_at}
use Rattle.layout.specs.Promises.{with_row_at}
use Rattle.layout.proofs.LayoutLaws.{narrow, widths_at, length_widths}
use Rattle.layout.proofs.RowLaws.{zero_at}

-- ---- the test
pub room_was : (n a : ℕ) (ws : List ℕ) → row_room n a ws ≡ true → (n ≤ 2 ^ 32) × (a + total ws ≤ 8 * n)
unfolding row_room
room_was n a ws e =
    let both = (and-eq-true_iff (leb n (2 ^ 32)) (leb (a + total ws) (8 * n))).0 e in
    (leb-true _ _ both.0, leb-true _ _ both.1)

pub room_yes : (n a : ℕ) (ws : List ℕ) → n ≤ 2 ^ 32 → a + total ws ≤ 8 * n → row_room n a ws ≡ true
unfolding row_room
room_yes n a ws h l = rw (le-leb n (2 ^ 32) h, le-leb (a + total ws) (8 * n) l)

-- ---- the row
module _ (bytes : List ℕ) (a kind : ℕ) where
  pub row_there : row_room (length bytes) a (widths kind) ≡ true → row_at bytes a kind ≡ read_all bytes a (widths kind)
  unfolding row_at
  row_there e = rw e

  pub row_none : row_room (length bytes) a (widths kind) ≡ false → row_at bytes a kind ≡ replicate (length (widths kind)) 0
  unfolding row_at
  row_none e = rw e

  pub put_there : (raw : List ℕ) → row_room (length bytes) a (widths kind) ≡ true → with_row_at bytes a kind raw ≡ put_all bytes a (widths kind) raw
  unfolding with_row_at
  put_there raw e = rw e

  pub put_none : (raw : List ℕ) → row_room (length bytes) a (widths kind) ≡ false → with_row_at bytes a kind raw ≡ bytes
  unfolding with_row_at
  put_none raw e = rw e

  -- field k of the row, which begins where the fields before it end
  pub field_room : (k : ℕ) → row_room (length bytes) a (widths kind) ≡ true → k < length (layout kind)
      → Room bytes (a + total (take k (widths kind))) (get_or (layout kind) k blank).width
  field_room k e h =
      let was = room_was (length bytes) a (widths kind) e in
      let n = length_widths kind in
      let w = widths_at kind k in
      let more = total_more (widths kind) k (omega arith) in
      let all = total_le (widths kind) (k + 1) in
      record { narrow = narrow kind k; inside = omega arith; short = was.0 }

-- ---- what is read and written
module _ (bytes : List ℕ) (a kind : ℕ) where
  -- the numbers read are those of the section's fields, and fit them
  pub row_fits : Fit (widths kind) (row_at bytes a kind)
  row_fits = go (row_room (length bytes) a (widths kind)) refl
    where
      go : (t : Bool) → row_room (length bytes) a (widths kind) ≡ t → Fit (widths kind) (row_at bytes a kind)
      go true e = rw (row_there bytes a kind e) (fit_read bytes a (widths kind))
      go false e =
          rw (row_none bytes a kind e)
          (fit_of (widths kind) (replicate (length (widths kind)) 0) (length-replicate (length (widths kind)) 0)
          (λ k h. rw (zero_at (length (widths kind)) k) (pow_pos (get_or (widths kind) k 0))))

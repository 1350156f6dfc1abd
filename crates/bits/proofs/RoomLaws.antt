-- The test for room and what it tests: three bounds, so that who knows them has the plain field, and who fails one has none.
-- Assumes nothing.
use mathlib.Core.Path.{◌≡◌, ap}
use mathlib.Core.Bool.{true, false, ◌&&◌, and-eq-true_iff}
use mathlib.Core.List.{List}
use Prim.Native.Nat.{ℕ, ◌+◌, ◌*◌, ◌^◌}
use lib.Dec.{leb}
use lib.ListN.{length}
use borrow.Author.Tests.{leb-true, le-leb}
use Rattle.bits.specs.declared.Cursor.{Cursor}
use Rattle.bits.specs.declared.Field.{Field}
use Rattle.bits.specs.Bits.{field_at, put_at}
use Rattle.bits.specs.Place.{Room, room, next_place, field_of, put_of}

-- ---- the test
pub room_was : (s : List ℕ) (a w : ℕ) → room (length s) a w ≡ true → Room s a w
unfolding room
room_was s a w e =
    let all = (and-eq-true_iff (leb w 32) (leb (length s) (2 ^ 32) && leb (a + w) (8 * length s))).0 e in
    let rest = (and-eq-true_iff (leb (length s) (2 ^ 32)) (leb (a + w) (8 * length s))).0 all.1 in
    record { narrow = leb-true _ _ all.0; inside = leb-true _ _ rest.1; short = leb-true _ _ rest.0 }

pub room_yes : (s : List ℕ) (a w : ℕ) → Room s a w → room (length s) a w ≡ true
unfolding room
room_yes s a w r = rw (le-leb w 32 r.narrow, le-leb (length s) (2 ^ 32) r.short, le-leb (a + w) (8 * length s) r.inside)

-- ---- where there is room
pub place_of : (s : List ℕ) (a w : ℕ) → Room s a w → next_place s a w ≡ record { at = a + w }
unfolding next_place
place_of s a w r = rw (room_yes s a w r)

pub field_of_lem : (s : List ℕ) (a w : ℕ) → Room s a w → field_of s a w ≡ record { value = field_at s a w; next = record { at = a + w } }
unfolding field_of
field_of_lem s a w r = rw (room_yes s a w r, place_of s a w r)

pub put_of_lem : (s : List ℕ) (a w v : ℕ) → Room s a w → put_of s a w v ≡ put_at s a w v
unfolding put_of
put_of_lem s a w v r = rw (room_yes s a w r)

-- the same of what a call gave, at a place that is known by an equation
pub field_next : (s : List ℕ) (a b w : ℕ) (r : Field) → r ≡ field_of s b w → b ≡ a → Room s a w → (r.value ≡ field_at s a w) × (r.next.at ≡ a + w)
field_next s a b w r e at here =
    let f = rw (at, field_of_lem s a w here) at e in
    (ap (λ (x : Field). x.value) f, ap (λ (x : Field). x.next.at) f)

pub put_next : (s t : List ℕ) (a b w v : ℕ) (r : Cursor) → (r ≡ next_place s b w) × (t ≡ put_of s b w v) → b ≡ a → Room s a w
    → (r.at ≡ a + w) × (t ≡ put_at s a w v)
put_next s t a b w v r e at here =
    let f = rw (at, place_of s a w here) at e.0 in
    (ap (λ (x : Cursor). x.at) f, rw (at, put_of_lem s a w v here) at e.1)

-- ---- where there is none
pub place_none : (s : List ℕ) (a w : ℕ) → room (length s) a w ≡ false → next_place s a w ≡ record { at = a }
unfolding next_place
place_none s a w e = rw e

pub field_none : (s : List ℕ) (a w : ℕ) → room (length s) a w ≡ false → field_of s a w ≡ record { value = 0; next = record { at = a } }
unfolding field_of
field_none s a w e = rw (e, place_none s a w e)

pub put_none : (s : List ℕ) (a w v : ℕ) → room (length s) a w ≡ false → put_of s a w v ≡ s
unfolding put_of
put_none s a w v e = rw e

-- A row without fault, converted and converted back, is the row: each field gives its number back, and the fields of a pair are stored as they are meant.
-- Assumes nothing.
use mathlib.Core.Path.{◌≡◌, refl, sym, ap, ◌∙◌}
use mathlib.Core.Bool.{Bool, true, false, ◌&&◌}
use mathlib.Core.List.{List, [], ◌∷◌}
use Rattle.std.specs.Prelude.{None, Some}
use Prim.Native.Nat.{ℕ, ◌^◌, ◌<◌}
use native.Mathlib.Decide.{dec_lt}
use native.Mathlib.Omega.{arith}
use lib.Dec.{T, ltb, ltb→lt}
use lib.ListN.{length, get_or, get_or-eq_default}
use lib.Seq.{ext_get_or}
use Rattle.base.proofs.Every.{at, left, right}
use Rattle.bits.specs.Tables.{Fit}
use Rattle.bits.proofs.RecordLaws.{fit_length}
use Rattle.bits.proofs.PartLaws.{fit_at, fit_of}
use Rattle.layout.specs.declared.Kind.{Kind}
use Rattle.layout.specs.declared.Kind.TheVariants.{Number, Reference, Padding, Gap, LessOne, Speed}
use Rattle.layout.specs.declared.Shape.{Shape}
use Rattle.layout.specs.declared.Order.{Order}
use Rattle.layout.specs.declared.Way.{Way}
use Rattle.layout.specs.declared.Way.TheVariants.{Reading, Writing}
use Rattle.layout.specs.Layout.{layout_in, layout, place_of, blank, pairs, orders, widths}
use Rattle.layout.specs.Names.{number_of, index_in, place_in}
use Rattle.layout.specs.Fields.{convert}
use Rattle.base.specs.Tests.{number_or0}
use Rattle.layout.specs.Rows.{converted, row_fault}
use Rattle.layout.proofs.LayoutLaws.{sane_at, widths_at, length_widths}
use Rattle.layout.proofs.FieldLaws.{number_was, write_after_read, read_after_write}
use Rattle.layout.proofs.RowLaws.{length_converted, converted_at}
use Rattle.layout.proofs.FaultLaws.{Ordered, Faultless, faultless, no_fault}

-- ---- the fields of a pair are numbers
unfoldable pub is_number : Kind → Bool
is_number (Number low high) = true
is_number Reference = false
is_number Padding = false
is_number Gap = false
is_number LessOne = false
is_number Speed = false

number_is : (kind : Kind) → T (is_number kind) → (low : ℕ) × (high : ℕ) × (kind ≡ Number low high)
unfolding is_number
number_is (Number low high) t = (low, high, refl)
number_is Reference t = absurd t
number_is Padding t = absurd t
number_is Gap t = absurd t
number_is LessOne t = absurd t
number_is Speed t = absurd t

unfoldable pub number_at : List Shape → ℕ → Bool
number_at ss k = ltb k (length ss) && is_number (get_or ss k blank).kind

numbered : List Shape → List Order → Bool
numbered ss [] = true
numbered ss (o ∷ os) = (number_at ss (place_in ss o.lesser) && number_at ss (place_in ss o.greater)) && numbered ss os

pairs_numbered : (s : ℕ) → T (numbered (layout s) (orders s))
unfolding numbered number_at is_number index_in number_of layout_in orders
pairs_numbered s = go (dec_lt s (length pairs))
  where
    go : Dec (s < length pairs) → T (numbered (layout s) (orders s))
    go (yes h) = at (λ k. numbered (layout k) (orders k)) (length pairs) tt s h
    go (no n) = rw (get_or-eq_default pairs [] {n = s} (omega arith)) tt

-- ---- there and back
module _ (way : Way) (kind : ℕ) (row : List ℕ) (f : Faultless way kind row) where
  abbrev there : List ℕ
  there = converted way (layout kind) row

  pub same_number : (k : ℕ) → T (number_at (layout kind) k) → get_or there k 0 ≡ get_or row k 0
  unfolding number_at
  same_number k t =
      let low = ltb k (length (layout kind)) in
      let shape = get_or (layout kind) k blank in
      let is = number_is shape.kind (right low (is_number shape.kind) t) in
      sym (number_was way shape is.0 is.1 (get_or row k 0) (get_or there k 0) is.2 (f.fields k (ltb→lt _ _ (left low (is_number shape.kind) t)))).2

  still_ordered : (os : List Order) → T (numbered (layout kind) os) → Ordered (layout kind) os row → Ordered (layout kind) os there
  unfolding numbered
  still_ordered [] t h = tt
  still_ordered (o ∷ os) t h =
      let pair = number_at (layout kind) (place_of kind o.lesser) && number_at (layout kind) (place_of kind o.greater) in
      let here = left pair (numbered (layout kind) os) t in
      let l = same_number (place_of kind o.lesser) (left (number_at (layout kind) (place_of kind o.lesser)) (number_at (layout kind) (place_of kind o.greater)) here) in
      let g = same_number (place_of kind o.greater) (right (number_at (layout kind) (place_of kind o.lesser)) (number_at (layout kind) (place_of kind o.greater)) here) in
      (rw (l, g) h.0, still_ordered os (right pair (numbered (layout kind) os) t) h.1)

  -- where each field gives its number back
  module _ (back : Way) (gives_back : (k : ℕ) → k < length (layout kind) → convert back (get_or (layout kind) k blank) (get_or there k 0) ≡ Some (get_or row k 0)) where
    back_at : (k : ℕ) → k < length (layout kind) → get_or (converted back (layout kind) there) k 0 ≡ get_or row k 0
    unfolding number_or0
    back_at k h = converted_at back (layout kind) there k h ∙ ap number_or0 (gives_back k h)

    row_back : length row ≡ length (layout kind) → converted back (layout kind) there ≡ row
    row_back long =
        let n = length_converted back (layout kind) there in
        ext_get_or 0 (converted back (layout kind) there) row (n ∙ sym long) (λ k h. back_at k (rw n at h))

    faultless_back : row_fault back kind there ≡ None
    faultless_back = no_fault back kind there record {
      fields = λ k h. gives_back k h ∙ ap Some (sym (back_at k h));
      ordered = still_ordered (orders kind) (pairs_numbered kind) f.ordered;
    }

-- ---- what was read, written again: the table is not changed by unpacking and writing
module _ (kind : ℕ) (raw : List ℕ) (ok : row_fault Reading kind raw ≡ None) (fit : Fit (widths kind) raw) where
  f : Faultless Reading kind raw
  f = faultless Reading kind raw ok

  long : length raw ≡ length (layout kind)
  long = fit_length (widths kind) raw fit ∙ length_widths kind

  stored_back : (k : ℕ) → k < length (layout kind)
      → convert Writing (get_or (layout kind) k blank) (get_or (converted Reading (layout kind) raw) k 0) ≡ Some (get_or raw k 0)
  stored_back k h =
      let narrow = rw (widths_at kind k) at (fit_at (widths kind) raw k fit (omega (arith, length_widths kind))) in
      write_after_read (get_or (layout kind) k blank) (get_or raw k 0) (get_or (converted Reading (layout kind) raw) k 0) narrow (f.fields k h)

  pub read_written : converted Writing (layout kind) (converted Reading (layout kind) raw) ≡ raw
  read_written = row_back Reading kind raw f Writing stored_back long

  pub read_writable : row_fault Writing kind (converted Reading (layout kind) raw) ≡ None
  read_writable = faultless_back Reading kind raw f Writing stored_back

-- ---- what was written, read again: the lists come back
module _ (kind : ℕ) (vs : List ℕ) (ok : row_fault Writing kind vs ≡ None) where
  g : Faultless Writing kind vs
  g = faultless Writing kind vs ok

  meant_back : (k : ℕ) → k < length (layout kind)
      → (get_or (converted Writing (layout kind) vs) k 0 < 2 ^ (get_or (layout kind) k blank).width)
      × (convert Reading (get_or (layout kind) k blank) (get_or (converted Writing (layout kind) vs) k 0) ≡ Some (get_or vs k 0))
  meant_back k h = read_after_write (get_or (layout kind) k blank) (get_or vs k 0) (get_or (converted Writing (layout kind) vs) k 0) (sane_at kind k) (g.fields k h)

  -- what is written fits the fields
  pub written_fits : Fit (widths kind) (converted Writing (layout kind) vs)
  written_fits =
      fit_of (widths kind) (converted Writing (layout kind) vs) (length_converted Writing (layout kind) vs ∙ sym (length_widths kind))
      (λ k h. rw (widths_at kind k) (meant_back k (omega (arith, length_widths kind))).0)

  pub written_readable : row_fault Reading kind (converted Writing (layout kind) vs) ≡ None
  written_readable = faultless_back Writing kind vs g Reading (λ k h. (meant_back k h).1)

  pub written_read : length vs ≡ length (layout kind) → converted Reading (layout kind) (converted Writing (layout kind) vs) ≡ vs
  written_read long = row_back Writing kind vs g Reading (λ k h. (meant_back k h).1) long

-- A number that the writer accepts in a field is at most the greatest of the field's kind, and that can be said: tested once over the
-- fields of all lines, and antt computes the test.
-- Assumes nothing.
use Prim.Native.Nat.{ℕ, zero, suc, ◌+◌, ◌-◌, ◌*◌, ◌/◌, ◌^◌, ◌≤◌, ◌<◌}
use mathlib.Core.Path.{◌≡◌, refl, sym, ◌∙◌}
use mathlib.Core.Bool.{Bool, true, false, ◌&&◌, false≢true}
use mathlib.Core.List.{List, [], ◌∷◌, ◌++◌}
use Rattle.std.specs.Prelude.{None, Some}
use Rattle.std.proofs.lemmas.Option.{none-some}
use native.Mathlib.Omega.{arith}
use native.Mathlib.Nat.{add_comm, mul-le-mul_right}
use borrow.Author.Tests.{eqb-true, leb-true, ltb-true}
use lib.Dec.{T, eqb, leb, ltb}
use lib.ListN.{length, get_or, take, drop, length-append, length-take, length-drop}
use lib.Seq.{take_all, drop_at, length-take-le, get_or-take, get_or-drop}
use Rattle.base.specs.Pick.{pick, within}
use Rattle.base.specs.Tabulate.{tabulate}
use Rattle.base.proofs.TabulateLaws.{length_tabulate}
use Rattle.base.proofs.Every.{left, right, is_true}
use Rattle.base.proofs.Tests.{pick_gave}
use Rattle.frame.proofs.GapLaws.{code_was, good_was}
use Rattle.layout.specs.declared.Kind.{Kind}
use Rattle.layout.specs.declared.Kind.TheVariants.{Number, Reference, Padding, Gap, LessOne, Speed}
use Rattle.layout.specs.declared.Shape.{Shape}
use Rattle.layout.specs.declared.Way.TheVariants.{Writing}
use Rattle.layout.specs.Names.{number_of}
use Rattle.layout.specs.Layout.{layout_in, layout, kinds_of, kind_of, blank}
use Rattle.layout.specs.Fields.{is_padding, stored_as, convert}
use Rattle.layout.specs.Rows.{listed_in, listed, converted}
use Rattle.layout.proofs.FieldLaws.{number_was, padding_converted}
use Rattle.layout.proofs.FaultLaws.{faultless}
use Rattle.layout.proofs.LayoutLaws.{every_kind, listed_same, listed_fields, header_fields}
use Rattle.notation.specs.Notation.{line_fields, form_of, choices}
use Rattle.notation.specs.Printed.{record_in}
use Rattle.notation.specs.Back.{spoken, sayable, Sayable, RecordSayable, DelaysSayable, header_of, Acceptable, AcceptedPrintable}
use Rattle.notation.proofs.PrintedLaws.{delays_count, record_count, delay_field, record_field}

-- ---- one field
greatest : Kind → ℕ → ℕ
greatest (Number low high) width = high
greatest Reference width = 2 ^ width - 1
greatest Padding width = 0
greatest Gap width = 128
greatest LessOne width = 4
greatest Speed width = 100

within_most : (a b n : ℕ) → within a b n ≡ true → n ≤ b
within_most a b n e = go (leb a n) e
  where
    go : (t : Bool) → t && leb n b ≡ true → n ≤ b
    go true k = leb-true n b k
    go false k = absurd (false≢true k)

speed_most : (width v n : ℕ) → stored_as Speed width v ≡ Some n → v ≤ 100
unfolding stored_as
speed_most width v n e = go (eqb v 100) (eqb v 10) (eqb-true v 100) (eqb-true v 10) e
  where
    go : (a b : Bool) → (a ≡ true → v ≡ 100) → (b ≡ true → v ≡ 10) → pick a (Some 0) (pick b (Some 1) None) ≡ Some n → v ≤ 100
    go true b f g k = omega (arith, f refl)
    go false true f g k = omega (arith, g refl)
    go false false f g k = absurd (none-some n k)

accepted_most : (s : Shape) (v n : ℕ) → convert Writing s v ≡ Some n → v ≤ greatest s.kind s.width
unfolding convert greatest stored_as
accepted_most s v n e = go s.kind refl
  where
    go : (k : Kind) → s.kind ≡ k → v ≤ greatest k s.width
    go (Number low high) is = (number_was Writing s low high v n is e).1
    go Reference is = omega (arith, ltb-true v (2 ^ s.width) (pick_gave (ltb v (2 ^ s.width)) v n (rw is at e)).0)
    go Padding is = omega (arith, (padding_converted Writing s v n is e).0)
    go Gap is = (good_was v (code_was v n (rw is at e)).0).1
    go LessOne is = within_most 1 4 v (pick_gave (within 1 4 v) (v - 1) n (rw is at e)).0
    go Speed is = speed_most s.width v n (rw is at e)

-- ---- the fields of a line
tell_all : List Shape → Bool
tell_all [] = true
tell_all (s ∷ ss) = ltb (greatest s.kind s.width) (sayable s) && tell_all ss

all_tell : (v s : ℕ) → s ≤ 5 → T (tell_all (line_fields v s))
unfolding tell_all greatest sayable spoken form_of choices number_of line_fields kind_of kinds_of layout_in listed listed_in is_padding
all_tell v zero h = tt
all_tell v (suc zero) h = every_kind (λ k. T (tell_all (take (listed 1) (layout k)))) 1 (search) v
all_tell v (suc (suc zero)) h = every_kind (λ k. T (tell_all (take (listed 2) (layout k)))) 2 (search) v
all_tell v (suc (suc (suc zero))) h = every_kind (λ k. T (tell_all (take (listed 3) (layout k)))) 3 (search) v
all_tell v (suc (suc (suc (suc zero)))) h = every_kind (λ k. T (tell_all (take (listed 4) (layout k)))) 4 (search) v
all_tell v (suc (suc (suc (suc (suc zero))))) h = every_kind (λ k. T (tell_all (take (listed 5) (layout k)))) 5 (search) v
all_tell v (suc (suc (suc (suc (suc (suc s)))))) h = absurd (omega arith)

accepted_sayable : (ss : List Shape) (ns : List ℕ) (f : ℕ → ℕ) → length ns ≡ length ss → T (tell_all ss)
    → ((k : ℕ) → k < length ss → convert Writing (get_or ss k blank) (get_or ns k 0) ≡ Some (f k)) → Sayable ss ns
unfolding Sayable tell_all
accepted_sayable [] [] f e t h = tt
accepted_sayable [] (n ∷ ns) f e t h = absurd (omega arith)
accepted_sayable (s ∷ ss) [] f e t h = absurd (omega arith)
accepted_sayable (s ∷ ss) (n ∷ ns) f e t h =
    let most = greatest s.kind s.width in
    let told = ltb-true most (sayable s) (is_true _ (left (ltb most (sayable s)) (tell_all ss) t)) in (
      omega (arith, told, accepted_most s n (f 0) (h 0 (omega arith))),
      accepted_sayable ss ns (λ k. f (suc k)) (omega arith) (right (ltb most (sayable s)) (tell_all ss) t) (λ k l. h (suc k) (omega arith)),
    )

-- ---- a row of the table
pub record_sayable : RecordSayable
record_sayable v s row low high long e =
    let kind = kind_of v s in
    let count = record_count v s (omega arith) (omega arith) in
    let good = faultless Writing kind row e in
    accepted_sayable
    (line_fields v s)
    (take (listed s) row)
    (λ k. get_or (converted Writing (layout kind) row) k 0)
    (length-take-le (listed s) row long ∙ sym count)
    (all_tell v s high)
    (λ k l.
    rw (← record_field v s k (omega arith) (omega arith) l, get_or-take (listed s) row k 0 (omega (arith, count)))
    (good.fields k (omega (arith, count, listed_same v s, listed_fields kind))))

pub delays_sayable : DelaysSayable
delays_sayable v row long e =
    let good = faultless Writing 0 row e in
    let count = delays_count v in
    let rest : 4 ≤ length (drop 6 row) = omega (arith, length-drop 6 row) in
    accepted_sayable
    (line_fields v 0)
    (take 4 (drop 6 row))
    (λ k. get_or (converted Writing (layout 0) row) (k + 6) 0)
    (length-take-le 4 (drop 6 row) rest ∙ sym count)
    (all_tell v 0 (omega arith))
    (λ k l.
    rw (← delay_field v k (omega (arith, count)), get_or-take 4 (drop 6 row) k 0 (omega (arith, count)), get_or-drop 6 row k 0, add_comm 6 k)
    (good.fields (k + 6) (omega (arith, count, header_fields))))

-- ---- the lists of a table
-- a record of a list is whole
record_long : (list : List ℕ) (s i : ℕ) → length list / listed s * listed s ≡ length list → i < length list / listed s
    → length (record_in list s i) ≡ listed s
unfolding record_in
record_long list s i whole h =
    let n = length list / listed s in
    let l = listed s in
    let within : suc i * l ≤ n * l = mul-le-mul_right l h in
    rw (length-take l (drop (i * l) list), length-drop (i * l) list) (omega (arith, within, whole))

-- the header: its version, its delays, and how long it is
module _ (l counts : List ℕ) (five : length l ≡ 5) (known : length counts ≡ 5) where
  head_version : get_or (take 1 l ++ counts ++ drop 1 l) 0 0 ≡ get_or l 0 1
  head_version = go l five
    where
      go : (m : List ℕ) → length m ≡ 5 → get_or (take 1 m ++ counts ++ drop 1 m) 0 0 ≡ get_or m 0 1
      go [] e = absurd (omega arith)
      go (v ∷ m) e = refl

  head_delays : take 4 (drop 6 (take 1 l ++ counts ++ drop 1 l)) ≡ drop 1 l
  head_delays = go l five
    where
      go : (m : List ℕ) → length m ≡ 5 → take 4 (drop 6 (take 1 m ++ counts ++ drop 1 m)) ≡ drop 1 m
      go [] e = absurd (omega arith)
      go (v ∷ m) e = rw (drop_at counts m 5 known) (take_all 4 m (omega arith))

  head_long : length (take 1 l ++ counts ++ drop 1 l) ≡ 10
  head_long = simp (length-append, length-take, length-drop) (omega arith)

module _ (lists : ℕ → List ℕ) (a : Acceptable lists) where
  counts : List ℕ
  counts = tabulate (λ s. length (lists (suc s)) / listed (suc s)) 5

  counts_known : length counts ≡ 5
  unfolding counts
  counts_known = length_tabulate (λ s. length (lists (suc s)) / listed (suc s)) 5

  version_small : get_or (lists 0) 0 1 ≤ 255
  unfolding header_of counts layout_in greatest
  version_small =
      let most =
      rw (head_version (lists 0) counts a.head counts_known) at
      (accepted_most (get_or (layout 0) 0 blank) _ _ ((faultless Writing 0 (header_of lists) a.header).fields 0 (omega arith))) in
      omega arith

  delays_said : Sayable (line_fields (get_or (lists 0) 0 1) 0) (drop 1 (lists 0))
  unfolding header_of counts
  delays_said =
      rw (head_delays (lists 0) counts a.head counts_known) at
      (delays_sayable (get_or (lists 0) 0 1) (header_of lists) (omega (arith, head_long (lists 0) counts a.head counts_known)) a.header)

pub accepted_printable : AcceptedPrintable
accepted_printable lists a = record {
  version = omega (arith, version_small lists a);
  delays = delays_said lists a;
  whole = a.whole;
  records = λ s i low high h.
      let row = record_in (lists s) s i in
      let long = record_long (lists s) s i (a.whole s low high) h in
      rw (take_all (listed s) row (omega arith)) at
      (record_sayable (get_or (lists 0) 0 1) s row low high (omega arith) (a.records s i low high h));
}

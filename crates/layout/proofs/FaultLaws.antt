-- The tests of a row, place by place: the first that fails is what the row's fault names, and a row without fault passes each.
-- Assumes nothing.
use mathlib.Core.Path.{◌≡◌, refl, sym, ap, ap₂, ◌∙◌}
use mathlib.Core.Bool.{Bool, true, false, not, false≢true}
use mathlib.Core.List.{List, [], ◌∷◌, ◌++◌}
use Rattle.std.specs.Prelude.{Option, None, Some, option_map}
use Prim.Native.Nat.{ℕ, zero, suc, ◌+◌, ◌-◌, ◌≤◌, ◌<◌}
use native.Mathlib.Decide.{dec_lt}
use native.Mathlib.Nat.{not-suc-le-zero, le_of_suc-le-suc}
use native.Mathlib.Omega.{arith}
use lib.ListN.{length, get_or, length-append, get_or-eq_default, get_or-append}
use lib.Seq.{ext_get_or, get_or-append-add}
use borrow.Author.Tests.{not-true, not-false, leb-true, le-leb}
use Rattle.base.proofs.LeastLaws.{least_is, least_none, least_was, none_was}
use Rattle.layout.specs.declared.Shape.{Shape}
use Rattle.layout.specs.declared.Order.{Order}
use Rattle.layout.specs.declared.Way.{Way}
use Rattle.layout.specs.Layout.{layout, blank, orders}
use Rattle.layout.specs.Names.{place_in}
use Rattle.layout.specs.Fields.{convert}
use Rattle.base.specs.Tests.{number_or0, is_some, first_failing}
use Rattle.layout.specs.Promises.{wide, order_fault}
use Rattle.layout.specs.Rows.{converted, field_tests, order_tests, row_fault_in, row_fault}
use Rattle.layout.proofs.RowLaws.{converted_at, wide_at}
use Rattle.layout.proofs.ToldLaws.{some_told}

-- ---- the first test that fails
-- each test passes; there is none past the end
abbrev pub Pass : List Bool → Type 0
Pass ts = (i : ℕ) → get_or ts i true ≡ true

failing_at : (ts : List Bool) (k : ℕ) → k < length ts → ((i : ℕ) → i < k → get_or ts i true ≡ true) → get_or ts k true ≡ false → first_failing ts ≡ Some k
unfolding first_failing
failing_at ts k h before e = least_is (λ i. not (get_or ts i true)) 0 (length ts) k (omega arith) (omega arith) (rw e) (λ i a b. rw (before i b))

failing_none : (ts : List Bool) → Pass ts → first_failing ts ≡ None
unfolding first_failing
failing_none ts pass = least_none (λ i. not (get_or ts i true)) 0 (length ts) (λ i a b. rw (pass i))

none_failing : (ts : List Bool) → first_failing ts ≡ None → Pass ts
unfolding first_failing
none_failing ts e i = go (dec_lt i (length ts))
  where
    go : Dec (i < length ts) → get_or ts i true ≡ true
    go (yes h) = not-false _ (none_was (λ i. not (get_or ts i true)) 0 (length ts) i e (omega arith) (omega arith))
    go (no n) = get_or-eq_default ts true (omega arith)

failing_was : (ts : List Bool) (k : ℕ) → first_failing ts ≡ Some k → (k < length ts) × (get_or ts k true ≡ false) × ((i : ℕ) → i < k → get_or ts i true ≡ true)
unfolding first_failing
failing_was ts k e =
    let was = least_was (λ i. not (get_or ts i true)) 0 (length ts) k e in
    (omega (arith, was.high), not-true _ was.passes, (λ i h. not-false _ (was.fails i (omega arith) h)))

-- tests that pass, and then others: the first of these that fails
module _ (ts us : List Bool) (pass : Pass ts) where
  at_both : (i : ℕ) → ((j : ℕ) → i ≡ length ts + j → get_or us j true ≡ true) → get_or (ts ++ us) i true ≡ true
  at_both i h = go (dec_lt i (length ts))
    where
      go : Dec (i < length ts) → get_or (ts ++ us) i true ≡ true
      go (yes l) = get_or-append ts us true i l ∙ pass i
      go (no n) =
          let e : i ≡ length ts + (i - length ts) = omega arith in
          rw e (get_or-append-add ts us (i - length ts) true ∙ h (i - length ts) e)

  failing_later : first_failing (ts ++ us) ≡ option_map (λ (i : ℕ). length ts + i) (first_failing us)
  failing_later = go (first_failing us) refl
    where
      go : (o : Option ℕ) → first_failing us ≡ o → first_failing (ts ++ us) ≡ option_map (λ (i : ℕ). length ts + i) o
      go None e = failing_none (ts ++ us) (λ i. at_both i (λ j _. none_failing us e j))
      go (Some j) e =
          let was = failing_was us j e in
          failing_at (ts ++ us) (length ts + j) (omega (arith, was.0, length-append ts us))
          (λ i l. at_both i (λ m f. was.2 m (omega arith)))
          (get_or-append-add ts us j true ∙ was.1)

-- ---- the tests of the fields
length_field_tests : (way : Way) (ss : List Shape) (row : List ℕ) → length (field_tests way ss row) ≡ length ss
unfolding field_tests
length_field_tests way [] row = refl
length_field_tests way (s ∷ ss) [] = ap suc (length_field_tests way ss [])
length_field_tests way (s ∷ ss) (n ∷ row) = ap suc (length_field_tests way ss row)

field_test_at : (way : Way) (ss : List Shape) (row : List ℕ) (k : ℕ) → k < length ss
    → get_or (field_tests way ss row) k true ≡ is_some (convert way (get_or ss k blank) (get_or row k 0))
unfolding field_tests
field_test_at way [] row k h = absurd (not-suc-le-zero h)
field_test_at way (s ∷ ss) [] zero h = refl
field_test_at way (s ∷ ss) [] (suc k) h = field_test_at way ss [] k (le_of_suc-le-suc h)
field_test_at way (s ∷ ss) (n ∷ row) zero h = refl
field_test_at way (s ∷ ss) (n ∷ row) (suc k) h = field_test_at way ss row k (le_of_suc-le-suc h)

-- ---- the tests of the pairs
-- each pair is in order
abbrev pub Ordered : List Shape → List Order → List ℕ → Type 0
Ordered ss [] row = Unit
Ordered ss (o ∷ os) row = (get_or row (place_in ss o.lesser) 0 ≤ get_or row (place_in ss o.greater) 0) × Ordered ss os row

ordered_was : (ss : List Shape) (os : List Order) (row : List ℕ) → Pass (order_tests ss os row) → Ordered ss os row
unfolding order_tests
ordered_was ss [] row pass = tt
ordered_was ss (o ∷ os) row pass = (leb-true _ _ (pass 0), ordered_was ss os row (λ i. pass (suc i)))

pub ordered_pass : (ss : List Shape) (os : List Order) (row : List ℕ) → Ordered ss os row → Pass (order_tests ss os row)
unfolding order_tests
ordered_pass ss [] row h i = refl
ordered_pass ss (o ∷ os) row h zero = le-leb _ _ h.0
ordered_pass ss (o ∷ os) row h (suc i) = ordered_pass ss os row h.1 i

-- ---- the fault of a row
module _ (way : Way) (kind : ℕ) (row : List ℕ) where
  -- what field k gives
  abbrev given : ℕ → Option ℕ
  given k = convert way (get_or (layout kind) k blank) (get_or row k 0)

  fields : List Bool
  fields = field_tests way (layout kind) row

  -- the first k fields are in range
  abbrev pub GoodTo : ℕ → Type 0
  GoodTo k = (i : ℕ) → i < k → is_some (given i) ≡ true

  fields_pass : GoodTo (length (layout kind)) → Pass fields
  unfolding fields
  fields_pass good i = go (dec_lt i (length (layout kind)))
    where
      go : Dec (i < length (layout kind)) → get_or fields i true ≡ true
      go (yes h) = field_test_at way (layout kind) row i h ∙ good i h
      go (no n) = get_or-eq_default fields true {n = i} (omega (arith, length_field_tests way (layout kind) row))

  -- a field that is out of range, behind fields that are not, is the fault
  pub fault_field : (k : ℕ) → k < length (layout kind) → GoodTo k → is_some (given k) ≡ false → row_fault way kind row ≡ Some k
  unfolding row_fault_in
  fault_field k h good bad =
      let n = length_field_tests way (layout kind) row in
      let os = order_tests (layout kind) (orders kind) row in
      let at_field : (i : ℕ) → i ≤ k → get_or (field_tests way (layout kind) row ++ os) i true ≡ is_some (given i) =
      λ i l. get_or-append (field_tests way (layout kind) row) os true i (omega arith) ∙ field_test_at way (layout kind) row i (omega arith) in
      failing_at (field_tests way (layout kind) row ++ os) k (omega (arith, length-append (field_tests way (layout kind) row) os))
      (λ i l. at_field i (omega arith) ∙ good i l)
      (at_field k (omega arith) ∙ bad)

  -- where all fields are in range, it is that of the pairs
  pub fault_order : GoodTo (length (layout kind)) → row_fault way kind row ≡ order_fault kind row
  unfolding row_fault_in order_fault fields
  fault_order good =
      failing_later fields (order_tests (layout kind) (orders kind) row) (fields_pass good)
      ∙ ap (λ (n : ℕ). option_map (λ (i : ℕ). n + i) (first_failing (order_tests (layout kind) (orders kind) row))) (length_field_tests way (layout kind) row)

-- ---- the fault of the pairs
pub pairs_pass : (kind : ℕ) (row : List ℕ) → Ordered (layout kind) (orders kind) row → order_fault kind row ≡ None
unfolding order_fault
pairs_pass kind row h = rw (failing_none (order_tests (layout kind) (orders kind) row) (ordered_pass (layout kind) (orders kind) row h))

-- ---- a row without fault
-- each field is in range and gives the number that stands in the row converted, and each pair is in order
pub record Faultless (way : Way) (kind : ℕ) (row : List ℕ) : Type 0 where
  pub fields : (k : ℕ) → k < length (layout kind)
      → convert way (get_or (layout kind) k blank) (get_or row k 0) ≡ Some (get_or (converted way (layout kind) row) k 0)
  pub ordered : Ordered (layout kind) (orders kind) row

is_some_lem : (o : Option ℕ) → is_some o ≡ true → o ≡ Some (number_or0 o)
unfolding is_some number_or0
is_some_lem None e = absurd (false≢true e)
is_some_lem (Some n) e = refl

pub faultless : (way : Way) (kind : ℕ) (row : List ℕ) → row_fault way kind row ≡ None → Faultless way kind row
unfolding row_fault_in
faultless way kind row e =
    let ts = field_tests way (layout kind) row in
    let us = order_tests (layout kind) (orders kind) row in
    let pass = none_failing (ts ++ us) e in
    let n = length_field_tests way (layout kind) row in
    record {
      fields = λ k h.
          is_some_lem _ (sym (field_test_at way (layout kind) row k h) ∙ sym (get_or-append ts us true k (omega arith)) ∙ pass k)
          ∙ ap Some (sym (converted_at way (layout kind) row k h));
      ordered = ordered_was (layout kind) (orders kind) row (λ i. sym (get_or-append-add ts us i true) ∙ pass (length ts + i));
    }

pub no_fault : (way : Way) (kind : ℕ) (row : List ℕ) → Faultless way kind row → row_fault way kind row ≡ None
no_fault way kind row f = fault_order way kind row (λ i h. some_told _ _ (f.fields i h)) ∙ pairs_pass kind row f.ordered

-- ---- rows that agree at each place have one fault
pairs_same : (row row' : List ℕ) → ((k : ℕ) → get_or row k 0 ≡ get_or row' k 0) → (ss : List Shape) (os : List Order) → order_tests ss os row ≡ order_tests ss os row'
unfolding order_tests
pairs_same row row' same ss [] = refl
pairs_same row row' same ss (o ∷ os) = ap₂ ◌∷◌ (rw (same (place_in ss o.lesser), same (place_in ss o.greater))) (pairs_same row row' same ss os)

pub fault_same : (way : Way) (kind : ℕ) (row row' : List ℕ) → ((k : ℕ) → get_or row k 0 ≡ get_or row' k 0) → row_fault way kind row ≡ row_fault way kind row'
unfolding row_fault_in
fault_same way kind row row' same =
    let ss = layout kind in
    let fields : field_tests way ss row ≡ field_tests way ss row' =
    ext_get_or true (field_tests way ss row) (field_tests way ss row')
    (length_field_tests way ss row ∙ sym (length_field_tests way ss row'))
    (λ k h.
    let low = rw (length_field_tests way ss row) at h in
    field_test_at way ss row k low
    ∙ ap (λ (n : ℕ). is_some (convert way (get_or ss k blank) n)) (same k)
    ∙ sym (field_test_at way ss row' k low)) in
    rw (fields, pairs_same row row' same (layout kind) (orders kind))

pub fault_wide : (way : Way) (kind : ℕ) (row : List ℕ) → row_fault way kind (wide row) ≡ row_fault way kind row
fault_wide way kind row = fault_same way kind (wide row) row (wide_at row)

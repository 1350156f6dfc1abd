-- What a stored field means and how a meaning is stored, kind by kind; and the two give each other back, so nothing is lost between table and lists.
-- Assumes nothing.
use mathlib.Core.Path.{◌≡◌, refl, sym, ap, ◌∙◌}
use mathlib.Core.Bool.{Bool, true, false, and-eq-true_iff}
use mathlib.Core.Logic.{◌⊎◌, inl, inr, ⊎_elim}
use Rattle.std.specs.Prelude.{None, Some}
use Rattle.std.proofs.lemmas.Option.{same_Some}
use Prim.Native.Nat.{ℕ, ◌+◌, ◌-◌, ◌^◌, ◌≤◌, ◌<◌}
use native.Mathlib.Decide.{dec_le, ℕ_discrete}
use native.Mathlib.Omega.{arith}
use lib.Dec.{T, ltb, leb, eqb, ltb→lt, eqb→eq}
use lib.Pow.{pow_pos}
use borrow.Author.Tests.{lt-ltb, le-ltb, ltb-true, leb-true, ne_eqb, eqb-true}
use Rattle.base.specs.Pick.{pick, within}
use Rattle.base.proofs.Every.{right}
use Rattle.base.proofs.Tests.{within_yes, within_above, pick_gave}
use Rattle.frame.proofs.GapLaws.{ms_was, code_back, ms_back}
use Rattle.layout.specs.declared.Kind.{Kind}
use Rattle.layout.specs.declared.Kind.TheVariants.{Number, Reference, Padding, Gap, LessOne, Speed}
use Rattle.layout.specs.declared.Shape.{Shape}
use Rattle.layout.specs.declared.Way.{Way}
use Rattle.layout.specs.declared.Way.TheVariants.{Reading, Writing}
use Rattle.layout.specs.Fields.{meaning, stored_as, convert}
use Rattle.layout.proofs.LayoutLaws.{roomy, sane}

within_was : (a b n : ℕ) → within a b n ≡ true → (a ≤ n) × (n ≤ b)
within_was a b n e = let both = (and-eq-true_iff (leb a n) (leb n b)).0 e in (leb-true a n both.0, leb-true n b both.1)

-- ---- a number that is from low to high, and that only
pub between_given : (low high n : ℕ) → low ≤ n → n ≤ high → pick (within low high n) (Some n) None ≡ Some n
between_given low high n h l = rw (within_yes low high n (h, l))

between_was : (low high n v : ℕ) → pick (within low high n) (Some n) None ≡ Some v → (low ≤ n) × (n ≤ high) × (n ≡ v)
between_was low high n v e =
    let given = pick_gave (within low high n) n v e in
    let range = within_was low high n given.0 in
    (range.0, range.1, given.1)

-- a number is stored as it is meant
pub number_was : (way : Way) (s : Shape) (low high n v : ℕ) → s.kind ≡ Number low high → convert way s n ≡ Some v → (low ≤ n) × (n ≤ high) × (n ≡ v)
unfolding convert meaning stored_as
number_was Reading s low high n v is e = between_was low high n v (rw is at e)
number_was Writing s low high n v is e = between_was low high n v (rw is at e)

-- ---- padding is the number from 0 to 0, and a reference in its field one from 0 to all ones
pub padding_is : (n : ℕ) → pick (within 0 0 n) (Some n) None ≡ meaning Padding n
unfolding meaning
padding_is n = go (ℕ_discrete n 0)
  where
    go : Dec (n ≡ 0) → pick (within 0 0 n) (Some n) None ≡ pick (eqb n 0) (Some 0) None
    go (yes e) = rw e
    go (no m) = rw (within_above 0 0 n (omega arith), ne_eqb n 0 m)

pub padding_stored : (width v : ℕ) → stored_as Padding width v ≡ meaning Padding v
unfolding stored_as meaning
padding_stored width v = refl

padding_was : (n v : ℕ) → meaning Padding n ≡ Some v → (n ≡ 0) × (v ≡ 0)
unfolding meaning
padding_was n v e = let given = pick_gave (eqb n 0) 0 v e in (eqb-true n 0 given.0, sym given.1)

pub padding_converted : (way : Way) (s : Shape) (n v : ℕ) → s.kind ≡ Padding → convert way s n ≡ Some v → (n ≡ 0) × (v ≡ 0)
unfolding convert
padding_converted Reading s n v is e = padding_was n v (rw is at e)
padding_converted Writing s n v is e = padding_was n v (sym (padding_stored s.width n) ∙ rw is at e)

pub reference_is : (width v : ℕ) → pick (within 0 (2 ^ width - 1) v) (Some v) None ≡ stored_as Reference width v
unfolding stored_as
reference_is width v = go (dec_le (2 ^ width) v)
  where
    go : Dec (2 ^ width ≤ v) → pick (within 0 (2 ^ width - 1) v) (Some v) None ≡ pick (ltb v (2 ^ width)) (Some v) None
    go (yes h) = rw (within_above 0 (2 ^ width - 1) v (omega (arith, pow_pos width)), le-ltb v (2 ^ width) h)
    go (no n) = rw (within_yes 0 (2 ^ width - 1) v (omega (arith, pow_pos width)), lt-ltb v (2 ^ width) (omega arith))

reference_given : (width v : ℕ) → v < 2 ^ width → stored_as Reference width v ≡ Some v
unfolding stored_as
reference_given width v h = rw (lt-ltb v (2 ^ width) h)

reference_was : (width v n : ℕ) → stored_as Reference width v ≡ Some n → (v < 2 ^ width) × (v ≡ n)
unfolding stored_as
reference_was width v n e = let given = pick_gave (ltb v (2 ^ width)) v n e in (ltb-true v (2 ^ width) given.0, given.1)

-- ---- a count less one
pub less_one_meant : (n : ℕ) → n < 4 → meaning LessOne n ≡ Some (n + 1)
unfolding meaning
less_one_meant n h = rw (lt-ltb n 4 h)

pub less_one_was : (n v : ℕ) → meaning LessOne n ≡ Some v → (n < 4) × (n + 1 ≡ v)
unfolding meaning
less_one_was n v e = let given = pick_gave (ltb n 4) (n + 1) v e in (ltb-true n 4 given.0, given.1)

pub less_one_stored : (width v : ℕ) → 1 ≤ v → v ≤ 4 → stored_as LessOne width v ≡ Some (v - 1)
unfolding stored_as
less_one_stored width v h l = rw (within_yes 1 4 v (h, l))

less_one_stored_was : (width v n : ℕ) → stored_as LessOne width v ≡ Some n → (1 ≤ v) × (v ≤ 4) × (v - 1 ≡ n)
unfolding stored_as
less_one_stored_was width v n e =
    let given = pick_gave (within 1 4 v) (v - 1) n e in
    let range = within_was 1 4 v given.0 in
    (range.0, range.1, given.1)

-- ---- a speed: 0 stands for 100 and 1 for 10
abbrev pub SpeedCode : ℕ → ℕ → Type 0
SpeedCode n v = ((n ≡ 0) × (v ≡ 100)) ⊎ ((n ≡ 1) × (v ≡ 10))

pub speed_meant : (n v : ℕ) → SpeedCode n v → meaning Speed n ≡ Some v
unfolding meaning
speed_meant n v (inl h) = rw (h.0, h.1)
speed_meant n v (inr h) = rw (h.0, h.1)

pub speed_stored : (width n v : ℕ) → SpeedCode n v → stored_as Speed width v ≡ Some n
unfolding stored_as
speed_stored width n v (inl h) = rw (h.0, h.1)
speed_stored width n v (inr h) = rw (h.0, h.1)

-- one of two numbers stands for one of two
choice_was : (x a b p q y : ℕ) → pick (eqb x a) (Some p) (pick (eqb x b) (Some q) None) ≡ Some y → ((x ≡ a) × (y ≡ p)) ⊎ ((x ≡ b) × (y ≡ q))
choice_was x a b p q y e = go (eqb x a) refl e
  where
    go : (t : Bool) → eqb x a ≡ t → pick t (Some p) (pick (eqb x b) (Some q) None) ≡ Some y → ((x ≡ a) × (y ≡ p)) ⊎ ((x ≡ b) × (y ≡ q))
    go true h f = inl (eqb-true x a h, sym (same_Some p y f))
    go false h f = let given = pick_gave (eqb x b) q y f in inr (eqb-true x b given.0, sym given.1)

pub speed_was : (n v : ℕ) → meaning Speed n ≡ Some v → SpeedCode n v
unfolding meaning
speed_was n v e = choice_was n 0 1 100 10 v e

speed_stored_was : (width v n : ℕ) → stored_as Speed width v ≡ Some n → SpeedCode n v
unfolding stored_as
speed_stored_was width v n e = turned (choice_was v 100 10 0 1 n e)
  where
    turned : ((v ≡ 100) × (n ≡ 0)) ⊎ ((v ≡ 10) × (n ≡ 1)) → SpeedCode n v
    turned (inl h) = inl (h.1, h.0)
    turned (inr h) = inr (h.1, h.0)

-- ---- the two give each other back
stored_again : (kind : Kind) (width n v : ℕ) → n < 2 ^ width → meaning kind n ≡ Some v → stored_as kind width v ≡ Some n
unfolding meaning stored_as
stored_again (Number low high) width n v h e =
    let was = between_was low high n v e in rw (← was.2) (between_given low high n was.0 was.1)
stored_again Reference width n v h e = let same = same_Some n v e in rw (← same) (reference_given width n h)
stored_again Padding width n v h e = let was = padding_was n v e in rw (was.0, was.1)
stored_again Gap width n v h e = code_back n v e
stored_again LessOne width n v h e =
    let was = less_one_was n v e in less_one_stored width v (omega arith) (omega arith) ∙ ap Some (omega arith)
stored_again Speed width n v h e = speed_stored width n v (speed_was n v e)

meant_again : (kind : Kind) (width v n : ℕ) → T (roomy kind width) → stored_as kind width v ≡ Some n → (n < 2 ^ width) × (meaning kind n ≡ Some v)
unfolding meaning stored_as roomy
meant_again (Number low high) width v n t e =
    let was = between_was low high v n e in
    let wide = ltb→lt high (2 ^ width) t in
    (omega arith, rw (← was.2) (between_given low high v was.0 was.1))
meant_again Reference width v n t e = let was = reference_was width v n e in rw (← was.1) (was.0, refl)
meant_again Padding width v n t e = let was = padding_was v n e in (omega (arith, pow_pos width), rw (was.0, was.1))
meant_again Gap width v n t e =
    let back = ms_back v n e in
    let is = eqb→eq width 3 t in
    (rw is (ms_was n v back).0, back)
meant_again LessOne width v n t e =
    let was = less_one_stored_was width v n e in
    let is = eqb→eq width 2 t in
    (rw is (omega arith), less_one_meant n (omega arith) ∙ ap Some (omega arith))
meant_again Speed width v n t e =
    let code = speed_stored_was width v n e in
    let is = eqb→eq width 1 t in
    (rw is (⊎_elim (λ h. omega arith) (λ h. omega arith) code), speed_meant n v code)

-- what was read from a field and fits it, written to it again
pub write_after_read : (s : Shape) (n v : ℕ) → n < 2 ^ s.width → convert Reading s n ≡ Some v → convert Writing s v ≡ Some n
unfolding convert
write_after_read s n v h e = stored_again s.kind s.width n v h e

-- what was written to a sane field fits it, and is read again
pub read_after_write : (s : Shape) (v n : ℕ) → T (sane s) → convert Writing s v ≡ Some n → (n < 2 ^ s.width) × (convert Reading s n ≡ Some v)
unfolding convert sane
read_after_write s v n t e = meant_again s.kind s.width v n (right (leb s.width 32) (roomy s.kind s.width) t) e

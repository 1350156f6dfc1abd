-- The words of a line, number by number, and the fields of a line by the layout's kinds; and a line has at most 197 bytes.
-- Assumes nothing.
use Prim.Native.Nat.{ℕ, zero, suc, ◌+◌, ◌-◌, ◌*◌, ◌≤◌, ◌<◌, min}
use mathlib.Core.Path.{◌≡◌, refl, sym, ap, ◌∙◌}
use mathlib.Core.Bool.{Bool, true, false}
use mathlib.Core.List.{List, [], ◌∷◌, ◌++◌, append_assoc, append-nil}
use native.Mathlib.Omega.{arith}
use native.Mathlib.Decide.{ℕ_discrete, dec_lt}
use lib.Dec.{eqb, leb, leb→le}
use lib.ListN.{length, get_or, take, length-append, length-take, get_or-eq_default}
use lib.Seq.{take-nil, get_or-take}
use Rattle.base.specs.Pick.{pick}
use Rattle.base.proofs.Every.{at}
use Rattle.layout.specs.declared.Shape.{Shape}
use Rattle.layout.specs.declared.Name.{Name}
use Rattle.layout.specs.declared.Name.TheVariants as name
use Rattle.layout.specs.Names.{number_of, same as is}
use Rattle.layout.specs.Layout.{layout_in, layout, kind_of, blank}
use Rattle.layout.specs.Rows.{listed}
use Rattle.layout.proofs.LayoutLaws.{listed_past, listed_same, listed_fields, listed_few}
use Rattle.text.specs.Text.{decimal}
use Rattle.text.proofs.DecimalLaws.{length_decimal}
use Rattle.words.specs.Printed.{line_from, line_of}
use Rattle.notation.specs.declared.Form.{Form}
use Rattle.notation.specs.declared.Form.TheVariants.{Decimal, Choice, Parent}
use Rattle.notation.specs.Notation.{Word, keywords, line_fields, form_of, choices, none_word, after_word, parent_words, field_words}
use Rattle.notation.specs.Printed.{fields_words, line_words, LineFits}
use Rattle.notation.proofs.FieldLaws.{choices_are, decimal_words, choice_words, parent_words_lem}

-- ---- words in a line
pub line_from_one : (w : Word) → line_from (w ∷ []) ≡ 32 ∷ w
unfolding line_from
line_from_one w = append-nil (32 ∷ w)

pub line_from_append : (vs ws : List Word) → line_from (vs ++ ws) ≡ line_from vs ++ line_from ws
unfolding line_from
line_from_append [] ws = refl
line_from_append (v ∷ vs) ws =
    ap (λ (l : List ℕ). (32 ∷ v) ++ l) (line_from_append vs ws) ∙ sym (append_assoc (32 ∷ v) (line_from vs) (line_from ws))

-- a parent is one more than its row
pub parent_after : (v : ℕ) → 0 < v → line_from (parent_words v) ≡ (32 ∷ after_word) ++ (32 ∷ decimal (v - 1))
unfolding parent_words line_from
parent_after zero h = absurd (omega arith)
parent_after (suc g) h =
    let e : suc g - 1 ≡ g = omega arith in rw e (ap (λ (l : List ℕ). (32 ∷ after_word) ++ l) (line_from_one (decimal g)))

-- ---- numbers one by one
-- the words of field k
abbrev pub words_at : List Shape → List ℕ → ℕ → List Word
words_at ss ns k = pick (eqb (get_or ss k blank).width 0) [] (field_words (get_or ss k blank).name (get_or ns k 0))

pub fields_none : (ss : List Shape) → fields_words ss [] ≡ []
unfolding fields_words
fields_none [] = refl
fields_none (s ∷ ss) = refl

pub fields_next : (ss : List Shape) (ns : List ℕ) (k : ℕ) → k < length ss → k < length ns
    → fields_words ss (take (suc k) ns) ≡ fields_words ss (take k ns) ++ words_at ss ns k
unfolding fields_words
fields_next [] ns k h l = absurd (omega arith)
fields_next (s ∷ ss) [] k h l = absurd (omega arith)
fields_next (s ∷ ss) (n ∷ ns) zero h l = rw (fields_none ss) (append-nil _)
fields_next (s ∷ ss) (n ∷ ns) (suc k) h l =
    let first = pick (eqb s.width 0) [] (field_words s.name n) in
    ap (λ (ws : List Word). first ++ ws) (fields_next ss ns k (omega arith) (omega arith))
    ∙ sym (append_assoc first (fields_words ss (take k ns)) (words_at ss ns k))

-- numbers past the last field have no words
pub fields_all : (ss : List Shape) (ns : List ℕ) (k : ℕ) → min (length ss) (length ns) ≤ k → fields_words ss (take k ns) ≡ fields_words ss ns
unfolding fields_words
fields_all [] ns k h = refl
fields_all (s ∷ ss) [] k h = rw (take-nil {A = ℕ} k)
fields_all (s ∷ ss) (n ∷ ns) zero h = absurd (omega arith)
fields_all (s ∷ ss) (n ∷ ns) (suc k) h =
    ap (λ (ws : List Word). pick (eqb s.width 0) [] (field_words s.name n) ++ ws) (fields_all ss ns k (omega arith))

-- ---- the fields of a line
pub record_fields : (v s : ℕ) → (s ≡ 0 → ⊥) → (s ≡ 6 → ⊥) → line_fields v s ≡ take (listed s) (layout (kind_of v s))
unfolding line_fields
record_fields v zero a b = absurd (a refl)
record_fields v (suc zero) a b = refl
record_fields v (suc (suc zero)) a b = refl
record_fields v (suc (suc (suc zero))) a b = refl
record_fields v (suc (suc (suc (suc zero)))) a b = refl
record_fields v (suc (suc (suc (suc (suc zero))))) a b = refl
record_fields v (suc (suc (suc (suc (suc (suc zero)))))) a b = absurd (b refl)
record_fields v (suc (suc (suc (suc (suc (suc (suc s))))))) a b = rw (listed_past (suc (suc (suc (suc (suc (suc (suc s))))))) (omega arith))

pub delays_count : (v : ℕ) → length (line_fields v 0) ≡ 4
unfolding line_fields layout_in
delays_count v = refl

pub version_count : (v : ℕ) → length (line_fields v 6) ≡ 1
unfolding line_fields layout_in
version_count v = refl

pub record_count : (v s : ℕ) → (s ≡ 0 → ⊥) → (s ≡ 6 → ⊥) → length (line_fields v s) ≡ listed s
record_count v s a b =
    rw (record_fields v s a b, length-take (listed s) (layout (kind_of v s))) (omega (arith, listed_same v s, listed_fields (kind_of v s)))

pub delay_field : (v k : ℕ) → k < 4 → get_or (layout 0) (k + 6) blank ≡ get_or (line_fields v 0) k blank
unfolding line_fields layout_in
delay_field v zero h = refl
delay_field v (suc zero) h = refl
delay_field v (suc (suc zero)) h = refl
delay_field v (suc (suc (suc zero))) h = refl
delay_field v (suc (suc (suc (suc k)))) h = absurd (omega arith)

pub record_field : (v s k : ℕ) → (s ≡ 0 → ⊥) → (s ≡ 6 → ⊥) → k < length (line_fields v s)
    → get_or (layout (kind_of v s)) k blank ≡ get_or (line_fields v s) k blank
record_field v s k a b h =
    rw (record_fields v s a b) (sym (get_or-take (listed s) (layout (kind_of v s)) k blank (omega (arith, record_count v s a b))))

-- ---- how long a line is
record_few : (s : ℕ) → (s ≡ 0 → ⊥) → listed s ≤ 7
record_few zero a = absurd (a refl)
record_few (suc s) a = listed_few s

few_fields : (v s : ℕ) → length (line_fields v s) ≤ 7
few_fields v s = go (ℕ_discrete s 0) (ℕ_discrete s 6)
  where
    go : Dec (s ≡ 0) → Dec (s ≡ 6) → length (line_fields v s) ≤ 7
    go (yes e) d = rw (e, delays_count v) (omega arith)
    go (no a) (yes e) = rw (e, version_count v) (omega arith)
    go (no a) (no b) = rw (record_count v s a b) (record_few s a)

pub keyword_short : (s : ℕ) → length (get_or keywords s []) ≤ 7
unfolding keywords
keyword_short s = go (dec_lt s 7)
  where
    go : Dec (s < 7) → length (get_or keywords s []) ≤ 7
    go (yes h) = leb→le _ _ (at (λ k. leb (length (get_or keywords k [])) 7) 7 tt s h)
    go (no n) = rw (get_or-eq_default keywords [] {n = s} (omega arith)) (omega arith)

kind_short : (v : ℕ) (d : Word) → length d ≤ 20 → length (get_or (choices name.Kind) v d) ≤ 20
unfolding choices number_of
kind_short zero d h = omega arith
kind_short (suc zero) d h = omega arith
kind_short (suc (suc v)) d h = h

choice_short : (n : Name) (v : ℕ) → length (get_or (choices n) v (decimal v)) ≤ 20
choice_short n v = go (is n name.Kind) (choices_are n)
  where
    go : (t : Bool) → choices n ≡ pick t (choices name.Kind) [] → length (get_or (choices n) v (decimal v)) ≤ 20
    go true e = rw e (kind_short v (decimal v) (length_decimal v))
    go false e = rw e (length_decimal v)

parent_short : (v : ℕ) → length (line_from (parent_words v)) ≤ 27
unfolding parent_words none_word after_word line_from
parent_short zero = omega arith
parent_short (suc g) = simp length-append (omega (arith, length_decimal g))

field_short : (n : Name) (v : ℕ) → length (line_from (field_words n v)) ≤ 27
field_short n v = go (form_of n) refl
  where
    go : (f : Form) → form_of n ≡ f → length (line_from (field_words n v)) ≤ 27
    go Decimal e = rw (decimal_words n v e, line_from_one (decimal v)) (omega (arith, length_decimal v))
    go Choice e = rw (choice_words n v e, line_from_one (get_or (choices n) v (decimal v))) (omega (arith, choice_short n v))
    go Parent e = rw (parent_words_lem n v e) (parent_short v)

fields_short : (ss : List Shape) (ns : List ℕ) → length (line_from (fields_words ss ns)) ≤ 27 * length ss
unfolding fields_words line_from
fields_short [] ns = omega arith
fields_short (s ∷ ss) [] = omega arith
fields_short (s ∷ ss) (n ∷ ns) =
    let first = pick (eqb s.width 0) [] (field_words s.name n) in
    rw (line_from_append first (fields_words ss ns), length-append (line_from first) (line_from (fields_words ss ns)))
    (omega (arith, go (eqb s.width 0), fields_short ss ns))
  where
    go : (t : Bool) → length (line_from (pick t [] (field_words s.name n))) ≤ 27
    go true = omega arith
    go false = field_short s.name n

pub line_fits : LineFits
unfolding line_of line_words
line_fits v s ns =
    simp length-append (omega (arith, keyword_short s, fields_short (line_fields v s) ns, few_fields v s))

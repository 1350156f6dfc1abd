-- What words say of a field and of fields, one after the other: the laws by which a line is read from the front.
-- Assumes nothing.
use Prim.Native.Nat.{ℕ, suc, ◌-◌, ◌^◌, ◌≤◌, ◌<◌, min}
use mathlib.Core.Path.{◌≡◌, refl, ap}
use mathlib.Core.Bool.{Bool, true, false}
use mathlib.Core.List.{List, [], ◌∷◌, ◌++◌}
use Rattle.std.specs.Prelude.{None, Some}
use lib.Dec.{eqb}
use lib.ListN.{length, get_or, drop, drop_of_length-le}
use lib.Seq.{drop-cons}
use Rattle.base.specs.Pick.{pick}
use Rattle.layout.specs.Layout.{blank}
use Rattle.layout.specs.declared.Name.{Name}
use Rattle.layout.specs.declared.Shape.{Shape}
use Rattle.words.specs.Words.{numeral}
use Rattle.notation.specs.declared.Form.TheVariants.{Decimal, Choice, Parent}
use Rattle.notation.specs.Notation.{Word, keywords, word_in, line_fields, form_of, choices}
use Rattle.notation.specs.Meant.{taken, row_from, field_from, Said, numbers, wrong, with_number, fields_from, of, silent, unknown, line_said}
use Rattle.notation.specs.Steps.{parent_from, shape_from}

-- ---- a field
pub row_none : row_from [] ≡ None
unfolding row_from
row_none = refl

pub row_wrong : (w : Word) (ws : List Word) → numeral w ≡ None → row_from (w ∷ ws) ≡ None
unfolding row_from
row_wrong w ws e = rw (e, row_from)

pub row_said : (w : Word) (ws : List Word) (g : ℕ) → numeral w ≡ Some g
    → row_from (w ∷ ws) ≡ taken (Some (min (suc g) (2 ^ 64 - 1))) ws
unfolding row_from
row_said w ws g e = rw (e, row_from)

pub field_none : (n : Name) → field_from n [] ≡ None
unfolding field_from
field_none n = refl

pub field_decimal : (n : Name) (w : Word) (ws : List Word) → form_of n ≡ Decimal → field_from n (w ∷ ws) ≡ taken (numeral w) ws
unfolding field_from
field_decimal n w ws e = rw (e, field_from)

pub field_choice : (n : Name) (w : Word) (ws : List Word) → form_of n ≡ Choice → field_from n (w ∷ ws) ≡ taken (word_in (choices n) w) ws
unfolding field_from
field_choice n w ws e = rw (e, field_from)

pub field_parent : (n : Name) (w : Word) (ws : List Word) → form_of n ≡ Parent → field_from n (w ∷ ws) ≡ parent_from w ws
unfolding field_from parent_from
field_parent n w ws e = rw (e, field_from)

-- ---- fields
-- numbers in front of what is said
unfoldable pub with_numbers : List ℕ → Said → Said
with_numbers [] x = x
with_numbers (n ∷ ns) x = with_number n (with_numbers ns x)

pub with_last : (ns : List ℕ) (v : ℕ) (x : Said) → with_numbers (ns ++ (v ∷ [])) x ≡ with_numbers ns (with_number v x)
unfolding with_numbers
with_last [] v x = refl
with_last (n ∷ ns) v x = ap (with_number n) (with_last ns v x)

pub with_wrong : (ns : List ℕ) (ws : List Word) → with_numbers ns (wrong 0 ws) ≡ wrong (length ns) ws
unfolding with_numbers with_number
with_wrong [] ws = refl
with_wrong (n ∷ ns) ws = ap (with_number n) (with_wrong ns ws)

pub with_none : (ns : List ℕ) → with_numbers ns (numbers []) ≡ numbers ns
unfolding with_numbers with_number
with_none [] = refl
with_none (n ∷ ns) = ap (with_number n) (with_none ns)

pub fields_by : (s : Shape) (ss : List Shape) (ws : List Word)
    → fields_from (s ∷ ss) ws ≡ elim (shape_from s ws) [ None ↦ wrong 0 ws | Some t ↦ with_number t.value (fields_from ss t.rest) ]
unfolding fields_from shape_from taken
fields_by s ss ws = go (eqb s.width 0)
  where
    go : (t : Bool) → pick t (with_number 0 (fields_from ss ws))
        (elim (field_from s.name ws) [ None ↦ wrong 0 ws | Some t ↦ with_number t.value (fields_from ss t.rest) ])
        ≡ elim (pick t (taken (Some 0) ws) (field_from s.name ws)) [ None ↦ wrong 0 ws | Some t ↦ with_number t.value (fields_from ss t.rest) ]
    go true = refl
    go false = refl

-- from field k on
module _ (ss : List Shape) (k : ℕ) (ws : List Word) where
  pub fields_next : (v : ℕ) (us : List Word) → k < length ss → shape_from (get_or ss k blank) ws ≡ taken (Some v) us
      → fields_from (drop k ss) ws ≡ with_number v (fields_from (drop (suc k) ss) us)
  unfolding taken
  fields_next v us h e = rw (drop-cons ss k blank h, fields_by (get_or ss k blank) (drop (suc k) ss) ws, e)

  pub fields_stop : k < length ss → shape_from (get_or ss k blank) ws ≡ None → fields_from (drop k ss) ws ≡ wrong 0 ws
  fields_stop h e = rw (drop-cons ss k blank h, fields_by (get_or ss k blank) (drop (suc k) ss) ws, e)

pub fields_end : (ss : List Shape) (k : ℕ) → length ss ≤ k → fields_from (drop k ss) [] ≡ numbers []
unfolding fields_from
fields_end ss k h = rw (drop_of_length-le ss h)

pub fields_over : (ss : List Shape) (k : ℕ) (w : Word) (ws : List Word) → length ss ≤ k → fields_from (drop k ss) (w ∷ ws) ≡ wrong 0 (w ∷ ws)
unfolding fields_from
fields_over ss k w ws h = rw (drop_of_length-le ss h)

-- ---- a line
pub line_silent : (version : ℕ) → line_said version [] ≡ silent
unfolding line_said
line_silent version = refl

pub line_unknown : (version : ℕ) (w : Word) (ws : List Word) → word_in keywords w ≡ None → line_said version (w ∷ ws) ≡ unknown
unfolding line_said
line_unknown version w ws e = rw (e, line_said)

pub line_of : (version : ℕ) (w : Word) (ws : List Word) (s : ℕ) → word_in keywords w ≡ Some s
    → line_said version (w ∷ ws) ≡ of s (fields_from (line_fields version s) ws)
unfolding line_said
line_of version w ws s e = rw (e, line_said)

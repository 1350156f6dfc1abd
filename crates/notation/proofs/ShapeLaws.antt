-- The fields of a line by the section: how many there are, and which.
-- Assumes nothing.
use Prim.Native.Nat.{ℕ, zero, suc, ◌+◌, ◌≤◌, ◌<◌}
use mathlib.Core.Path.{◌≡◌, refl, sym, ap, ◌∙◌}
use native.Mathlib.Omega.{arith}
use borrow.Author.Tests.{ne_eqb}
use lib.ListN.{length, get_or, take, drop, length-take}
use lib.Seq.{get_or-take, get_or-drop}
use Rattle.layout.specs.Layout.{layout, layout_in, kind_of, kinds_of, blank}
use Rattle.layout.specs.Fields.{is_padding}
use Rattle.layout.specs.Rows.{listed, listed_in}
use Rattle.layout.proofs.LayoutLaws.{listed_fields, listed_same, listed_past}
use Rattle.notation.specs.Notation.{version_line, line_fields}
use Rattle.notation.specs.Steps.{fields_of}

-- each section in its turn
pub by_section : (P : ℕ → Type 0) → P 0 → P 1 → P 2 → P 3 → P 4 → P 5 → P 6 → ((s : ℕ) → P (suc (suc (suc (suc (suc (suc (suc s)))))))) → (s : ℕ) → P s
by_section P a b c d e f g h zero = a
by_section P a b c d e f g h (suc zero) = b
by_section P a b c d e f g h (suc (suc zero)) = c
by_section P a b c d e f g h (suc (suc (suc zero))) = d
by_section P a b c d e f g h (suc (suc (suc (suc zero)))) = e
by_section P a b c d e f g h (suc (suc (suc (suc (suc zero))))) = f
by_section P a b c d e f g h (suc (suc (suc (suc (suc (suc zero)))))) = g
by_section P a b c d e f g h (suc (suc (suc (suc (suc (suc (suc s))))))) = h s

-- there is none after the version's
none_past : (s : ℕ) → version_line < s → fields_of s ≡ 0
unfolding fields_of
none_past s h = rw (ne_eqb s 0 (omega arith), ne_eqb s 6 (omega arith)) (listed_past s (omega arith))

record_many : (version s : ℕ) → length (take (listed s) (layout (kind_of version s))) ≡ listed s
record_many version s =
    rw (length-take (listed s) (layout (kind_of version s))) (omega (arith, listed_same version s, listed_fields (kind_of version s)))

pub fields_many : (version s : ℕ) → length (line_fields version s) ≡ fields_of s
unfolding line_fields fields_of layout_in
fields_many version = by_section
    (λ s. length (line_fields version s) ≡ fields_of s)
    refl
    (record_many version 1)
    (record_many version 2)
    (record_many version 3)
    (record_many version 4)
    (record_many version 5)
    refl
    (λ s. sym (none_past (suc (suc (suc (suc (suc (suc (suc s))))))) (omega arith)))

pub fields_few : (s : ℕ) → fields_of s ≤ 11
unfolding fields_of listed listed_in is_padding kind_of kinds_of layout_in
fields_few = by_section (λ s. fields_of s ≤ 11) (omega arith) (omega arith) (omega arith) (omega arith) (omega arith) (omega arith) (omega arith)
    (λ s. omega (arith, none_past (suc (suc (suc (suc (suc (suc (suc s))))))) (omega arith)))

pub fields_some : (s : ℕ) → s ≤ version_line → 1 ≤ fields_of s
unfolding fields_of listed listed_in is_padding kind_of kinds_of layout_in
fields_some = by_section
    (λ s. s ≤ version_line → 1 ≤ fields_of s)
    (λ h. omega arith)
    (λ h. omega arith)
    (λ h. omega arith)
    (λ h. omega arith)
    (λ h. omega arith)
    (λ h. omega arith)
    (λ h. omega arith)
    (λ s h. absurd (omega arith))

module _ (version k : ℕ) where
  pub shape_delay : (s : ℕ) → s ≡ 0 → k < fields_of s → get_or (line_fields version s) k blank ≡ get_or (layout 0) (k + 6) blank
  unfolding line_fields fields_of
  shape_delay s e h =
      rw e
      (get_or-take 4 (drop 6 (layout 0)) k blank (rw e at h)
      ∙ get_or-drop 6 (layout 0) k blank ∙ ap (λ (i : ℕ). get_or (layout 0) i blank) (omega arith))

  pub shape_version : (s : ℕ) → s ≡ version_line → k < fields_of s → get_or (line_fields version s) k blank ≡ get_or (layout 0) k blank
  unfolding line_fields fields_of
  shape_version s e h = rw e (get_or-take 1 (layout 0) k blank (rw e at h))

  pub shape_record : (s : ℕ) → (s ≡ 0 → ⊥) → (s ≡ version_line → ⊥) → k < fields_of s
      → get_or (line_fields version s) k blank ≡ get_or (layout (kind_of version s)) k blank
  unfolding line_fields fields_of
  shape_record = by_section
      (λ s. (s ≡ 0 → ⊥) → (s ≡ version_line → ⊥) → k < fields_of s → get_or (line_fields version s) k blank ≡ get_or (layout (kind_of version s)) k blank)
      (λ a b h. absurd (a refl))
      (λ a b h. get_or-take (listed 1) (layout (kind_of version 1)) k blank h)
      (λ a b h. get_or-take (listed 2) (layout (kind_of version 2)) k blank h)
      (λ a b h. get_or-take (listed 3) (layout (kind_of version 3)) k blank h)
      (λ a b h. get_or-take (listed 4) (layout (kind_of version 4)) k blank h)
      (λ a b h. get_or-take (listed 5) (layout (kind_of version 5)) k blank h)
      (λ a b h. absurd (b refl))
      (λ s a b h. absurd (omega (arith, none_past (suc (suc (suc (suc (suc (suc (suc s))))))) (omega arith))))

-- each field of a line, and how many they are
pub ruleset shapes = (fields_few, fields_many, shape_delay, shape_version, shape_record)

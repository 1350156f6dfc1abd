-- The layouts are sane: what the fields of a record must be is one list of tests, which antt computes for all kinds at once; and what every
-- version has is a fact of its kinds, computed for all versions at once. Assumes nothing.
use mathlib.Core.Path.{◌≡◌, refl, sym, ap, ◌∙◌}
use mathlib.Core.Bool.{Bool, true, ◌&&◌}
use mathlib.Core.List.{List, [], ◌∷◌, map}
use Prim.Native.Nat.{ℕ, zero, suc, ◌+◌, ◌-◌, ◌*◌, ◌/◌, ◌^◌, ◌≤◌, ◌<◌}
use native.Mathlib.Omega.{arith}
use lib.Dec.{T, ltb, leb, eqb, ltb→lt, leb→le, eqb→eq}
use lib.ListN.{length, get_or, drop, get_or-eq_default, get_or-map, length-map}
use lib.Seq.{get_or-drop}
use Rattle.base.proofs.Every.{every, at, left, right}
use Rattle.base.specs.Tabulate.{total}
use Rattle.layout.specs.declared.Kind.{Kind}
use Rattle.layout.specs.declared.Kind.TheVariants.{Number, Reference, Padding, Gap, LessOne, Speed}
use Rattle.layout.specs.declared.Shape.{Shape}
use Rattle.layout.specs.declared.Order.{Order}
use Rattle.layout.specs.Layout.{kinds, layout_in, layout, versions, kinds_of, kind_of, blank, pairs, orders, widths, size}
use Rattle.layout.specs.Limits.{limits}
use Rattle.layout.specs.Fields.{is_padding}
use Rattle.layout.specs.Rows.{listed_in, listed}

-- ---- a test of each in a list
abbrev pub each : {A : Type 0} → (A → Bool) → List A → Bool
each f [] = true
each f (x ∷ xs) = f x && each f xs

pub each_at : {A : Type 0} (f : A → Bool) (xs : List A) (d : A) → T (each f xs) → T (f d) → (k : ℕ) → T (f (get_or xs k d))
each_at f [] d t e k = e
each_at f (x ∷ xs) d t e zero = left (f x) (each f xs) t
each_at f (x ∷ xs) d t e (suc k) = each_at f xs d (right (f x) (each f xs) t) e k

-- ---- one field
-- a field of this kind and width holds all that is stored in it: numbers up to the greatest, and codes that fill it
unfoldable pub roomy : Kind → ℕ → Bool
roomy (Number low high) width = ltb high (2 ^ width)
roomy Reference width = true
roomy Padding width = true
roomy Gap width = eqb width 3
roomy LessOne width = eqb width 2
roomy Speed width = eqb width 1

unfoldable pub sane : Shape → Bool
sane s = leb s.width 32 && roomy s.kind s.width

is_padding_lem : (kind : Kind) → T (is_padding kind) → kind ≡ Padding
unfolding is_padding
is_padding_lem (Number low high) t = absurd t
is_padding_lem Reference t = absurd t
is_padding_lem Padding t = refl
is_padding_lem Gap t = absurd t
is_padding_lem LessOne t = absurd t
is_padding_lem Speed t = absurd t

-- ---- the fields of a record, of which n are in the lists and which have so many bits
abbrev tests_of : List Shape → ℕ → ℕ → List Bool
tests_of ss n bits =
    each sane ss
    -- what is not in the lists is padding, and it is the last
    ∷ each (λ (s : Shape). is_padding s.kind) (drop n ss)
    ∷ leb n (length ss)
    ∷ leb (length ss) (n + 1)
    -- the longest is the header
    ∷ leb (length ss) 11
    ∷ leb (bits / 8) 14
    -- whole bytes, and no more than twice the numbers
    ∷ eqb (8 * (bits / 8)) bits
    ∷ leb (bits / 8) (2 * n)
    ∷ []

abbrev holds : Bool → Bool
holds t = t

abbrev tests : List Shape → List Bool
tests ss = tests_of ss (listed_in ss) (total (map (λ (s : Shape). s.width) ss))

module _ (kind : ℕ) where
  sound : (i : ℕ) → T (get_or (tests (layout kind)) i true)
  unfolding sane roomy is_padding listed_in total layout_in
  sound = each_at holds (tests (layout kind)) true
      (each_at (λ ss. each holds (tests ss)) (kinds limits) [] tt tt kind) tt

  -- each field is sane, so each width is at most 32
  pub sane_at : (k : ℕ) → T (sane (get_or (layout kind) k blank))
  unfolding sane roomy
  sane_at = each_at sane (layout kind) blank (sound 0) tt

  pub narrow : (k : ℕ) → (get_or (layout kind) k blank).width ≤ 32
  unfolding sane
  narrow k = let s = get_or (layout kind) k blank in leb→le _ _ (left (leb s.width 32) (roomy s.kind s.width) (sane_at k))

  pub few_fields : length (layout kind) ≤ 11
  few_fields = leb→le _ _ (sound 4)

  -- the lists have all fields, or all but one, which is padding
  pub listed_fields : (listed_in (layout kind) ≤ length (layout kind)) × (length (layout kind) ≤ listed_in (layout kind) + 1)
  listed_fields = (leb→le _ _ (sound 2), leb→le _ _ (sound 3))

  pub unlisted : (k : ℕ) → listed_in (layout kind) ≤ k → (get_or (layout kind) k blank).kind ≡ Padding
  unfolding is_padding
  unlisted k h =
      let n = listed_in (layout kind) in
      let e : k ≡ n + (k - n) = omega arith in
      rw (e, ← get_or-drop n (layout kind) (k - n) blank)
      (is_padding_lem _ (each_at (λ (s : Shape). is_padding s.kind) (drop n (layout kind)) blank (sound 1) tt (k - n)))

  -- the widths go by the fields, and fill whole bytes
  pub widths_at : (k : ℕ) → get_or (widths kind) k 0 ≡ (get_or (layout kind) k blank).width
  unfolding widths
  widths_at k = get_or-map (λ (x : Shape). x.width) (layout kind) k blank

  pub length_widths : length (widths kind) ≡ length (layout kind)
  unfolding widths
  length_widths = length-map (layout kind) (λ (x : Shape). x.width)

  pub whole_bytes : 8 * size kind ≡ total (widths kind)
  unfolding size widths
  whole_bytes = eqb→eq _ _ (sound 6)

  pub size_most : size kind ≤ 14
  unfolding size widths
  size_most = leb→le _ _ (sound 5)

  -- a record's bytes are no more than twice its numbers
  pub size_numbers : size kind ≤ 2 * listed_in (layout kind)
  unfolding size widths
  size_numbers = leb→le _ _ (sound 7)

-- ---- the header
pub header_fields : length (layout 0) ≡ 11
unfolding layout_in
header_fields = refl

pub header_listed : listed_in (layout 0) ≡ 10
unfolding listed_in is_padding layout_in
header_listed = refl

pub header_size : size 0 ≡ 14
unfolding size widths total layout_in
header_size = refl

-- ---- pairs that are in order have the header, streams and ports
pub no_orders : (kind : ℕ) → (kind ≡ 0 → ⊥) → (kind ≡ 3 → ⊥) → (kind ≡ 4 → ⊥) → orders kind ≡ []
unfolding orders
no_orders zero a b c = absurd (a refl)
no_orders (suc zero) a b c = refl
no_orders (suc (suc zero)) a b c = refl
no_orders (suc (suc (suc zero))) a b c = absurd (b refl)
no_orders (suc (suc (suc (suc zero)))) a b c = absurd (c refl)
no_orders (suc (suc (suc (suc (suc kind))))) a b c = refl

pub few_orders : (kind : ℕ) → length (orders kind) ≤ 2
unfolding orders
few_orders kind = leb→le _ _ (each_at (λ (os : List Order). leb (length os) 2) pairs [] tt tt kind)

-- ---- a fact of each in a list
abbrev pub All : {A : Type 0} → (A → Type 0) → List A → Type 0
All P [] = Unit
All P (x ∷ xs) = P x × All P xs

all_at : {A : Type 0} (P : A → Type 0) (xs : List A) (d : A) → All P xs → P d → (k : ℕ) → P (get_or xs k d)
all_at P [] d h e k = e
all_at P (x ∷ xs) d h e zero = h.0
all_at P (x ∷ xs) d h e (suc k) = all_at P xs d h.1 e k

-- what holds of each known version holds of all, as any other is as version 1
pub every_version : (P : List ℕ → Type 0) → All P versions → (version : ℕ) → P (kinds_of version)
unfolding kinds_of
every_version P h version = all_at P versions (get_or versions 0 []) h h.0 (version - 1)

-- the kind of a section, where a fact holds of the kinds of all versions
pub every_kind : (P : ℕ → Type 0) (s : ℕ) → All (λ ks. P (get_or ks s (length (kinds limits)))) versions
    → (version : ℕ) → P (kind_of version s)
unfolding kind_of
every_kind P s = every_version (λ ks. P (get_or ks s (length (kinds limits))))

-- so far each version has the kinds of version 1, and there is none after the last section
pub kind_there : (version s : ℕ) → s < 6 → s ≡ kind_of version s
unfolding kind_of
kind_there version s h =
    let all = every_version (λ ks. T (every (λ k. eqb (get_or ks k 6) k) 6)) (search) version in
    sym (eqb→eq _ _ (at (λ k. eqb (get_or (kinds_of version) k 6) k) 6 all s h))

pub kind_past : (version s : ℕ) → 6 ≤ s → 6 ≡ kind_of version s
unfolding kind_of
kind_past version s h = sym (get_or-eq_default (kinds_of version) 6 (rw (every_version (λ ks. length ks ≡ 6) (search) version) h))

pub header_kind : (version : ℕ) → kind_of version 0 ≡ 0
header_kind = every_kind (λ k. k ≡ 0) 0 (search)

-- ---- the numbers that a record has in the lists, by the section
abbrev record_numbers : List ℕ
record_numbers = 1 ∷ 4 ∷ 7 ∷ 3 ∷ 3 ∷ []

abbrev pub numbers_by : List ℕ
numbers_by = 10 ∷ record_numbers

listed_any : (version s : ℕ) → listed_in (layout (kind_of version s)) ≡ get_or numbers_by s 0
unfolding kind_of layout_in listed_in is_padding
listed_any version s =
    sym (get_or-map (λ k. listed_in (layout k)) (kinds_of version) s (length (kinds limits)))
    ∙ ap (λ (ns : List ℕ). get_or ns s 0) (every_version (λ ks. map (λ k. listed_in (layout k)) ks ≡ numbers_by) (search) version)

pub listed_is : (s : ℕ) → listed s ≡ get_or numbers_by s 0
unfolding listed
listed_is = listed_any 1

pub listed_same : (version s : ℕ) → listed_in (layout (kind_of version s)) ≡ listed s
listed_same version s = listed_any version s ∙ sym (listed_is s)

-- the records of a section have numbers, at most eleven, and but for the header seven; there is no section after 5
pub listed_some : (s : ℕ) → s < 6 → 0 < listed s
listed_some s h = rw (listed_is s) (ltb→lt _ _ (at (λ k. ltb 0 (get_or numbers_by k 0)) 6 tt s h))

pub listed_most : (s : ℕ) → listed s ≤ 11
listed_most s = omega (arith, listed_same 1 s, listed_fields (kind_of 1 s), few_fields (kind_of 1 s))

pub listed_few : (s : ℕ) → listed (suc s) ≤ 7
listed_few s = rw (listed_is (suc s)) (leb→le _ _ (each_at (λ (n : ℕ). leb n 7) record_numbers 0 tt tt s))

pub listed_past : (s : ℕ) → 6 ≤ s → listed s ≡ 0
listed_past s h = listed_is s ∙ get_or-eq_default numbers_by 0 h

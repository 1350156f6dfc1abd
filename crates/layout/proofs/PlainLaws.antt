-- A row read from the table without fault, as plain facts of what it means: one record for each section, by the names of its fields.
-- Each fact is the field's own range. It holds of any version, as the records of a section begin with the same fields in all.
-- Assumes nothing.
use mathlib.Core.Path.{◌≡◌, refl, sym, ap, ◌∙◌}
use mathlib.Core.List.{List, [], ◌∷◌}
use mathlib.Core.Logic.{◌⊎◌, inl, inr, ⊎_elim}
use Rattle.std.specs.Prelude.{None, Some}
use Rattle.std.proofs.lemmas.Option.{same_Some}
use Prim.Native.Nat.{ℕ, zero, suc, ◌^◌, ◌≤◌, ◌<◌}
use native.Mathlib.Omega.{arith}
use lib.Dec.{leb}
use lib.ListN.{length, get_or, take, length-take}
use lib.Seq.{get_or-take}
use borrow.Author.Tests.{leb-true}
use Rattle.frame.specs.Gap.{ms_of, code_of}
use Rattle.frame.proofs.GapLaws.{code_back, code_was, good_was}
use Rattle.bits.specs.Tables.{Fit}
use Rattle.bits.proofs.PartLaws.{fit_at}
use Rattle.layout.specs.declared.Kind.{Kind}
use Rattle.layout.specs.declared.Kind.TheVariants.{Number, Reference, Gap, LessOne, Speed}
use Rattle.layout.specs.declared.Shape.{Shape}
use Rattle.layout.specs.declared.Way.TheVariants.{Reading}
use Rattle.layout.specs.Layout.{header, end_system, vl, stream, port, layout_in, layout, kind_of, blank, orders, widths}
use Rattle.layout.specs.Names.{number_of, index_in}
use Rattle.layout.specs.Limits.{limits, most_in, most}
use Rattle.layout.specs.declared.Name.TheVariants as name
use Rattle.layout.specs.Fields.{meaning, convert}
use Rattle.layout.specs.Rows.{named, converted, order_tests, row_fault}
use Rattle.layout.proofs.LayoutLaws.{widths_at, length_widths, every_kind}
use Rattle.layout.proofs.FieldLaws.{number_was, less_one_was, speed_was}
use Rattle.layout.proofs.FaultLaws.{ordered_pass, faultless}

-- ---- what the field at a place means, by its kind, of a record that begins with these fields
module _ (kind : ℕ) (raw : List ℕ) (ok : row_fault Reading kind raw ≡ None) (n : ℕ) (first : List Shape)
    (begins : take n (layout kind) ≡ first) where
  abbrev meant : ℕ → ℕ
  meant k = get_or (converted Reading (layout kind) raw) k 0

  module _ (k : ℕ) (h : k < length first) where
    there : (k < n) × (k < length (layout kind))
    there = omega (arith, ap length begins, length-take n (layout kind))

    same : get_or (layout kind) k blank ≡ get_or first k blank
    same = sym (get_or-take n (layout kind) k blank there.0) ∙ ap (λ (ss : List Shape). get_or ss k blank) begins

    given : convert Reading (get_or first k blank) (get_or raw k 0) ≡ Some (meant k)
    given = rw same at ((faultless Reading kind raw ok).fields k there.1)

    told : (what : Kind) → (get_or first k blank).kind ≡ what → meaning what (get_or raw k 0) ≡ Some (meant k)
    unfolding convert
    told what is = rw is at given

    number_in : (low high : ℕ) → (get_or first k blank).kind ≡ Number low high → (low ≤ meant k) × (meant k ≤ high) × (get_or raw k 0 ≡ meant k)
    number_in low high is = let was = number_was Reading (get_or first k blank) low high (get_or raw k 0) (meant k) is given in omega arith

    reference_in : Fit (widths kind) raw → (get_or first k blank).kind ≡ Reference → meant k < 2 ^ (get_or first k blank).width
    unfolding meaning
    reference_in fit is =
        let narrow = rw (widths_at kind k, same) at (fit_at (widths kind) raw k fit (omega (arith, there, length_widths kind))) in
        rw (← same_Some (get_or raw k 0) (meant k) (told Reference is)) narrow

    speed_in : (get_or first k blank).kind ≡ Speed → (meant k ≡ 100) ⊎ (meant k ≡ 10)
    speed_in is = ⊎_elim (λ h. inl h.1) (λ h. inr h.1) (speed_was (get_or raw k 0) (meant k) (told Speed is))

    less_one_in : (get_or first k blank).kind ≡ LessOne → (1 ≤ meant k) × (meant k ≤ 4)
    less_one_in is = let was = less_one_was (get_or raw k 0) (meant k) (told LessOne is) in omega arith

-- the two fields of its only pair
pair_in : (kind : ℕ) (raw : List ℕ) → row_fault Reading kind raw ≡ None
    → (a b : ℕ) → order_tests (layout kind) (orders kind) raw ≡ leb a b ∷ [] → a ≤ b
pair_in kind raw ok a b e =
    leb-true a b (rw e at (ordered_pass (layout kind) (orders kind) raw (faultless Reading kind raw ok).ordered 0))

-- ---- header
pub record PlainHeader (vs : List ℕ) : Type 0 where
  -- field s counts the records of section s
  pub counts : (s : ℕ) → suc s < 6 → get_or vs (suc s) 0 ≤ most (suc s)
  pub send_least_lem : named 0 vs name.SendLeast ≤ named 0 vs name.SendGreatest
  pub send_greatest_lem : named 0 vs name.SendGreatest ≤ 1875
  pub receive_least_lem : named 0 vs name.ReceiveLeast ≤ named 0 vs name.ReceiveGreatest
  pub receive_greatest_lem : named 0 vs name.ReceiveGreatest ≤ 1875

header_counts : (raw : List ℕ) → row_fault Reading 0 raw ≡ None
    → (s : ℕ) → suc s < 6 → get_or (converted Reading (layout 0) raw) (suc s) 0 ≤ most (suc s)
unfolding layout_in most_in
header_counts raw ok zero h = (number_in 0 raw ok 11 (header limits) refl 1 (omega arith) 0 limits.systems refl).1
header_counts raw ok (suc zero) h = (number_in 0 raw ok 11 (header limits) refl 2 (omega arith) 0 limits.vls refl).1
header_counts raw ok (suc (suc zero)) h = (number_in 0 raw ok 11 (header limits) refl 3 (omega arith) 0 limits.streams refl).1
header_counts raw ok (suc (suc (suc zero))) h = (number_in 0 raw ok 11 (header limits) refl 4 (omega arith) 0 limits.ports refl).1
header_counts raw ok (suc (suc (suc (suc zero)))) h = (number_in 0 raw ok 11 (header limits) refl 5 (omega arith) 0 limits.hops refl).1
header_counts raw ok (suc (suc (suc (suc (suc s))))) h = absurd (omega arith)

pub header_plain : (raw : List ℕ) → row_fault Reading 0 raw ≡ None → PlainHeader (converted Reading (layout 0) raw)
unfolding named layout_in orders index_in number_of
header_plain raw ok =
    let n = number_in 0 raw ok 11 (header limits) refl in
    let f = (faultless Reading 0 raw ok).ordered in
    let s = n 6 (omega arith) 0 1875 refl in
    let t = n 7 (omega arith) 0 1875 refl in
    let u = n 8 (omega arith) 0 1875 refl in
    let v = n 9 (omega arith) 0 1875 refl in
    record {
      counts = header_counts raw ok;
      send_least_lem = omega arith;
      send_greatest_lem = t.1;
      receive_least_lem = omega arith;
      receive_greatest_lem = v.1;
    }

-- ---- end system
pub record PlainEndSystem (vs : List ℕ) : Type 0 where
  pub speed : (named 1 vs name.Speed ≡ 100) ⊎ (named 1 vs name.Speed ≡ 10)

pub end_system_plain : (version : ℕ) (raw : List ℕ) → row_fault Reading (kind_of version 1) raw ≡ None
    → PlainEndSystem (converted Reading (layout (kind_of version 1)) raw)
unfolding named layout_in index_in number_of
end_system_plain version raw ok =
    let begins = every_kind (λ k. take 1 (layout k) ≡ take 1 end_system) 1 (search) version in
    record { speed = speed_in (kind_of version 1) raw ok 1 (take 1 end_system) begins 0 (omega arith) refl }

-- ---- VL
pub record PlainVl (vs : List ℕ) : Type 0 where
  pub end_system_lem : named 2 vs name.EndSystem < 256
  pub code : ℕ
  pub gap : code_of (named 2 vs name.Gap) ≡ Some code
  pub gap_least : 1 ≤ named 2 vs name.Gap
  pub gap_greatest : named 2 vs name.Gap ≤ 128
  pub sub_links_least : 1 ≤ named 2 vs name.SubLinks
  pub sub_links_greatest : named 2 vs name.SubLinks ≤ 4
  pub lmax_least : 64 ≤ named 2 vs name.Lmax
  pub lmax_greatest : named 2 vs name.Lmax ≤ 1518

vl_begins : (version : ℕ) → take 4 (layout (kind_of version 2)) ≡ take 4 vl
unfolding layout_in
vl_begins = every_kind (λ k. take 4 (layout k) ≡ take 4 vl) 2 (search)

-- the gap is what its code stands for
pub gap_meant : (version : ℕ) (raw : List ℕ) → row_fault Reading (kind_of version 2) raw ≡ None
    → ms_of (get_or raw 1 0) ≡ Some (get_or (converted Reading (layout (kind_of version 2)) raw) 1 0)
unfolding meaning
gap_meant version raw ok = told (kind_of version 2) raw ok 4 (take 4 vl) (vl_begins version) 1 (omega arith) Gap refl

pub vl_plain : (version : ℕ) (raw : List ℕ) → row_fault Reading (kind_of version 2) raw ≡ None → Fit (widths (kind_of version 2)) raw
    → PlainVl (converted Reading (layout (kind_of version 2)) raw)
unfolding named layout_in index_in number_of
vl_plain version raw ok fit =
    let ms = get_or (converted Reading (layout (kind_of version 2)) raw) 1 0 in
    let gap = code_back (get_or raw 1 0) ms (gap_meant version raw ok) in
    let range = good_was ms (code_was ms (get_or raw 1 0) gap).0 in
    let links = less_one_in (kind_of version 2) raw ok 4 (take 4 vl) (vl_begins version) 2 (omega arith) refl in
    let lmax = number_in (kind_of version 2) raw ok 4 (take 4 vl) (vl_begins version) 3 (omega arith) 64 1518 refl in
    record {
      end_system_lem = reference_in (kind_of version 2) raw ok 4 (take 4 vl) (vl_begins version) 0 (omega arith) fit refl;
      code = get_or raw 1 0;
      gap = gap;
      gap_least = range.0;
      gap_greatest = range.1;
      sub_links_least = links.0;
      sub_links_greatest = links.1;
      lmax_least = lmax.0;
      lmax_greatest = lmax.1;
    }

-- ---- stream
pub record PlainStream (vs : List ℕ) : Type 0 where
  pub vl : named 3 vs name.Vl < 4096
  pub sub_link : named 3 vs name.SubLink < 4
  pub kind : named 3 vs name.Kind ≤ 1
  pub m_greatest : named 3 vs name.Size ≤ 8192
  pub least_m_least : 1 ≤ named 3 vs name.LeastSize
  pub least_m_greatest : named 3 vs name.LeastSize ≤ named 3 vs name.Size
  pub period_least : 12500 ≤ named 3 vs name.Period
  pub period_greatest : named 3 vs name.Period ≤ 125000000
  pub jitter_greatest : named 3 vs name.Jitter ≤ 125000000

pub stream_plain : (version : ℕ) (raw : List ℕ) → row_fault Reading (kind_of version 3) raw ≡ None → Fit (widths (kind_of version 3)) raw
    → PlainStream (converted Reading (layout (kind_of version 3)) raw)
unfolding named layout_in orders order_tests index_in number_of
stream_plain version raw ok fit =
    let kind = kind_of version 3 in
    let begins = every_kind (λ k. take 7 (layout k) ≡ take 7 stream) 3 (search) version in
    let f = pair_in kind raw ok (get_or raw 4 0) (get_or raw 3 0)
    (every_kind (λ k. order_tests (layout k) (orders k) raw ≡ leb (get_or raw 4 0) (get_or raw 3 0) ∷ []) 3 (search) version) in
    let number = number_in kind raw ok 7 (take 7 stream) begins in
    let reference = reference_in kind raw ok 7 (take 7 stream) begins in
    let m = number 3 (omega arith) 1 8192 refl in
    let least = number 4 (omega arith) 1 8192 refl in
    let period = number 5 (omega arith) 12500 125000000 refl in
    record {
      vl = reference 0 (omega arith) fit refl;
      sub_link = reference 1 (omega arith) fit refl;
      kind = (number 2 (omega arith) 0 1 refl).1;
      m_greatest = m.1;
      least_m_least = least.0;
      least_m_greatest = omega arith;
      period_least = period.0;
      period_greatest = period.1;
      jitter_greatest = (number 6 (omega arith) 0 125000000 refl).1;
    }

-- ---- port
pub record PlainPort (vs : List ℕ) : Type 0 where
  pub speed : (named 4 vs name.Speed ≡ 100) ⊎ (named 4 vs name.Speed ≡ 10)
  pub delay_least : named 4 vs name.SwitchLeast ≤ named 4 vs name.SwitchGreatest
  pub delay_greatest : named 4 vs name.SwitchGreatest ≤ 1250

pub port_plain : (version : ℕ) (raw : List ℕ) → row_fault Reading (kind_of version 4) raw ≡ None
    → PlainPort (converted Reading (layout (kind_of version 4)) raw)
unfolding named layout_in orders order_tests index_in number_of
port_plain version raw ok =
    let kind = kind_of version 4 in
    let begins = every_kind (λ k. take 3 (layout k) ≡ take 3 port) 4 (search) version in
    let f = pair_in kind raw ok (get_or raw 1 0) (get_or raw 2 0)
    (every_kind (λ k. order_tests (layout k) (orders k) raw ≡ leb (get_or raw 1 0) (get_or raw 2 0) ∷ []) 4 (search) version) in
    let number = number_in kind raw ok 3 (take 3 port) begins in
    let least = number 1 (omega arith) 0 1250 refl in
    let greatest = number 2 (omega arith) 0 1250 refl in
    let speed = speed_in kind raw ok 3 (take 3 port) begins 0 (omega arith) refl in
    record { speed = speed; delay_least = omega arith; delay_greatest = greatest.1 }

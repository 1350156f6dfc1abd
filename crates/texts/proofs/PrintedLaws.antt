-- The lines of a printed text all say their numbers, and lent lists that are long enough have room for them.
-- Assumes nothing.
use Prim.Native.Nat.{ℕ, zero, suc, ◌*◌, ◌/◌, ◌≤◌, ◌<◌}
use mathlib.Core.Path.{◌≡◌, refl, ap, ◌∙◌}
use mathlib.Core.List.{List, [], ◌∷◌, ◌++◌, append-nil}
use native.Mathlib.Omega.{arith}
use Rattle.std.specs.Prelude.{None}
use native.Mathlib.Nat.{zero-mul, mul-le-mul_right, lt-div-mul-add}
use borrow.Author.Tests.{le-leb, ne_eqb}
use lib.ListN.{length, get_or, drop, replicate, length-drop, get_or-replicate}
use Rattle.base.specs.Tabulate.{tabulate}
use Rattle.base.proofs.Tests.{within_yes}
use Rattle.layout.specs.Rows.{listed}
use Rattle.table.specs.Lists.{Lists}
use Rattle.notation.specs.Notation.{Word, version_line, line_fields}
use Rattle.notation.specs.Meant.{line_said, section_in}
use Rattle.notation.specs.Steps.{fields_of}
use Rattle.notation.specs.Printed.{line_words, record_in, section_lines, record_lines, table_lines, printed}
use Rattle.notation.specs.Back.{Sayable, Printable}
use Rattle.notation.proofs.ShapeLaws.{by_section, fields_some}
use Rattle.notation.proofs.LineLaws.{line_back}
use Rattle.notation.proofs.BackLaws.{version_sayable, version_said, table_said, lines_are}
use Rattle.parser.specs.Mistakes.{mistake_in}
use Rattle.parser.specs.Tables.{most_for, room_in, first_mistake}
use Rattle.parser.proofs.RightLaws.{Right, AllRight, whole_below, Enough, right_lines}
use Rattle.parser.proofs.ReadLaws.{seven}

-- ---- lines
module _ (v : ℕ) where
  right_append : (ks ls : List (List Word)) → AllRight v ks → AllRight v ls → AllRight v (ks ++ ls)
  unfolding AllRight
  right_append [] ls h k = k
  right_append (l ∷ ks) ls (e, h) k = (e, right_append ks ls h k)

  right_tabulate : (f : ℕ → List Word) (n : ℕ) → ((i : ℕ) → i < n → Right (line_said v (f i))) → AllRight v (tabulate f n)
  unfolding AllRight tabulate
  right_tabulate f zero h = tt
  right_tabulate f (suc n) h =
      right_append (tabulate f n) (f n ∷ []) (right_tabulate f n (λ i k. h i (omega arith))) (h n (omega arith), tt)

  right_line : (t : ℕ) (ns : List ℕ) → t ≤ version_line → Sayable (line_fields v t) ns → Right (line_said v (line_words v t ns))
  unfolding Right
  right_line t ns h k = rw (line_back v t ns h k) h

-- a record has as many fields in a line as in the lists
record_fields : (s : ℕ) → 1 ≤ s → s ≤ 5 → fields_of s ≡ listed s
unfolding fields_of
record_fields s low high = rw (ne_eqb s 0 (λ e. omega (arith, e)), ne_eqb s 6 (λ e. omega (arith, e)))

module _ (lists : ℕ → List ℕ) (p : Printable lists) where
  abbrev version : ℕ
  version = get_or (lists 0) 0 1

  abbrev lines : List (List Word)
  lines = table_lines lists ++ ([] ∷ [])

  sections_right : (n : ℕ) → n ≤ 5 → AllRight version (record_lines version lists n)
  unfolding record_lines section_lines AllRight
  sections_right zero h = tt
  sections_right (suc n) h =
      right_append version (record_lines version lists n) _ (sections_right n (omega arith))
      (right_tabulate version
      (λ i. line_words version (suc n) (record_in (lists (suc n)) (suc n) i))
      (length (lists (suc n)) / listed (suc n))
      (λ i k. right_line version (suc n) _ (omega arith) (p.records (suc n) i (omega arith) h k)))

  empty_right : AllRight version ([] ∷ [])
  unfolding AllRight Right line_said
  empty_right = (tt, tt)

  lines_right : AllRight version lines
  unfolding table_lines AllRight
  lines_right = (
    right_line version version_line (version ∷ []) (omega arith) (version_sayable lists p version),
    (
      right_line version 0 (drop 1 (lists 0)) (omega arith) p.delays,
      right_append version (record_lines version lists 5) ([] ∷ []) (sections_right 5 (omega arith)) empty_right,
    ),
  )

  -- ---- room
  module _ (five : length (lists 0) ≡ 5) (before : Lists) (long : (s : ℕ) → length (lists s) ≤ room_in before s) where
    record_room : (s : ℕ) → 1 ≤ s → s ≤ 5 → length (section_in version s lines) ≤ room_in before s / fields_of s * fields_of s
    record_room s low high =
        let n = listed s in
        let room = room_in before s in
        let e = record_fields s low high in
        let q = length (lists s) / n in
        let some_are : 1 ≤ n = omega (arith, fields_some s (omega arith), e) in
        let over = lt-div-mul-add {a = room} {b = n} some_are in
        let fits : q ≤ room / n = whole_below q (room / n) n (omega (arith, over, p.whole s low high, long s)) in
        let up : q * n ≤ room / n * n = mul-le-mul_right n fits in
        rw (
          table_said lists p s,
          ne_eqb 6 s (λ d. omega (arith, d)),
          ne_eqb 0 s (λ d. omega (arith, d)),
          within_yes 1 5 s (low, high),
          e,
        )
        (omega (arith, up, p.whole s low high))

    delays_many : length (section_in version 0 lines) ≡ 4
    delays_many = rw (table_said lists p 0, append-nil (drop 1 (lists 0))) (omega (arith, length-drop 1 (lists 0), five))

    delays_room : length (section_in version 0 lines) ≤ 1 * fields_of 0
    unfolding fields_of
    delays_room = omega (arith, delays_many)

    version_many : length (section_in version 6 lines) ≡ 1
    version_many = rw (table_said lists p 6)

    room_for : (s : ℕ) → s ≤ version_line → length (section_in version s lines) ≤ get_or (most_for (room_in before)) s 0 * fields_of s
    unfolding most_for
    room_for = by_section
        (λ s. s ≤ version_line → length (section_in version s lines) ≤ get_or (most_for (room_in before)) s 0 * fields_of s)
        (λ h. rw (le-leb 5 (room_in before 0) (omega (arith, long 0, five))) delays_room)
        (λ h. record_room 1 (omega arith) (omega arith))
        (λ h. record_room 2 (omega arith) (omega arith))
        (λ h. record_room 3 (omega arith) (omega arith))
        (λ h. record_room 4 (omega arith) (omega arith))
        (λ h. record_room 5 (omega arith) (omega arith))
        (λ h. omega (arith, version_many, fields_some 6 (omega arith)))
        (λ s h. absurd (omega arith))

    none_yet : (s : ℕ) → s ≤ version_line → get_or {A = ℕ} (replicate 7 0) s 0 * fields_of s ≡ 0
    none_yet s h = ap (λ (k : ℕ). k * fields_of s) (get_or-replicate 7 s 0 0 (omega arith)) ∙ zero-mul (fields_of s)

    enough : Enough version (most_for (room_in before)) (seven (room_in before)) (replicate 7 0) (λ s. length (section_in version s lines))
    enough = record {
      long = refl;
      fits = λ s h. omega (arith, none_yet s h, room_for s h);
      delays = omega (arith, delays_many);
    }

    pub printed_right : first_mistake (printed lists) before ≡ None
    unfolding first_mistake mistake_in
    printed_right =
        rw (lines_are lists p, version_said lists p)
        (right_lines version (most_for (room_in before)) (seven (room_in before)) (printed lists) lines (replicate 7 0) 0 lines_right enough)

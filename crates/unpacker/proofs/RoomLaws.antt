-- Answer 11 behind the answers 1 to 4: it is given where none of them is and a list is too short. So the lists of an accepted table take
-- all of its numbers, and what the parts of the unpacker promise makes up its own promise. Assumes nothing.
use mathlib.Core.Path.{◌≡◌, refl, sym, ap, ◌∙◌}
use mathlib.Core.Bool.{Bool, true, false}
use mathlib.Core.List.{List, [], ◌∷◌, ◌++◌, map}
use Rattle.std.specs.Prelude.{Option, None, Some, Ok, Err}
use Prim.Native.Nat.{ℕ, zero, suc, ◌+◌, ◌*◌, ◌≤◌, ◌<◌}
use native.Mathlib.Decide.{dec_lt}
use native.Mathlib.Nat.{mul-le-mul, le-div_iff_mul-le}
use Rattle.std.proofs.Math.Nat.{min-eq_left}
use native.Mathlib.Omega.{arith}
use borrow.Author.Count.{below_more}
use borrow.Author.Tests.{lt-ltb, le-ltb, ne_eqb}
use lib.Dec.{ltb, eqb}
use lib.ListN.{length, get_or, get_or-map}
use Rattle.base.specs.Pick.{pick}
use Rattle.base.specs.Tabulate.{tabulate}
use Rattle.base.specs.Tests.{is_some}
use Rattle.base.proofs.LeastLaws.{least_is, least_none, least_same}
use Rattle.base.proofs.TestLaws.{some_is, none_is}
use Rattle.layout.specs.Rows.{listed}
use Rattle.layout.proofs.LayoutLaws.{listed_some, listed_most}
use Rattle.table.specs.declared.Refusal.{Refusal}
use Rattle.table.specs.Refusals.{answer_of}
use Rattle.table.proofs.RefusalLaws.{refused_number}
use Rattle.table.specs.declared.Answer.{Answer}
use Rattle.table.specs.declared.Counts.{Counts}
use Rattle.table.specs.Answers.{answer, accepted, first_given}
use Rattle.table.specs.Sections.{rows, records, lent}
use Rattle.table.specs.Lists.{Lists, header_of, lists_by, list_for, list_in, unpacked}
use Rattle.table.specs.Unpack.{short_list, answer11, unpack_answer, unpacks, left, unpacked_by, counted, Unpacks}
use Rattle.table.proofs.AnswerLaws.{table_refusals, table_refuse, room_was}
use Rattle.table.proofs.FirstLaws.{Refuse}
use Rattle.table.proofs.ListsLaws.{list_by, in_order, no_list}
use Rattle.table.proofs.SectionLaws.{rows_few}
use Rattle.table.proofs.UnpackLaws.{list_is, length_list, length_header}
use Rattle.unpacker.specs.Unpacking.{table_answer, short_for, room_answer, judged_answer, fitting_in}

-- ---- the numbers of a section's list
module _ (bytes : List ℕ) where
  pub header_numbers : (s : ℕ) → s ≡ 0 → 5 ≡ length (list_for (unpacked bytes) s)
  header_numbers s e = rw e (sym (ap length (list_is bytes 0 (omega arith)) ∙ length_header bytes))

  pub section_numbers : (s : ℕ) → (s ≡ 0 → ⊥) → s < 6 → rows bytes s * listed s ≡ length (list_for (unpacked bytes) s)
  section_numbers zero h l = absurd (h refl)
  section_numbers (suc s) h l = sym (length_list bytes s l)

  pub numbers_most : (s : ℕ) → s < 6 → rows bytes s * listed s ≤ 45056
  numbers_most s h = mul-le-mul {n₁ = rows bytes s} {n₂ = 4096} (omega (arith, rows_few bytes s h)) (listed_most s)

-- ---- the first list that is too short
module _ (bytes room : List ℕ) where
  abbrev pub short : ℕ → Bool
  short s = ltb (get_or room s 0) (length (list_for (unpacked bytes) s))

  abbrev pub RoomTo : ℕ → Type 0
  RoomTo s = (j : ℕ) → j < s → short j ≡ false

  pub room_more : (s n : ℕ) → RoomTo s → n ≡ length (list_for (unpacked bytes) s) → n ≤ get_or room s 0 → RoomTo (s + 1)
  room_more s n all e h = below_more (λ j. short j ≡ false) s all (le-ltb (get_or room s 0) _ (rw e at h))

  pub room_short : (s n : ℕ) → s < 6 → RoomTo s → n ≡ length (list_for (unpacked bytes) s) → get_or room s 0 < n → answer 11 0 0 0 ≡ room_answer bytes room
  unfolding room_answer short_for
  room_short s n l all e h =
      let here = lt-ltb (get_or room s 0) _ (rw e at h) in
      rw (some_is _ s (least_is short 0 6 s (omega arith) (omega arith) here (λ j _ low. all j low)))

  pub room_long : RoomTo 6 → accepted ≡ room_answer bytes room
  unfolding room_answer short_for
  room_long all = rw (none_is _ (least_none short 0 6 (λ j _ h. all j (omega arith))))

-- ---- the answer
module _ (bytes room : List ℕ) where
  pub judged_bad : (r : Refusal) → answer_of r ≡ table_answer bytes → answer_of r ≡ judged_answer bytes room
  unfolding judged_answer
  judged_bad r e = rw (← e, ne_eqb (answer_of r).number 0 (omega (arith, refused_number r))) refl

  pub judged_good : accepted ≡ table_answer bytes → room_answer bytes room ≡ judged_answer bytes room
  unfolding judged_answer
  judged_good e = rw (← e)

-- ---- the promise
module _ (bytes : List ℕ) (before : Lists) where
  abbrev pub room : List ℕ
  room = map length (in_order before)

  then_11 : (os : List (Option Answer)) (o : Option ℕ) → Refuse os
      → first_given (os ++ ((elim o [ None ↦ None | Some s ↦ Some (answer 11 0 0 0) ]) ∷ []))
      ≡ pick (eqb (first_given os).number 0) (pick (is_some o) (answer 11 0 0 0) accepted) (first_given os)
  unfolding first_given is_some
  then_11 [] None h = refl
  then_11 [] (Some s) h = refl
  then_11 (None ∷ os) o h = then_11 os o h.1
  then_11 (Some a ∷ os) o h = rw (ne_eqb a.number 0 (omega (arith, h.0)))

  short_is : short_for bytes room ≡ short_list (unpacked bytes) before
  unfolding short_for short_list list_for
  short_is = least_same _ _ 0 6 (λ s _. ap (λ (n : ℕ). ltb n (length (list_for (unpacked bytes) s))) (get_or-map length (in_order before) s []))

  answer_is : judged_answer bytes room ≡ unpack_answer bytes before
  unfolding judged_answer room_answer unpack_answer answer11 table_answer
  answer_is =
      rw short_is (sym (then_11 (table_refusals bytes) (short_list (unpacked bytes) before) (table_refuse bytes)))

  -- what each list holds at the end
  abbrev pub left_in : Bool → ℕ → List ℕ
  left_in ok s = left ok (length (list_for before s)) (list_in bytes s)

  -- behind section 5 there is no list
  nothing_behind : (ok : Bool) → [] ≡ left ok 0 []
  unfolding left lent
  nothing_behind true = refl
  nothing_behind false = refl

  held_in : (ok : Bool) (s : ℕ) → Dec (s < 6)
      → list_for (lists_by (left_in ok)) s ≡ left ok (length (list_for before s)) (list_for (unpacked bytes) s)
  held_in ok s (yes h) = list_by (left_in ok) s h ∙ ap (left ok (length (list_for before s))) (sym (list_is bytes s h))
  held_in ok s (no n) =
      let none_in : (ls : Lists) → list_for ls s ≡ [] = λ ls. no_list ls s (omega arith) in
      rw (none_in (lists_by (left_in ok)), none_in before, none_in (unpacked bytes)) (nothing_behind ok)

  module _ (after : Lists) where
    pub refusal_unpacks : (r : Refusal) → answer_of r ≡ judged_answer bytes room → after ≡ lists_by (left_in false) → Unpacks bytes before (unpacked_by (Err r)) after
    unfolding unpacks unpacked_by counted
    refusal_unpacks r e f =
        let told = e ∙ answer_is in
        let refused : unpacks bytes before ≡ false = rw (← told) (ne_eqb (answer_of r).number 0 (omega (arith, refused_number r))) in
        record {
          answer = told;
          counts = rw refused refl;
          held = λ s. rw (f, refused) (held_in false s (dec_lt s 6));
        }

    pub counts_unpack : (n : Counts) → accepted ≡ judged_answer bytes room → counted (unpacked_by (Ok n)) ≡ tabulate (λ s. rows bytes (suc s)) 5
        → after ≡ lists_by (left_in true) → Unpacks bytes before (unpacked_by (Ok n)) after
    unfolding unpacks unpacked_by
    counts_unpack n e g f =
        let told = e ∙ answer_is in
        let taken : unpacks bytes before ≡ true = rw (← told) refl in
        record {
          answer = told;
          counts = rw taken g;
          held = λ s. rw (f, taken) (held_in true s (dec_lt s 6));
        }

  -- an accepted table's lists have room
  module _ (e : accepted ≡ judged_answer bytes room) where
    room_in : (s : ℕ) → s < 6 → length (list_for (unpacked bytes) s) ≤ length (list_for before s)
    room_in = room_was bytes before (sym (ap (λ (a : Answer). a.number) (e ∙ answer_is)))

    pub header_fits : 5 ≤ length before.header
    unfolding list_for
    header_fits = omega (arith, room_in 0 (omega arith), header_numbers bytes 0 refl)

    pub all_fit : (s : ℕ) → suc s < 6 → fitting_in bytes (suc s) (length (list_for before (suc s))) ≡ rows bytes (suc s)
    all_fit s h =
        let some = listed_some (suc s) h in
        let fits : rows bytes (suc s) * listed (suc s) ≤ length (list_for before (suc s)) = omega (arith, room_in (suc s) h, length_list bytes s h) in
        min-eq_left ((le-div_iff_mul-le {k = listed (suc s)} some).1 fits)

    -- so what is put to each list is all of its section
    pub header_left : (t out : List ℕ) → t ≡ bytes → out ≡ lent (length (list_for before 0)) (header_of t) → out ≡ left_in true 0
    unfolding left
    header_left t out here is = rw here at is

    pub section_left : (s : ℕ) (t out : List ℕ) → suc s < 6 → t ≡ bytes
        → out ≡ lent (length (list_for before (suc s))) (records t (suc s) (fitting_in t (suc s) (length (list_for before (suc s)))))
        → out ≡ left_in true (suc s)
    unfolding left
    section_left s t out h here is = rw (here, all_fit s h) at is

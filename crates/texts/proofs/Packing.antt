-- A table goes to text and back through `pack`: its lists have room in those that are lent, the text printed for them has no mistake and
-- says them, and the writer gives the table's bytes.
-- Assumes nothing.
use Prim.Native.Nat.{ℕ, zero, suc, ◌≤◌, ◌<◌}
use mathlib.Core.Path.{◌≡◌, sym, ap, subst, ◌∙◌}
use mathlib.Core.Bool.{true}
use mathlib.Core.List.{List}
use Rattle.std.specs.Prelude.{None, Result, Ok, Err}
use Rattle.std.proofs.lemmas.Option.{none-some}
use Rattle.table.specs.declared.Refusal.{Refusal}
use native.Mathlib.Omega.{arith}
use native.Mathlib.Decide.{dec_lt}
use native.Mathlib.Nat.{mul-le-mul_right}
use lib.Dec.{eqb}
use lib.ListN.{length, replicate, length-replicate}
use Rattle.base.specs.Pick.{pick}
use Rattle.bits.specs.Bits.{Bytes}
use Rattle.layout.specs.declared.Way.TheVariants.{Reading}
use Rattle.layout.specs.Rows.{listed, row_fault}
use Rattle.layout.specs.Sizes.{capacity}
use Rattle.table.specs.declared.Answer.{Answer}
use Rattle.table.specs.Answers.{accepted}
use Rattle.table.specs.Sections.{header_row, lent}
use Rattle.table.specs.Lists.{Lists, list_for, unpacked}
use Rattle.table.specs.Unpack.{unpack_answer}
use Rattle.table.specs.Write.{table_size, writes, Writes, written_by}
use Rattle.table.specs.RoundTrip.{RoomFor}
use Rattle.table.proofs.AnswerLaws.{unpack_was}
use Rattle.table.proofs.ListsLaws.{list_by, no_list}
use Rattle.table.proofs.UnpackLaws.{length_list, length_header, size_unpacked}
use Rattle.table.proofs.ReadingLaws.{few}
use Rattle.table.proofs.RefusalLaws.{written_settles}
use Rattle.table.proofs.RoundTrip.{write_after_unpack}
use Rattle.parser.specs.Tables.{room_in, first_mistake}
use Rattle.texts.specs.declared.PackError.TheVariants.{Mistaken, Refused}
use Rattle.texts.specs.Texts.{text_for}
use Rattle.texts.specs.Packing.{room_of, zero_lists, PacksTo, PacksAgain}
use Rattle.texts.proofs.SaidLaws.{said_back}
use Rattle.texts.proofs.ReadLaws.{printed_is_read}

module _ (bytes : List ℕ) (ok : row_fault Reading 0 (header_row bytes) ≡ None) where
  few_numbers : (s : ℕ) → suc s < 6 → length (list_for (unpacked bytes) (suc s)) ≤ capacity (suc s)
  unfolding capacity
  few_numbers s h = rw (length_list bytes s h) (mul-le-mul_right (listed (suc s)) (few bytes ok s h))

  few_first : length (list_for (unpacked bytes) 0) ≤ room_in zero_lists 0
  unfolding list_for unpacked
  few_first = omega (arith, length_header bytes)

  long_enough : RoomFor (unpacked bytes) zero_lists
  long_enough zero = few_first
  long_enough (suc s) = go (dec_lt (suc s) 6)
    where
      go : Dec (suc s < 6) → length (list_for (unpacked bytes) (suc s)) ≤ room_in zero_lists (suc s)
      go (yes h) = rw (list_by (λ s. replicate (room_of s) 0) (suc s) h, length-replicate) (few_numbers s h)
      go (no n) = rw (no_list (unpacked bytes) (suc s) (omega arith)) (omega arith)

module _ (bytes : List ℕ) (n : Lists) (b : Bytes bytes) (e : unpack_answer bytes n ≡ accepted) (room : ℕ)
    (long : length bytes ≤ room) where
  no_fault : first_mistake (text_for (unpacked bytes)) zero_lists ≡ None
  no_fault =
      printed_is_read (unpacked bytes) room (write_after_unpack bytes n b e room long).0 zero_lists
      (long_enough bytes (unpack_was bytes n e).header)

  is_written : writes (unpacked bytes) room ≡ true
  unfolding writes
  is_written = ap (λ (a : Answer). eqb a.number 0) (write_after_unpack bytes n b e room long).0

  same_bytes : (r : Result ℕ Refusal) (after : List ℕ) → Writes (unpacked bytes) room (written_by r) after
      → (r ≡ Ok (length bytes)) × (after ≡ lent room bytes)
  unfolding written_by
  same_bytes r after h =
      let again = write_after_unpack bytes n b e room long in
      let size : pick (writes (unpacked bytes) room) (table_size (unpacked bytes)) 0 ≡ length bytes =
      rw is_written (size_unpacked bytes (unpack_was bytes n e)) in (
        written_settles r (Ok (length bytes)) (λ i. record { answer = (h.answer ∙ again.0) i; length = (h.length_is ∙ size) i }),
        h.out_left ∙ rw (is_written, again.1),
      )

pub packs_again : PacksAgain
unfolding PacksTo
packs_again bytes n b e before long (Err (Mistaken m)) after p = absurd (none-some m (sym (no_fault bytes n b e (length before) long) ∙ p.0))
packs_again bytes n b e before long (Err (Refused r)) after p =
    let back = said_back (unpacked bytes) (length before) (write_after_unpack bytes n b e (length before) long).0 in
    let same = same_bytes bytes n b e (length before) long (Err r) after
    (subst (λ (ls : Lists). Writes ls (length before) (written_by (Err r)) after) back p.1) in
    let here : ◌≡◌ {A = Result ℕ Refusal} (Err r) (Ok (length bytes)) = same.0 in
    let z : ◌≡◌ {A = ℕ} 0 1 = cc in absurd (omega arith)
packs_again bytes n b e before long (Ok m) after p =
    let back = said_back (unpacked bytes) (length before) (write_after_unpack bytes n b e (length before) long).0 in
    let same = same_bytes bytes n b e (length before) long (Ok m) after
    (subst (λ (ls : Lists). Writes ls (length before) (written_by (Ok m)) after) back p.1) in
    let here : ◌≡◌ {A = Result ℕ Refusal} (Ok m) (Ok (length bytes)) = same.0 in
    let count : m ≡ length bytes = cc in (ap Ok count, same.1)

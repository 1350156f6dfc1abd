-- The lists that the unpacker leaves hold the records that it counts.
-- Assumes nothing.
use Rattle.std.proofs.Common.{◌≡◌, ℕ, suc, ◌*◌, ◌<◌, ◌≤◌, true, List, length, get_or, Ok, sym, ap, ◌∙◌, arith}
use borrow.Author.Tests.{eq-eqb}
use Rattle.base.specs.Tabulate.{tabulate}
use Rattle.layout.specs.Rows.{listed}
use Rattle.table.specs.declared.Answer.{Answer}
use Rattle.table.specs.declared.Counts.{Counts}
use Rattle.table.specs.Sections.{rows}
use Rattle.table.specs.Lists.{Lists, list_for}
use Rattle.table.specs.Unpack.{Unpacks, unpacked_by, counted, unpack_answer, unpacks, left}
use Rattle.table.proofs.AnswerLaws.{room_was}
use Rattle.table.proofs.LentLaws.{length_lent}
use Rattle.table.proofs.UnpackLaws.{length_list}
use Rattle.unpack.specs.Held.{Held}

module _ (bytes : List ℕ) (before after : Lists) (n : Counts) (p : Unpacks bytes before (unpacked_by (Ok n)) after) where
  number : (unpack_answer bytes before).number ≡ 0
  unfolding unpacked_by
  number = ap (λ (a : Answer). a.number) (sym p.answer)

  accepts : unpacks bytes before ≡ true
  unfolding unpacks
  accepts = eq-eqb _ 0 number

  counts : counted (unpacked_by (Ok n)) ≡ tabulate (λ s. rows bytes (suc s)) 5
  counts = rw accepts at p.counts

  same_length : (s : ℕ) → s < 6 → length (list_for after s) ≡ length (list_for before s)
  unfolding left
  same_length s h = ap length (rw accepts at p.held s) ∙ length_lent _ _ (room_was bytes before number s h)

  fits : (s r : ℕ) → suc s < 6 → r ≡ rows bytes (suc s) → r * listed (suc s) ≤ length (list_for after (suc s))
  fits s r h e = rw (same_length (suc s) h, e, ← length_list bytes s h) (room_was bytes before number (suc s) h)

  pub counts_held : 0 < length before.header → Held n after
  unfolding unpacked_by counted list_for tabulate
  counts_held some =
      let at = λ (s : ℕ). ap (λ (l : List ℕ). get_or l s 0) counts in
      record {
        header = rw (same_length 0 (omega arith)) some;
        systems = fits 0 _ (omega arith) (at 0);
        vls = fits 1 _ (omega arith) (at 1);
        streams = fits 2 _ (omega arith) (at 2);
        ports = fits 3 _ (omega arith) (at 3);
        hops = fits 4 _ (omega arith) (at 4);
      }

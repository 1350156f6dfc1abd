-- Lists that the writer accepts are read back from the text printed for them: it has no mistake, and says them.
-- Assumes nothing.
use Prim.Native.Nat.{ℕ, ◌<◌}
use mathlib.Core.Path.{◌≡◌, refl, sym, ap, ◌∙◌}
use mathlib.Core.List.{List}
use native.Mathlib.Omega.{arith}
use lib.ListN.{length}
use Rattle.std.specs.Prelude.{None, Ok}
use Rattle.base.specs.Tabulate.{tabulate}
use Rattle.base.proofs.TabulateLaws.{tabulate_same}
use Rattle.table.specs.Sections.{lent}
use Rattle.table.specs.Lists.{Lists, lists_by, list_for}
use Rattle.table.specs.RoundTrip.{RoomFor}
use Rattle.table.proofs.AnswerLaws.{Writable, write_was}
use Rattle.table.proofs.ListsLaws.{list_by, lists_same}
use Rattle.parser.specs.Tables.{room_in, first_mistake, read_list, read_answer}
use Rattle.texts.specs.Texts.{text_for, PrintedIsRead, PrintedReadBack}
use Rattle.texts.proofs.SaidLaws.{printable, list_back}
use Rattle.texts.proofs.PrintedLaws.{printed_right}

-- lists given by the section are the same where each is
pub by_same : (f g : ℕ → List ℕ) → ((s : ℕ) → s < 6 → f s ≡ g s) → lists_by f ≡ lists_by g
by_same f g same = lists_same (lists_by f) (lists_by g) (λ s h. list_by f s h ∙ same s h ∙ sym (list_by g s h))

module _ (ls : Lists) (w : Writable ls) (before : Lists) (long : RoomFor ls before) where
  no_fault : first_mistake (text_for ls) before ≡ None
  unfolding list_for
  no_fault = printed_right (list_for ls) (printable ls w) w.header_list before long

  list_read : (s : ℕ) → s < 6 → read_list (text_for ls) before s ≡ list_for ls s
  unfolding read_list list_for
  list_read s h = rw (no_fault, read_list) (list_back ls w s (omega arith))

  answered : read_answer (text_for ls) before ≡ Ok (tabulate (λ s. length (read_list (text_for ls) before s)) 6)
  unfolding read_answer tabulate
  answered = rw (no_fault, read_answer) refl

pub printed_is_read : PrintedIsRead
printed_is_read ls room e before long = no_fault ls (write_was ls room e) before long

pub printed_read_back : PrintedReadBack
printed_read_back ls room e before long r after to =
    let w = write_was ls room e in
    let list = list_read ls w before long in
    record {
      lengths =
          to.answer
          ∙ answered ls w before long
          ∙ ap Ok (tabulate_same (λ s. length (read_list (text_for ls) before s)) (λ s. length (list_for ls s)) 6 (λ s h. ap length (list s h)));
      held =
          to.held
          ∙ by_same (λ s. lent (room_in before s) (read_list (text_for ls) before s)) (λ s. lent (room_in before s) (list_for ls s))
          (λ s h. ap (lent (room_in before s)) (list s h));
    }

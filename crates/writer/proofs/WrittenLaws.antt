-- What the writer leaves: on acceptance the table and then zeros, on a refusal zeros alone.
-- Assumes nothing.
use mathlib.Core.Path.{◌≡◌, sym, ap, ap₂, ◌∙◌}
use mathlib.Core.Bool.{true, false}
use mathlib.Core.List.{List, ◌++◌}
use Rattle.std.specs.Prelude.{Ok, Err}
use Rattle.std.proofs.lemmas.List.{drop-replicate}
use Prim.Native.Nat.{ℕ, ◌-◌}
use native.Mathlib.Omega.{arith}
use lib.Dec.{eqb}
use lib.ListN.{drop, replicate}
use borrow.Author.Tests.{eq-eqb, ne_eqb}
use Rattle.table.specs.declared.Answer.{Answer}
use Rattle.table.specs.declared.Refusal.{Refusal}
use Rattle.table.specs.Answers.{accepted}
use Rattle.table.specs.Refusals.{answer_of}
use Rattle.table.specs.Sections.{lent}
use Rattle.table.specs.Lists.{Lists}
use Rattle.table.specs.Write.{table_size, packed, write_answer, writes, written_by, Writes}
use Rattle.table.proofs.RefusalLaws.{refused_number}
use Rattle.table.proofs.WriteLaws.{length_packed}

module _ (ls : Lists) (room : ℕ) where
  pub written : (n : ℕ) → accepted ≡ write_answer ls room → n ≡ table_size ls → (zeros part : List ℕ) → zeros ≡ replicate room 0 → part ≡ packed ls
      → Writes ls room (written_by (Ok n)) (part ++ drop n zeros)
  unfolding writes written_by lent
  written n is size zeros part clear put =
      let ok : eqb (write_answer ls room).number 0 ≡ true = eq-eqb (write_answer ls room).number 0 (ap (λ (a : Answer). a.number) (sym is)) in
      record {
        answer = is;
        length_is = rw ok size;
        out_left =
            rw ok
            (ap₂ ◌++◌ put
            (ap (drop n) clear ∙ drop-replicate n room 0 ∙ ap (λ (m : ℕ). replicate (room - m) 0) (size ∙ sym (length_packed ls))));
      }

  pub refused : (r : Refusal) → answer_of r ≡ write_answer ls room → (out : List ℕ) → out ≡ replicate room 0 → Writes ls room (written_by (Err r)) out
  unfolding writes written_by
  refused r is out clear =
      let bad : eqb (write_answer ls room).number 0 ≡ false =
      ne_eqb (write_answer ls room).number 0 (λ e. absurd (omega (arith, refused_number r, ap (λ (a : Answer). a.number) is))) in
      record { answer = is; length_is = rw bad; out_left = rw bad clear }

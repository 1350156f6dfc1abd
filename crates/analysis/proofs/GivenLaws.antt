-- What the analysis leaves: a refusal of the figures the cleared result, and an acceptance the rows of the table's network.
-- Assumes nothing.
use Prim.Native.Nat.{ℕ, ◌*◌, ◌/◌}
use mathlib.Core.Bool.{true, false}
use mathlib.Core.List.{List}
use mathlib.Core.Path.{◌≡◌, sym, ap, ◌∙◌}
use native.Mathlib.Omega.{arith}
use borrow.Author.Tests.{eq-eqb, ne_eqb}
use lib.Dec.{eqb}
use lib.ListN.{length, replicate, length-replicate}
use Rattle.std.specs.Prelude.{Ok, Err}
use Rattle.network.specs.Network.{Network}
use Rattle.table.specs.declared.Answer.{Answer}
use Rattle.table.specs.declared.Refusal.{Refusal}
use Rattle.table.specs.Answers.{accepted}
use Rattle.table.specs.Refusals.{answer_of}
use Rattle.table.specs.Sections.{lent}
use Rattle.table.specs.Unpack.{left}
use Rattle.table.specs.Read.{network_in}
use Rattle.table.proofs.RefusalLaws.{refused_number}
use Rattle.rows.specs.Rows.{rows_of}
use Rattle.answers.specs.Analysis.{analysis_answer, accepts, joined, rows_left, rows_given}
use Rattle.analysis.specs.Analysis.{Analyses, analysed_by}

-- a list that is cleared is zero at its own length
pub cleared_is : (cleared : List ℕ) (n : ℕ) → cleared ≡ replicate n 0 → cleared ≡ replicate (length cleared) 0
cleared_is cleared n zero = zero ∙ ap (λ (m : ℕ). replicate m 0) (sym (ap length zero ∙ length-replicate n 0))

module _ (bytes : List ℕ) (room : ℕ) (result : List ℕ) where
  pub refused_given : (r : Refusal) → answer_of r ≡ analysis_answer bytes room → result ≡ replicate room 0 → Analyses bytes room (analysed_by (Err r)) result
  unfolding analysed_by rows_given rows_left accepts left
  refused_given r is zero =
      let number : (answer_of r).number ≡ (analysis_answer bytes room).number = ap (λ (x : Answer). x.number) is in
      let refused : eqb (analysis_answer bytes room).number 0 ≡ false = ne_eqb _ 0 (λ z. omega (arith, number, refused_number r)) in
      record { answer_is = is; count_is = rw refused; rows_are = rw refused zero }

  pub rows_given_lem : (net : Network) (end : ℕ) → accepted ≡ analysis_answer bytes room → net ≡ network_in bytes → end ≡ 6 * length (rows_of net)
      → result ≡ lent room (joined (rows_of net)) → Analyses bytes room (analysed_by (Ok (end / 6))) result
  unfolding analysed_by rows_given rows_left accepts left
  rows_given_lem net end is same place rows =
      let yes : eqb (analysis_answer bytes room).number 0 ≡ true = eq-eqb _ 0 (ap (λ (x : Answer). x.number) (sym is)) in
      let count : end / 6 ≡ length (rows_of net) = omega arith in
      record { answer_is = is; count_is = rw (yes, ← same) count; rows_are = rw (yes, ← same) rows }

-- The contract of the analysis settles its answer, the count of rows and the lent result: two runs that both satisfy it are the same.
-- Assumes nothing.
use Prim.Native.Nat.{ℕ}
use mathlib.Core.Path.{◌≡◌, sym, ap, ◌∙◌}
use Rattle.std.specs.Prelude.{Result, Ok, Err}
use Rattle.base.specs.Settles.{Settles}
use Rattle.table.specs.declared.Refusal.{Refusal}
use Rattle.table.proofs.RefusalLaws.{answer_settles, not_accepted}
use Rattle.analysis.specs.Analysis.{Analysed, analysed_by}
use Rattle.analysis.proofs.analysing.analyse.Kinds as analyse-kinds
use Rattle.analysis.proofs.analysing.analyse.Reads as analyse-reads

-- what is said of a result settles it
analysed_settles : (x y : Result ℕ Refusal) → analysed_by x ≡ analysed_by y → x ≡ y
unfolding analysed_by
analysed_settles (Ok m) (Ok n) e = ap (λ (a : Analysed). Ok a.rows) e
analysed_settles (Ok m) (Err s) e = absurd (not_accepted s (sym (ap (λ (a : Analysed). a.answer) e)))
analysed_settles (Err r) (Ok n) e = absurd (not_accepted r (ap (λ (a : Analysed). a.answer) e))
analysed_settles (Err r) (Err s) e = ap Err (answer_settles r s (ap (λ (a : Analysed). a.answer) e))

pub analyse_settles : Settles 2 analyse-kinds.ps analyse-kinds.r analyse-reads.Post
analyse_settles κs a x y ws vs p q =
    let told : analysed_by x ≡ analysed_by y = λ i. record { answer = (p.answer_is ∙ sym q.answer_is) i; rows = (p.count_is ∙ sym q.count_is) i } in
    (analysed_settles x y told, (λ i. (tt, ((p.rows_are ∙ sym q.rows_are) i, tt))))

-- The public routines keep their contracts, by each crate's own theorem of its routine; what the clauses ensure is the promise itself, as an assertion of a fact holds exactly if the fact is so where it has but one proof.
-- Assumes nothing.
use Prim.Native.Nat.{ℕ}
use mathlib.Core.List.{List, is_set}
use mathlib.Core.Logic.{◌↔◌, ∥∥₁_elim}
use mathlib.Core.Path.{ap}
use native.Mathlib.Nat.{ℕ_set}
use lib.ListN.{length}
use seplogic.Ra.Ura.{Ura}
use base.Logic.{emp}
use prog.Model.{Model}
use types.Logic.{Logic}
use contract.Monad.{fact, fact_i}
use contract.Running.{Running}
use Rattle.table.specs.declared.Answer.{Answer}
use Rattle.table.specs.Lists.{Lists}
use Rattle.table.specs.Refusals.{said}
use Rattle.table.specs.Unpack.{Unpacked, unpacked_by, Unpacks}
use Rattle.table.specs.Write.{Written, written_by, Writes}
use Rattle.table.specs.Read.{read_answer}
use Rattle.analysis.specs.Analysis.{Analysed, analysed_by, Analyses}
use Rattle.analysis.proofs.analyse.Met.{met as analyse_met}
use Rattle.reader.proofs.check.Met.{met as check_met}
use Rattle.unpacker.proofs.unpack.Met.{met as unpack_met}
use Rattle.writer.proofs.write.Met.{met as write_met}
use Rattle.order.specs.Kept.{AnalysePromise, CheckPromise, UnpackPromise, WritePromise, Kept}

-- ---- each promise has at most one proof, as it equates numbers, lists of them and answers
answer_set : IsSet Answer
answer_set x y p q i j = record {
  number = ℕ_set x.number y.number (ap (λ (a : Answer). a.number) p) (ap (λ (a : Answer). a.number) q) i j;
  section = ℕ_set x.section y.section (ap (λ (a : Answer). a.section) p) (ap (λ (a : Answer). a.section) q) i j;
  row = ℕ_set x.row y.row (ap (λ (a : Answer). a.row) p) (ap (λ (a : Answer). a.row) q) i j;
  test = ℕ_set x.test y.test (ap (λ (a : Answer). a.test) p) (ap (λ (a : Answer). a.test) q) i j;
}

list_set : IsSet (List ℕ)
list_set = is_set ℕ_set

analyses_prop : (bytes : List ℕ) (room : ℕ) (r : Analysed) (result : List ℕ) → IsProp (Analyses bytes room r result)
analyses_prop bytes room r result p q i = record {
  answer_is = answer_set _ _ p.answer_is q.answer_is i;
  count_is = ℕ_set _ _ p.count_is q.count_is i;
  rows_are = list_set _ _ p.rows_are q.rows_are i;
}

unpacks_prop : (bytes : List ℕ) (before : Lists) (r : Unpacked) (after : Lists) → IsProp (Unpacks bytes before r after)
unpacks_prop bytes before r after p q i = record {
  answer = answer_set _ _ p.answer q.answer i;
  counts = list_set _ _ p.counts q.counts i;
  held = λ s. list_set _ _ (p.held s) (q.held s) i;
}

writes_prop : (ls : Lists) (room : ℕ) (r : Written) (out : List ℕ) → IsProp (Writes ls room r out)
writes_prop ls room r out p q i = record {
  answer = answer_set _ _ p.answer q.answer i;
  length_is = ℕ_set _ _ p.length_is q.length_is i;
  out_left = list_set _ _ p.out_left q.out_left i;
}

-- ---- a fact as an assertion holds of a resource exactly if it is so
fact_is : {M : Type 1} (𝓤 : Ura M) (P : Type 0) → IsProp P → (m : M) → ((fact 𝓤 P).holds m) ↔ P
fact_is 𝓤 P prop m = (λ h. ∥∥₁_elim h prop (λ t. t.0), λ e. (fact_i 𝓤 P (emp 𝓤) e).apply m tt)

-- ---- the routines
pub kept : {M : Type 1} {𝓤 : Ura M} (𝓛 : Logic 𝓤) (𝓜 : Model 𝓤 𝓛.H) (𝓡 : Running 𝓤 𝓛.H 𝓜) → Kept 𝓛 𝓜 𝓡
kept {𝓤 = 𝓤} 𝓛 𝓜 𝓡 = record {
  analyse_meets = analyse_met 𝓤 𝓛 𝓜 𝓡;
  analyse_asks_nothing = λ κs a. (tt, λ m. tt);
  analyse_promises = λ κs a g x ws m. fact_is 𝓤 (AnalysePromise κs a x ws) (analyses_prop a.0.now (length a.1.0.now) (analysed_by x) ws.1.0) m;
  check_meets = check_met 𝓤 𝓛 𝓜 𝓡;
  check_asks_nothing = λ κs a. (tt, λ m. tt);
  check_promises = λ κs a g x ws m. fact_is 𝓤 (CheckPromise κs a x ws) (answer_set (said x) (read_answer a.0.now)) m;
  unpack_meets = unpack_met 𝓤 𝓛 𝓜 𝓡;
  unpack_asks_nothing = λ κs a. (tt, λ m. tt);
  unpack_promises = λ κs a g x ws m. fact_is 𝓤 (UnpackPromise κs a x ws) (unpacks_prop _ _ (unpacked_by x) _) m;
  write_meets = write_met 𝓤 𝓛 𝓜 𝓡;
  write_asks_nothing = λ κs a. (tt, λ m. tt);
  write_promises = λ κs a g x ws m. fact_is 𝓤 (WritePromise κs a x ws) (writes_prop _ _ (written_by x) _) m;
}

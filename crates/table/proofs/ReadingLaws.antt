-- The reader's answers 1 to 6 over the table's own, 1 to 4: their refusal is the reader's, and where they accept the table is sound and
-- the reader goes on. Assumes nothing.
use Prim.Native.Nat.{ℕ, suc, ◌≤◌, ◌<◌}
use mathlib.Core.List.{List, [], ◌∷◌, ◌++◌}
use Rattle.std.specs.Prelude.{Option, None}
use mathlib.Core.Path.{◌≡◌, sym, ap}
use native.Mathlib.Omega.{arith}
use Rattle.base.specs.Tests.{number_or0}
use Rattle.layout.specs.declared.Way.TheVariants.{Reading}
use Rattle.layout.specs.Rows.{row_fault}
use Rattle.layout.specs.Limits.{most}
use Rattle.layout.proofs.PlainLaws.{header_plain}
use Rattle.network.specs.References.{bad_reference, bad_sample}
use Rattle.table.specs.declared.Answer.{Answer}
use Rattle.table.specs.Answers.{answer, accepted, first_given}
use Rattle.table.specs.Sections.{header_row, rows}
use Rattle.table.specs.Read.{network_in, bad_ref_section, answer_at_reference, answer5, answer6, read_answer}
use Rattle.table.proofs.FirstLaws.{Refuse, none_given, none_accepts, first_behind, first_stays, row_refuses}
use Rattle.table.proofs.AnswerLaws.{Sound, table_refusals, table_refuse, sound_where}
use Rattle.table.proofs.HeaderLaws.{header_rows}

-- ---- the answers 1 to 6, in their order: each refuses, where it is given
abbrev pub read_refusals : List ℕ → List (Option Answer)
read_refusals bytes = table_refusals bytes ++ (answer5 (network_in bytes) ∷ answer6 (network_in bytes) ∷ [])

pub read_refuse : (bytes : List ℕ) → Refuse (read_refusals bytes)
unfolding answer5 answer_at_reference answer6
read_refuse bytes =
    let net = network_in bytes in
    let four = table_refuse bytes in
    let five = row_refuses (bad_ref_section net) (λ s. answer_at_reference net s (number_or0 (bad_reference net s))) (λ s. omega arith) in
    let six = row_refuses (bad_sample net) (λ s. answer 6 3 s 0) (λ s. omega arith) in
    (four.0, (four.1.0, (four.1.1.0, (four.1.1.1.0, (five, (six, tt))))))

-- ---- the counts of a good header are in 01's limits
pub few : (bytes : List ℕ) → row_fault Reading 0 (header_row bytes) ≡ None → (s : ℕ) → suc s < 6 → rows bytes (suc s) ≤ most (suc s)
few bytes ok s h = omega (arith, (header_plain (header_row bytes) ok).counts s h, header_rows bytes ok s h)

-- ---- the table's own answer, 1 to 4: its refusal is the reader's, and where it accepts, the reader goes on with 5 and 6
module _ (bytes : List ℕ) where
  abbrev rest : List (Option Answer)
  rest = answer5 (network_in bytes) ∷ answer6 (network_in bytes) ∷ []

  pub own_refused : 0 < (first_given (table_refusals bytes)).number → first_given (table_refusals bytes) ≡ read_answer bytes
  unfolding read_answer
  own_refused h = sym (first_stays (table_refusals bytes) rest h)

  pub own_accepted : (first_given (table_refusals bytes)).number ≡ 0 → Sound bytes × (read_answer bytes ≡ first_given rest)
  unfolding read_answer
  own_accepted e =
      let p = none_given (table_refusals bytes) (table_refuse bytes) e in
      (sound_where bytes p, first_behind (table_refusals bytes) rest p)

  pub read_accepted : (read_answer bytes).number ≡ 0 → read_answer bytes ≡ accepted
  unfolding read_answer
  read_accepted e = none_accepts (read_refusals bytes) (none_given (read_refusals bytes) (read_refuse bytes) e)

-- ---- what acceptance by the reader says: nothing was given
pub read_accepts : (bytes : List ℕ) → read_answer bytes ≡ accepted → Sound bytes × (answer5 (network_in bytes) ≡ None)
unfolding read_answer
read_accepts bytes e =
    let p = none_given (read_refusals bytes) (read_refuse bytes) (ap (λ (a : Answer). a.number) e) in
    (sound_where bytes (p.0, (p.1.0, (p.1.1.0, (p.1.1.1.0, tt)))), p.1.1.1.1.0)

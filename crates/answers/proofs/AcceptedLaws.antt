-- What acceptance by the analysis says: none of the answers 1 to 10 is given, since each that is given has a number; so the reader accepts, and 7 to 10 find nothing. And which of them is given first, where those before it are not.
-- Assumes nothing.
use Prim.Native.Nat.{ℕ, ◌*◌, ◌≤◌, ◌<◌}
use mathlib.Core.Bool.{true}
use mathlib.Core.List.{List, [], ◌∷◌, ◌++◌}
use Rattle.std.specs.Prelude.{Option, None, Some}
use Rattle.std.proofs.lemmas.Option.{none-some}
use mathlib.Core.Path.{◌≡◌, refl, ap, sym}
use native.Mathlib.Omega.{arith}
use borrow.Author.Tests.{eq-eqb, ltb-false}
use lib.ListN.{length}
use Rattle.base.specs.Pick.{pick}
use Rattle.network.specs.Network.{Network}
use Rattle.table.specs.declared.Answer.{Answer}
use Rattle.table.specs.Answers.{answer, accepted, first_given}
use Rattle.table.specs.Read.{network_in, read_answer}
use Rattle.table.proofs.FirstLaws.{Refuses, Refuse, refuse_both, none_given, none_accepts, first_behind, first_stays, accepted_front, accepted_behind, pick_refuses, not_picked}
use Rattle.table.proofs.ReadingLaws.{read_refusals, read_refuse}
use Rattle.rows.specs.Rows.{rows_of}
use Rattle.rows.specs.Refusals.{late_system, too_many_rows, too_short, endless_vl, endless_port}
use Rattle.answers.specs.Analysis.{refused_at, answer7, answer8, answer9, answer10, refusals, analysis_answer, accepts}

-- ---- a refusal at a row
refused_at_refuses : (n s : ℕ) (o : Option ℕ) → 0 < n → Refuses (refused_at n s o)
unfolding refused_at
refused_at_refuses n s None h = tt
refused_at_refuses n s (Some i) h = h

refused_nowhere : (n s : ℕ) (o : Option ℕ) → refused_at n s o ≡ None → o ≡ None
unfolding refused_at
refused_nowhere n s None e = refl
refused_nowhere n s (Some i) e = absurd (none-some (answer n s i 0) (sym e))

-- ---- 7 to 10, behind the reader's
abbrev pub later : Network → ℕ → List (Option Answer)
later net room = answer7 net ∷ answer8 net room ∷ answer9 net ∷ answer10 net ∷ []

later_refuse : (net : Network) (room : ℕ) → Refuse (later net room)
unfolding answer7 answer8 answer9 answer10
later_refuse net room =
    let short = (pick_refuses (too_short net room) (answer 8 0 0 1) None (omega arith) tt).0 in (
      refused_at_refuses 7 1 (late_system net) (omega arith),
      (
        (pick_refuses (too_many_rows net) (answer 8 0 0 0) (pick (too_short net room) (Some (answer 8 0 0 1)) None) (omega arith) short).0,
        (refused_at_refuses 9 2 (endless_vl net) (omega arith), (refused_at_refuses 10 4 (endless_port net) (omega arith), tt)),
      ),
    )

-- ---- what acceptance says
pub record Accepts (bytes : List ℕ) (room : ℕ) : Type 0 where
  pub reads : read_answer bytes ≡ accepted
  pub no_late_system : late_system (network_in bytes) ≡ None
  pub rows_fit : 6 * length (rows_of (network_in bytes)) ≤ room
  pub no_endless_vl : endless_vl (network_in bytes) ≡ None
  pub no_endless_port : endless_port (network_in bytes) ≡ None

module _ (bytes : List ℕ) (room : ℕ) where
  abbrev net : Network
  net = network_in bytes

  pub number_accepts : (analysis_answer bytes room).number ≡ 0 → analysis_answer bytes room ≡ accepted
  unfolding analysis_answer refusals
  number_accepts e =
      let os = read_refusals bytes ++ later net room in
      none_accepts os (none_given os (refuse_both (read_refusals bytes) (later net room) (read_refuse bytes) (later_refuse net room)) e)

  pub accepted_was : analysis_answer bytes room ≡ accepted → Accepts bytes room
  unfolding analysis_answer refusals read_answer answer7 answer8 answer9 answer10 too_short
  accepted_was e =
      let behind = accepted_behind (read_refusals bytes) (later net room) (read_refuse bytes) e in
      let p = none_given (later net room) (later_refuse net room) (ap (λ (a : Answer). a.number) behind) in
      let p8 = not_picked (too_many_rows net) (answer 8 0 0 0) (pick (too_short net room) (Some (answer 8 0 0 1)) None) p.1.0 in
      record {
        reads = accepted_front (read_refusals bytes) (later net room) e;
        no_late_system = refused_nowhere 7 1 (late_system net) p.0;
        rows_fit = ltb-false room (6 * length (rows_of net)) (not_picked (too_short net room) (answer 8 0 0 1) None p8.1).0;
        no_endless_vl = refused_nowhere 9 2 (endless_vl net) p.1.1.0;
        no_endless_port = refused_nowhere 10 4 (endless_port net) p.1.1.1.0;
      }

  -- ---- the reader first: its refusal is the answer, and where it accepts, the answer is the first of 7 to 10
  pub reader_refuses : 0 < (read_answer bytes).number → analysis_answer bytes room ≡ read_answer bytes
  unfolding analysis_answer refusals read_answer
  reader_refuses = first_stays (read_refusals bytes) (later net room)

  pub reader_accepts : (read_answer bytes).number ≡ 0 → analysis_answer bytes room ≡ first_given (later net room)
  unfolding analysis_answer refusals read_answer
  reader_accepts e = first_behind (read_refusals bytes) (later net room) (none_given (read_refusals bytes) (read_refuse bytes) e)

  -- ---- whether it accepts, by its answer
  pub accepts_so : analysis_answer bytes room ≡ accepted → accepts bytes room ≡ true
  unfolding accepts
  accepts_so e = eq-eqb (analysis_answer bytes room).number 0 (ap (λ (a : Answer). a.number) e)

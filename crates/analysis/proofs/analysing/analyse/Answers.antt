-- `analysis::analyse` meets its contract: a refusal of the figures is the answer and leaves the cleared result; else the sheet is good, its network is the table's, and the rows are written.
-- Assumes nothing.
use Prim.Native.Nat.{ℕ}
use mathlib.Core.List.{List}
use mathlib.Core.Path.{◌≡◌, sym, ap, ◌∙◌}
use native.Mathlib.Omega.{arith}
use lib.ListN.{length}
use Rattle.std.specs.Prelude.{Result, Ok, Err}
use Rattle.table.specs.declared.Answer.{Answer}
use Rattle.table.specs.declared.Refusal.{Refusal}
use Rattle.table.specs.Answers.{accepted}
use Rattle.table.specs.Refusals.{said, answer_of}
use Rattle.sheet.specs.declared.Sheet.{Sheet}
use Rattle.sheet.specs.Sheet.{network_on}
use Rattle.figures.specs.declared.found.Figures.{Figures}
use Rattle.figures.specs.Figures.{Figured}
use Rattle.figures.proofs.KnownLaws.{Known, figured_known}
use Rattle.analysis.proofs.GivenLaws.{cleared_is, refused_given, rows_given_lem}
use Rattle.analysis.proofs.analysing.analyse.Goals as goal

-- what the figures said
told_refusal : {x : Result Unit Refusal} {r : Refusal} → x ≡ Err r → answer_of r ≡ said x
unfolding said
told_refusal e = ap said (sym e)

told_accepted : {x : Result Unit Refusal} {u : Unit} → x ≡ Ok u → accepted ≡ said x
unfolding said
told_accepted e = ap said (sym e)

pub returns-in-Err : goal.returns-in-Err
returns-in-Err c =
    let a = c.args in
    let room : length c.clear.new.out ≡ length a.res.now = omega (arith, c.clear.auto.out) in
    let is = rw room at c.figures.ensures.answer_is in
    refused_given a.table.now (length a.res.now) _ _ (told_refusal c.in-Err.is ∙ is) c.clear.ensures

-- on acceptance
known_lem : (bytes : List ℕ) (room : ℕ) {x : Result Unit Refusal} {u : Unit} {sheet : Sheet} {found : Figures} → Figured bytes room (said x) sheet found → x ≡ Ok u
    → Known bytes room sheet found
known_lem bytes room f e = figured_known bytes room _ _ _ f (ap (λ (a : Answer). a.number) (sym (told_accepted e)))

pub new-requires : goal.new-requires
new-requires c = (known_lem c.args.table.now _ c.figures.ensures c.in_default.is).good

pub put_rows-end-requires-clause-figures : goal.put_rows-end-requires-clause-figures
put_rows-end-requires-clause-figures c = rw c.new.ensures (known_lem c.args.table.now _ c.figures.ensures c.in_default.is).computed

pub put_rows-end-requires-clause-room : goal.put_rows-end-requires-clause-room
put_rows-end-requires-clause-room c =
    rw c.new.ensures record {
      zero_before = cleared_is _ (length c.args.res.now) c.clear.ensures;
      fits = (known_lem c.args.table.now _ c.figures.ensures c.in_default.is).rows_fit;
    }

pub returns : goal.returns
returns c =
    let a = c.args in
    let room : length c.clear.new.out ≡ length a.res.now = omega (arith, c.clear.auto.out) in
    let known = known_lem a.table.now _ c.figures.ensures c.in_default.is in
    let is = rw room at c.figures.ensures.answer_is in
    let rows = c.put_rows-end.ensures in
    rows_given_lem a.table.now (length a.res.now) _ _ _ (told_accepted c.in_default.is ∙ is) (ap network_on c.new.ensures ∙ known.same) rows.count (rw room at rows.rows)

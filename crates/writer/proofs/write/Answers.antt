-- `writer::write` meets its contract: the bytes are cleared, and on acceptance the first of them, as many as the table takes, are filled.
-- Assumes nothing.
use Rattle.std.proofs.Common.{◌≤◌, arith, sym, ap, ◌∙◌}
use Prim.Native.Nat.{ℕ}
use lib.ListN.{length, take, replicate}
use Rattle.std.proofs.lemmas.List.{take-replicate}
use Rattle.table.specs.Lent.{lists_of}
use Rattle.table.specs.Refusals.{said}
use Rattle.table.specs.Write.{write_answer}
use Rattle.table.proofs.AnswerLaws.{write_was}
use Rattle.writer.proofs.PutLaws.{short}
use Rattle.writer.proofs.WrittenLaws.{written, refused}
use Rattle.writer.proofs.write.Goals as goal

pub returns-in-Err : goal.returns-in-Err
unfolding said
returns-in-Err c =
    let ls = lists_of c.args.lists in
    refused ls (length c.args.out.now) _ (c.in-Err.ensures.answer ∙ ap (write_answer ls) c.clear.auto.out) c.clear.new.out c.clear.ensures

pub fill-requires : goal.fill-requires
unfolding said
fill-requires c =
    let ls = lists_of c.args.lists in
    let n = c.in-Ok.bytes in
    let fits : n ≤ length c.args.out.now = omega (arith, c.in-Ok.ensures.bytes.1, c.clear.auto.out) in
    record {
      clear =
          ap (take n) c.clear.ensures
          ∙ take-replicate n (length c.args.out.now) 0 fits
          ∙ ap (λ (m : ℕ). replicate m 0) c.in-Ok.ensures.bytes.0;
      short = short ls (write_was ls _ (sym c.in-Ok.ensures.answer)).header;
    }

pub returns-in-Ok : goal.returns-in-Ok
unfolding said
returns-in-Ok c =
    let ls = lists_of c.args.lists in
    written ls (length c.args.out.now) c.in-Ok.bytes
    (c.in-Ok.ensures.answer ∙ ap (write_answer ls) c.clear.auto.out)
    c.in-Ok.ensures.bytes.0
    c.clear.new.out
    c.fill.new.out
    c.clear.ensures
    c.fill.ensures

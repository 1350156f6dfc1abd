-- `parser::read` meets its contract: on a mistake zeros everywhere, and otherwise in each list what its section says.
-- Assumes nothing.
use mathlib.Core.Path.{◌≡◌, refl, sym, ap, ◌∙◌}
use mathlib.Core.List.{[], ◌∷◌}
use Rattle.std.specs.Prelude.{None, Some, Ok}
use Rattle.std.proofs.Common.{rules}
use Rattle.base.specs.Tabulate.{tabulate}
use Rattle.table.specs.Lists.{Lists, lists, list_for}
use Rattle.table.specs.Lent.{lists_before}
use Rattle.parser.specs.Mistakes.{mistake_in}
use Rattle.parser.specs.Tables.{most_for, room_in, read_answer}
use Rattle.parser.proofs.ReadLaws.{is_first, section_read, header_read, none_read}
use Rattle.parser.proofs.read.Goals as goal

pub returns-in-Some : goal.returns-in-Some
unfolding most_for list_for read_answer
returns-in-Some c =
    let text = c.args.text.now in
    let before : Lists = lists_before c.args.lists in
    let version = c.version_of-version in
    let m = c.in-Some.mistake in
    let is : Some m ≡ mistake_in text version.result (most_for (room_in before)) =
    sym c.in-Some.is ∙ c.mistake_of.ensures ∙ ap (mistake_in text version.result) c.most_in.ensures in
    let zeros = none_read text before version.result version.ensures m is in
    let z0 = c.fill.ensures.after (search rules) ∙ zeros 0 in
    let z1 = c.fill-in-Some.ensures.after (search rules) ∙ zeros 1 in
    let z2 = c.fill-in-Some-2.ensures.after (search rules) ∙ zeros 2 in
    let z3 = c.fill-in-Some-3.ensures.after (search rules) ∙ zeros 3 in
    let z4 = c.fill-in-Some-4.ensures.after (search rules) ∙ zeros 4 in
    let z5 = c.fill-in-Some-5.ensures.after (search rules) ∙ zeros 5 in
    record {
      answer = rw (sym (is_first text before version.result version.ensures (Some m) is), read_answer);
      held = λ i. lists (z0 i) (z1 i) (z2 i) (z3 i) (z4 i) (z5 i);
    }

pub returns : goal.returns
unfolding most_for list_for read_answer tabulate
returns c =
    let text = c.args.text.now in
    let before : Lists = lists_before c.args.lists in
    let version = c.version_of-version in
    let is : None ≡ mistake_in text version.result (most_for (room_in before)) =
    sym c.in_default.is ∙ c.mistake_of.ensures ∙ ap (mistake_in text version.result) c.most_in.ensures in
    let section = section_read text before version.result version.ensures is in
    let p0 = header_read text before version.result version.ensures is _ _ c.put_header.ensures.behind c.put_header.ensures.put in
    let p1 = section 0 _ _ refl c.fill-2.ensures.count c.fill-2.ensures.put in
    let p2 = section 1 _ _ refl c.fill-3.ensures.count c.fill-3.ensures.put in
    let p3 = section 2 _ _ refl c.fill-4.ensures.count c.fill-4.ensures.put in
    let p4 = section 3 _ _ refl c.fill-5.ensures.count c.fill-5.ensures.put in
    let p5 = section 4 _ _ refl c.fill-6.ensures.count c.fill-6.ensures.put in
    record {
      answer =
          rw (sym (is_first text before version.result version.ensures None is), read_answer)
          (λ i. Ok (p0.0 i ∷ p1.0 i ∷ p2.0 i ∷ p3.0 i ∷ p4.0 i ∷ p5.0 i ∷ []));
      held = λ i. lists (p0.1 i) (p1.1 i) (p2.1 i) (p3.1 i) (p4.1 i) (p5.1 i);
    }

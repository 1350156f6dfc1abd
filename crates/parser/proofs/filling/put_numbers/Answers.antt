-- `parser::filling::put_numbers` meets its contract: the numbers stand whole in the list, or none does.
-- Assumes nothing.
use mathlib.Core.Path.{◌≡◌, refl}
use native.Mathlib.Omega.{arith}
use borrow.Author.Rules.{rules}
use borrow.Author.Tests.{le-leb, lt-leb}
use lib.ListN.{length}
use Prim.Native.Nat.{◌-◌}
use Rattle.std.proofs.Math.Seq.{paste-zero}
use Rattle.std.proofs.lemmas.Slice.{put_mid-paste}
use Rattle.parser.specs.Lines.{list_with, place_with}
use Rattle.parser.proofs.filling.put_numbers.Goals as goal

-- no numbers change nothing
pub returns-then-is_empty-clause-behind : goal.returns-then-is_empty-clause-behind
unfolding place_with
returns-then-is_empty-clause-behind c =
    let none : length c.args.numbers.now ≡ 0 = search rules in
    rw (le-leb (length c.args.numbers.now) (length c.args.list.now - c.args.at) (omega (arith, none))) (omega (arith, none))

pub returns-then-is_empty-clause-put : goal.returns-then-is_empty-clause-put
unfolding list_with
returns-then-is_empty-clause-put c =
    let none : length c.args.numbers.now ≡ 0 = search rules in
    rw (
      le-leb (length c.args.numbers.now) (length c.args.list.now - c.args.at) (omega (arith, none)),
      none,
    )
    (paste-zero c.args.list.now c.args.at c.args.numbers.now)

pub returns-then-list-at-clause-behind : goal.returns-then-list-at-clause-behind
unfolding place_with
returns-then-list-at-clause-behind c = rw (lt-leb _ _ c.if-list-at.true)

pub returns-then-list-at-clause-put : goal.returns-then-list-at-clause-put
unfolding list_with
returns-then-list-at-clause-put c = rw (lt-leb _ _ c.if-list-at.true)

pub returns-clause-behind : goal.returns-clause-behind
unfolding place_with
returns-clause-behind c = rw (le-leb _ _ c.if-list-at.false)

pub returns-clause-put : goal.returns-clause-put
unfolding list_with
returns-clause-put c = rw (le-leb _ _ c.if-list-at.false) (put_mid-paste _ _ _ _ _ _ c.copy_from_slice.ensures.after (omega arith) refl)

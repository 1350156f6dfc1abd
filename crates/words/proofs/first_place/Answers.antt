use Prim.Native.Nat.{◌≤◌}
use mathlib.Core.Bool.{true, false}
use mathlib.Core.Path.{◌≡◌, sym, ◌∙◌}
use native.Mathlib.Decide.{dec_le}
use native.Mathlib.Nat.{lt_of_not-le}
use native.Mathlib.Omega.{arith}
use native.Mathlib.Numerals.{add-one}
use lib.ListN.{get_or}
use Rattle.words.specs.Places.{first_place}
use Rattle.words.proofs.PlaceLaws.{first_stop, first_go, first_none}
use Rattle.words.proofs.first_place.Goals as goal

pub returns-then-passes : goal.returns-then-passes
returns-then-passes g c =
    let a = c.args in
    let l = c.loop-place in
    let passes : g.test (get_or a.text.now l.place 0) ≡ true = sym (c.requires.1.1 _ _ c.passes.ensures) ∙ c.if-passes.true in
    rw (first_stop g.test a.text.now l.place a.end (omega arith) (omega arith) passes) at l.invariant

pub loop-place-preserved : goal.loop-place-preserved
loop-place-preserved g c =
    let a = c.args in
    let l = c.loop-place in
    let fails : g.test (get_or a.text.now l.place 0) ≡ false = sym (c.requires.1.1 _ _ c.passes.ensures) ∙ c.if-passes.false in
    rw (first_go g.test a.text.now l.place a.end (omega arith) (omega arith) fails, ← add-one) at l.invariant

pub returns : goal.returns
returns g c =
    go (dec_le c.min-behind.result c.args.at)
  where
    go : Dec (c.min-behind.result ≤ c.args.at) → c.max.result ≡ first_place g.test c.args.text.now c.args.at c.args.end
    go (yes h) = omega (arith, first_none g.test c.args.text.now c.args.at c.args.end (omega arith))
    go (no h) =
        let l = c.loop-place in
        omega (arith, lt_of_not-le h, l.invariant, first_none g.test c.args.text.now l.place c.args.end (omega arith))

-- `parser::lines::Line::numbers_of` meets its contract: all numbers of a good line of the section, none of any other.
-- Assumes nothing.
use mathlib.Core.Path.{◌≡◌, refl}
use mathlib.Core.List.{List, []}
use Prim.Native.Nat.{ℕ}
use native.Mathlib.Omega.{arith}
use borrow.Author.Tests.{eq-eqb, ne_eqb}
use Rattle.notation.proofs.ShapeLaws.{fields_few}
use Rattle.parser.specs.declared.lines.Line.{Line}
use Rattle.parser.specs.declared.lines.Line.TheVariants.{Silent, Unknown, Good, Wrong}
use Rattle.parser.specs.Lines.{numbers_in}
use Rattle.parser.proofs.lines.Line.numbers_of.Goals as goal

pub shared_ref_as_front-result : goal.shared_ref_as_front-result
shared_ref_as_front-result c = omega (arith, fields_few c.args.section)

pub returns-then-own-section : goal.returns-then-own-section
unfolding numbers_in
returns-then-own-section c = rw (c.in-Good.is, eq-eqb _ _ c.if-own-section.true, c.fields_in.ensures, c.if-own-section.true)

pub returns-else-own-section : goal.returns-else-own-section
unfolding numbers_in
returns-else-own-section c = rw (c.in-Good.is, ne_eqb _ _ c.if-own-section.false)

none_of : (section : ℕ) (r : Line) → ((s : ℕ) (ns : List ℕ) → r ≡ Good s ns → ⊥) → [] ≡ numbers_in section r
unfolding numbers_in
none_of section Silent h = refl
none_of section Unknown h = refl
none_of section (Good s ns) h = absurd (h s ns refl)
none_of section (Wrong s k place) h = refl

pub returns-in_default : goal.returns-in_default
returns-in_default c = none_of c.args.section c.args.self.now c.in_default.not-Good

-- A first word that is a keyword tells one of the seven sections; and what is told of the words behind it is told of the line.
-- Assumes nothing.
use Prim.Native.Nat.{ℕ, suc, ◌≤◌, ◌<◌}
use mathlib.Core.Path.{◌≡◌, refl, sym, ◌∙◌}
use mathlib.Core.Bool.{Bool, true, false}
use mathlib.Core.List.{List, [], ◌∷◌}
use Rattle.std.specs.Prelude.{Option, None, Some}
use Rattle.std.proofs.lemmas.Option.{same_Some, none-some}
use native.Mathlib.Omega.{arith}
use lib.ListN.{length}
use Rattle.base.specs.Pick.{pick}
use Rattle.words.specs.Words.{same}
use Rattle.notation.specs.Notation.{Word, keywords, version_line, word_in}
use Rattle.notation.specs.Meant as meant
use Rattle.fields.specs.Fields.{Behind}
use Rattle.fields.proofs.FieldLaws.{behind_more}
use Rattle.parser.specs.declared.lines.Line.{Line}
use Rattle.parser.specs.declared.lines.Line.TheVariants.{Silent, Unknown, Good, Wrong}
use Rattle.parser.specs.Lines.{Stands, Tells}

place_few : (vs : List Word) (w : Word) (i : ℕ) → word_in vs w ≡ Some i → i < length vs
unfolding word_in
place_few [] w i e = absurd (none-some i e)
place_few (v ∷ vs) w i e = go (same w v) (word_in vs w) (place_few vs w) e
  where
    go : (t : Bool) (o : Option ℕ) → ((j : ℕ) → o ≡ Some j → j < length vs)
        → pick t (Some 0) (elim o [ None ↦ None | Some k ↦ Some (suc k) ]) ≡ Some i → i < suc (length vs)
    go true o ih e = omega (arith, same_Some 0 i e)
    go false None ih e = absurd (none-some i e)
    go false (Some k) ih e = omega (arith, same_Some (suc k) i e, ih k refl)

pub keyword_few : (w : Word) (s : ℕ) → word_in keywords w ≡ Some s → s ≤ version_line
unfolding keywords
keyword_few w s e = omega (arith, place_few keywords w s e)

-- the words of a line behind its first
pub tells_later : (text : List ℕ) (at end : ℕ) (r : Line) (says said : meant.Line) (p : ℕ) → says ≡ said → Behind text at end p → Tells text p end said r
    → Tells text at end says r
unfolding Stands
tells_later text at end Silent says said p e b t = record { said = t.said ∙ sym e; stands = tt }
tells_later text at end Unknown says said p e b t = record { said = t.said ∙ sym e; stands = tt }
tells_later text at end (Good s ns) says said p e b t = record { said = t.said ∙ sym e; stands = t.stands }
tells_later text at end (Wrong s k place) says said p e b t =
    record { said = t.said ∙ sym e; stands = behind_more text at end p place b t.stands }

-- a line that says its fields is one of a section
pub good_few : (text : List ℕ) (at end : ℕ) (r : Line) (s : ℕ) (ns : List ℕ) → Stands text at end r → r ≡ Good s ns → s < 7
unfolding Stands
good_few text at end r s ns t e = let few = (rw e at t).0 in omega arith

-- Each public contract settles its answer: two results that both satisfy it are equal.
-- Assumes nothing.
use Prim.Native.Nat.{ℕ, ◌-◌}
use mathlib.Core.Path.{◌≡◌, refl, sym, ap, ◌∙◌}
use mathlib.Core.List.{List}
use Rattle.std.specs.Prelude.{Option, None, Some}
use Rattle.std.proofs.lemmas.Option.{same_Some, none-some}
use lib.ListN.{length}
use Rattle.base.specs.Settles.{Settles}
use Rattle.notation.specs.Meant as meant
use Rattle.notation.specs.Meant.{taken}
use Rattle.fields.specs.declared.Said.{Said}
use Rattle.fields.specs.Fields.{words_from, place_behind, taken_in, BehindTaken, Takes}
use Rattle.fields.proofs.keyword_of.Kinds as keyword-kinds
use Rattle.fields.proofs.keyword_of.Reads as keyword-reads
use Rattle.fields.proofs.shape_taken.Kinds as shape-kinds
use Rattle.fields.proofs.shape_taken.Reads as shape-reads

pub keyword_settles : Settles 1 keyword-kinds.ps keyword-kinds.r keyword-reads.Post
keyword_settles κs a x y ws vs p q = (p ∙ sym q, refl)

-- a number, and the words behind those that say it, which tell the place
takes_settles : (text : List ℕ) (at end : ℕ) (says : Option meant.Taken) (x y : Option Said)
    → Takes text at end says x → Takes text at end says y → x ≡ y
unfolding taken_in taken BehindTaken words_from
takes_settles text at end says (Some s) (Some t) p q =
    let same = same_Some _ _ (p.said ∙ sym q.said) in
    let place : s.next ≡ t.next =
    p.behind.place
    ∙ ap (λ (t : meant.Taken). place_behind text at end (words_from text at end - length t.rest)) same
    ∙ sym q.behind.place
    in
    λ i. Some (record { number = (same i).value; next = place i })
takes_settles text at end says (Some s) None p q = absurd (none-some _ (sym (p.said ∙ sym q.said)))
takes_settles text at end says None (Some t) p q = absurd (none-some _ (p.said ∙ sym q.said))
takes_settles text at end says None None p q = refl

pub shape_settles : Settles 1 shape-kinds.ps shape-kinds.r shape-reads.Post
shape_settles κs a x y ws vs p q = (takes_settles _ _ _ _ x y p q, refl)

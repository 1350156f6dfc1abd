-- Each public contract settles its answer, which is an equation.
-- Assumes nothing.
use mathlib.Core.Path.{refl, sym, ◌∙◌}
use Rattle.base.specs.Settles.{Settles}
use Rattle.search.proofs.compare.less.Kinds as less-kinds
use Rattle.search.proofs.compare.less.Reads as less-reads
use Rattle.search.proofs.pass.Tally.empty.Kinds as empty-kinds
use Rattle.search.proofs.pass.Tally.empty.Reads as empty-reads
use Rattle.search.proofs.pass.Tally.add.Kinds as add-kinds
use Rattle.search.proofs.pass.Tally.add.Reads as add-reads
use Rattle.search.proofs.turns.Search.begin.Kinds as begin-kinds
use Rattle.search.proofs.turns.Search.begin.Reads as begin-reads
use Rattle.search.proofs.turns.Search.span.Kinds as span-kinds
use Rattle.search.proofs.turns.Search.span.Reads as span-reads
use Rattle.search.proofs.turns.Search.turn.Kinds as turn-kinds
use Rattle.search.proofs.turns.Search.turn.Reads as turn-reads

pub less_settles : Settles 0 less-kinds.ps less-kinds.r less-reads.Post
less_settles κs a x y ws vs p q = (p ∙ sym q, refl)

pub empty : Settles 0 empty-kinds.ps empty-kinds.r empty-reads.Post
empty κs a x y ws vs p q = (p ∙ sym q, refl)

pub add : Settles 0 add-kinds.ps add-kinds.r add-reads.Post
add κs a x y ws vs p q = (p ∙ sym q, refl)

pub begin : Settles 0 begin-kinds.ps begin-kinds.r begin-reads.Post
begin κs a x y ws vs p q = (p ∙ sym q, refl)

pub span : Settles 0 span-kinds.ps span-kinds.r span-reads.Post
span κs a x y ws vs p q = (p ∙ sym q, refl)

pub turn : Settles 0 turn-kinds.ps turn-kinds.r turn-reads.Post
turn κs a x y ws vs p q = (p ∙ sym q, refl)

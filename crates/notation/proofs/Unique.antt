-- Each public contract settles its answer, and what the text holds: two results that both satisfy it are equal.
-- Assumes nothing.
use mathlib.Core.Path.{◌≡◌, refl, sym, ◌∙◌}
use contract.Lifetimes.{Lfts}
use borrow.Fn.Kinds.{ended_of, res_t, Dens}
use denote.Triple.Clauses.{Lasts, at_exit}
use Rattle.base.specs.Settles.{Settles}
use Rattle.text.proofs.GainLaws.{gains_settles}
use Rattle.notation.proofs.fields_in.Kinds as fields-kinds
use Rattle.notation.proofs.fields_in.Reads as fields-reads
use Rattle.notation.proofs.field_at.Kinds as field-kinds
use Rattle.notation.proofs.field_at.Reads as field-reads
use Rattle.notation.proofs.naming.keyword.Kinds as word-kinds
use Rattle.notation.proofs.naming.keyword.Reads as word-reads
use Rattle.notation.proofs.naming.name_of.Kinds as called-kinds
use Rattle.notation.proofs.naming.name_of.Reads as called-reads
use Rattle.notation.proofs.naming.put_keyword.Kinds as keyword-kinds
use Rattle.notation.proofs.naming.put_keyword.Reads as keyword-reads
use Rattle.notation.proofs.naming.put_name.Kinds as name-kinds
use Rattle.notation.proofs.naming.put_name.Reads as name-reads

pub fields_settles : Settles 0 fields-kinds.ps fields-kinds.r fields-reads.Post
fields_settles κs a x y ws vs p q = (p ∙ sym q, refl)

pub field_settles : Settles 0 field-kinds.ps field-kinds.r field-reads.Post
field_settles κs a x y ws vs p q = (p ∙ sym q, refl)

pub keyword_settles : Settles 2 keyword-kinds.ps keyword-kinds.r keyword-reads.Post
keyword_settles κs a x y ws vs p q = (λ i. tt, λ i. (gains_settles _ _ _ _ p q i, (tt, tt)))

pub name_settles : Settles 2 name-kinds.ps name-kinds.r name-reads.Post
name_settles κs a x y ws vs p q = (λ i. tt, λ i. (gains_settles _ _ _ _ p q i, (tt, tt)))

-- ---- a word that is lent: its bytes, since where it stands no contract says
pub keyword_bytes : (κs : Lfts 1) (a : Dens κs word-kinds.ps) (x y : (res_t word-kinds.r κs).Denot) (ws vs : Lasts (ended_of 1 word-kinds.ps word-kinds.r) κs a)
    → word-reads.Post κs a x (at_exit (ended_of 1 word-kinds.ps word-kinds.r) κs a ws)
    → word-reads.Post κs a y (at_exit (ended_of 1 word-kinds.ps word-kinds.r) κs a vs)
    → x.now ≡ y.now
keyword_bytes κs a x y ws vs p q = p ∙ sym q

pub name_bytes : (κs : Lfts 1) (a : Dens κs called-kinds.ps) (x y : (res_t called-kinds.r κs).Denot) (ws vs : Lasts (ended_of 1 called-kinds.ps called-kinds.r) κs a)
    → called-reads.Post κs a x (at_exit (ended_of 1 called-kinds.ps called-kinds.r) κs a ws)
    → called-reads.Post κs a y (at_exit (ended_of 1 called-kinds.ps called-kinds.r) κs a vs)
    → x.now ≡ y.now
name_bytes κs a x y ws vs p q = p ∙ sym q

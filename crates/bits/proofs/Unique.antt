-- Each public contract settles its answer and what the lent bytes hold: two results that both satisfy it are equal.
-- Assumes nothing.
use mathlib.Core.Path.{refl, sym, ◌∙◌}
use Rattle.base.specs.Settles.{Settles}
use Rattle.bits.proofs.Cursor.new.Kinds as new-kinds
use Rattle.bits.proofs.Cursor.new.Reads as new-reads
use Rattle.bits.proofs.Cursor.read.Kinds as read-kinds
use Rattle.bits.proofs.Cursor.read.Reads as read-reads
use Rattle.bits.proofs.Cursor.put.Kinds as put-kinds
use Rattle.bits.proofs.Cursor.put.Reads as put_reads

pub new_settles : Settles 0 new-kinds.ps new-kinds.r new-reads.Post
new_settles κs a x y ws vs p q = ((λ i. record { at = (p ∙ sym q) i }), refl)

pub read_settles : Settles 1 read-kinds.ps read-kinds.r read-reads.Post
read_settles κs a x y ws vs p q = (p ∙ sym q, refl)

pub put_settles : Settles 1 put-kinds.ps put-kinds.r put_reads.Post
put_settles κs a x y ws vs p q = (p.0 ∙ sym q.0, (λ i. (tt, ((p.1 ∙ sym q.1) i, (tt, (tt, tt))))))

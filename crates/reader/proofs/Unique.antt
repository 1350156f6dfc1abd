-- The reader's contracts settle its answer and the sheet that it leaves: two runs that both satisfy one are the same.
-- Assumes nothing.
use mathlib.Core.Path.{refl, sym, ◌∙◌}
use Rattle.base.specs.Settles.{Settles}
use Rattle.table.proofs.RefusalLaws.{said_settles}
use Rattle.reader.proofs.reading.read.Kinds as read-kinds
use Rattle.reader.proofs.reading.read.Reads as read-reads
use Rattle.reader.proofs.reading.check.Kinds as check-kinds
use Rattle.reader.proofs.reading.check.Reads as check-reads

pub check_settles : Settles 1 check-kinds.ps check-kinds.r check-reads.Post
check_settles κs a x y ws vs p q = (said_settles x y (p ∙ sym q), refl)

pub read_settles : Settles 2 read-kinds.ps read-kinds.r read-reads.Post
read_settles κs a x y ws vs p q = (said_settles x y (p.0 ∙ sym q.0), (λ i. (tt, ((p.1 ∙ sym q.1) i, tt))))

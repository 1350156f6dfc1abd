-- The contracts settle the answer, the length and the lent bytes: two results that satisfy one are equal.
-- Assumes nothing.
use mathlib.Core.Path.{refl, sym, ◌∙◌}
use Rattle.base.specs.Settles.{Settles}
use Rattle.table.proofs.RefusalLaws.{written_settles}
use Rattle.writer.proofs.clear.Kinds as clear-kinds
use Rattle.writer.proofs.clear.Reads as clear_reads
use Rattle.writer.proofs.write.Kinds as write-kinds
use Rattle.writer.proofs.write.Reads as write-reads

pub write_settles : Settles 2 write-kinds.ps write-kinds.r write-reads.Post
write_settles κs a x y ws vs p q = (
  written_settles x y (λ i. record { answer = (p.answer ∙ sym q.answer) i; length = (p.length_is ∙ sym q.length_is) i }),
  (λ i. (tt, ((p.out_left ∙ sym q.out_left) i, tt))),
)

pub clear_settles : Settles 1 clear-kinds.ps clear-kinds.r clear_reads.Post
clear_settles κs a x y ws vs p q = (refl, (λ i. ((p ∙ sym q) i, tt)))

-- The public contract settles what the text holds and the place in it: two results that both satisfy it are equal.
-- Assumes nothing.
use Rattle.base.specs.Settles.{Settles}
use Rattle.text.proofs.GainLaws.{gains_settles}
use Rattle.printer.proofs.put_record.Kinds as record-kinds
use Rattle.printer.proofs.put_record.Reads as record-reads

pub record_settles : Settles 3 record-kinds.ps record-kinds.r record-reads.Post
record_settles κs a x y ws vs p q = (λ i. tt, λ i. (gains_settles _ _ _ _ p q i, (tt, (tt, (tt, tt)))))

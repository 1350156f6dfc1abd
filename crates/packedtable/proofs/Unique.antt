-- Each exported contract settles its answer and what is left in every lent place: two results that satisfy one are equal.
-- Assumes nothing.
use mathlib.Core.Path.{◌≡◌, sym, ◌∙◌}
use lib.ListN.{get_or}
use Rattle.base.specs.Settles.{Settles}
use Rattle.packedtable.specs.declared.UnpackAnswer.{UnpackAnswer}
use Rattle.packedtable.specs.declared.WriteAnswer.{WriteAnswer}
use Rattle.packedtable.specs.Answers.{unpack_said, write_said}
use Rattle.packedtable.proofs.avulgjesh_unpack.Kinds as unpack-kinds
use Rattle.packedtable.proofs.avulgjesh_unpack.Reads as unpack-reads
use Rattle.packedtable.proofs.avulgjesh_write.Kinds as write-kinds
use Rattle.packedtable.proofs.avulgjesh_write.Reads as write-reads
use Rattle.table.specs.Lists.{lists}
use Rattle.table.specs.Unpack.{counted}
use Rattle.table.proofs.ListsLaws.{lists_same}

unpack_same : (x y : UnpackAnswer) → unpack_said x ≡ unpack_said y → x ≡ y
unfolding unpack_said
unpack_same x y e = λ i. record {
  number = (e i).answer.number;
  section = (e i).answer.section;
  row = (e i).answer.row;
  test = (e i).answer.test;
  systems = (e i).systems;
  vls = (e i).vls;
  streams = (e i).streams;
  ports = (e i).ports;
  hops = (e i).hops;
}

write_same : (x y : WriteAnswer) → write_said x ≡ write_said y → x ≡ y
unfolding write_said
write_same x y e = λ i. record {
  number = (e i).answer.number;
  section = (e i).answer.section;
  row = (e i).answer.row;
  test = (e i).answer.test;
  length = (e i).length;
}

pub unpack : Settles 7 unpack-kinds.ps unpack-kinds.r unpack-reads.Post
unfolding counted unpack_said
unpack κs a x y ws vs p q =
    let counts = p.counts ∙ sym q.counts in
    let left : (lists _ _ _ _ _ _) ≡ (lists _ _ _ _ _ _) = lists_same _ _ (λ s _. p.held s ∙ sym (q.held s)) in (
      unpack_same x y
          (λ i. record {
            answer = (p.answer ∙ sym q.answer) i;
            systems = get_or (counts i) 0 0;
            vls = get_or (counts i) 1 0;
            streams = get_or (counts i) 2 0;
            ports = get_or (counts i) 3 0;
            hops = get_or (counts i) 4 0;
          }),
      (λ i. (tt, ((left i).header, ((left i).systems, ((left i).vls, ((left i).streams, ((left i).ports, ((left i).hops, tt)))))))),
    )

pub write : Settles 7 write-kinds.ps write-kinds.r write-reads.Post
write κs a x y ws vs p q = (
  write_same x y (λ i. record { answer = (p.answer ∙ sym q.answer) i; length = (p.length_is ∙ sym q.length_is) i }),
  (λ i. (tt, (tt, (tt, (tt, (tt, (tt, ((p.out_left ∙ sym q.out_left) i, tt)))))))),
)

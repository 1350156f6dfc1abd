-- The contracts settle their answers and what is left in every lent list: two runs that both satisfy one are the same.
-- Assumes nothing.
use mathlib.Core.Path.{◌≡◌, refl, sym, ◌∙◌}
use lib.ListN.{get_or}
use Rattle.base.specs.Settles.{Settles}
use Rattle.table.specs.Lists.{list_for}
use Rattle.table.specs.Unpack.{counted, unpacked_by}
use Rattle.table.proofs.RefusalLaws.{said_settles, unpacked_settles}
use Rattle.unpacker.proofs.own_answer.Kinds as own-answer-kinds
use Rattle.unpacker.proofs.own_answer.Reads as own-answer-reads
use Rattle.unpacker.proofs.counts_of.Kinds as counts-of-kinds
use Rattle.unpacker.proofs.counts_of.Reads as counts-of-reads
use Rattle.unpacker.proofs.counts.Kinds as counts-kinds
use Rattle.unpacker.proofs.counts.Reads as counts-reads
use Rattle.unpacker.proofs.header_list.Kinds as header-kinds
use Rattle.unpacker.proofs.header_list.Reads as header-reads
use Rattle.unpacker.proofs.fill_section.Kinds as fill-section-kinds
use Rattle.unpacker.proofs.fill_section.Reads as fill-section-reads
use Rattle.unpacker.proofs.clear.Kinds as clear-kinds
use Rattle.unpacker.proofs.clear.Reads as clear_reads
use Rattle.unpacker.proofs.unpack.Kinds as unpack-kinds
use Rattle.unpacker.proofs.unpack.Reads as unpack-reads

pub unpack_settles : Settles 2 unpack-kinds.ps unpack-kinds.r unpack-reads.Post
unfolding counted list_for
unpack_settles κs a x y ws vs p q =
    let counts = p.counts ∙ sym q.counts in
    let told : unpacked_by x ≡ unpacked_by y = λ i. record {
      answer = (p.answer ∙ sym q.answer) i;
      systems = get_or (counts i) 0 0;
      vls = get_or (counts i) 1 0;
      streams = get_or (counts i) 2 0;
      ports = get_or (counts i) 3 0;
      hops = get_or (counts i) 4 0;
    } in
    let l0 = p.held 0 ∙ sym (q.held 0) in
    let l1 = p.held 1 ∙ sym (q.held 1) in
    let l2 = p.held 2 ∙ sym (q.held 2) in
    let l3 = p.held 3 ∙ sym (q.held 3) in
    let l4 = p.held 4 ∙ sym (q.held 4) in
    let l5 = p.held 5 ∙ sym (q.held 5) in
    (unpacked_settles x y told, (λ i. (tt, ((l0 i, (l1 i, (l2 i, (l3 i, (l4 i, (l5 i, tt)))))), tt))))

pub fill_section_settles : Settles 2 fill-section-kinds.ps fill-section-kinds.r fill-section-reads.Post
fill_section_settles κs a x y ws vs p q = (refl, (λ i. (tt, (tt, ((p ∙ sym q) i, tt)))))

pub own_answer_settles : Settles 1 own-answer-kinds.ps own-answer-kinds.r own-answer-reads.Post
own_answer_settles κs a x y ws vs p q = (said_settles x y (p ∙ sym q), refl)

pub counts_of_settles : Settles 1 counts-of-kinds.ps counts-of-kinds.r counts-of-reads.Post
counts_of_settles κs a x y ws vs p q = (p ∙ sym q, refl)

pub counts_settle : Settles 1 counts-kinds.ps counts-kinds.r counts-reads.Post
counts_settle κs a x y ws vs p q = (p ∙ sym q, refl)

pub header_settles : Settles 1 header-kinds.ps header-kinds.r header-reads.Post
header_settles κs a x y ws vs p q = (p ∙ sym q, refl)

pub clear_settles : Settles 1 clear-kinds.ps clear-kinds.r clear_reads.Post
clear_settles κs a x y ws vs p q = (refl, (λ i. ((p ∙ sym q) i, tt)))

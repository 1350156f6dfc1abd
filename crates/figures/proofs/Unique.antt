-- The contracts settle their answers and what is lent: two runs that both satisfy them are the same.
-- Assumes nothing.
use mathlib.Core.Path.{refl, sym, ◌∙◌}
use Rattle.base.specs.Settles.{Settles}
use Rattle.figures.proofs.frames.line.Kinds as line-kinds
use Rattle.figures.proofs.frames.line.Reads as line-reads
use Rattle.figures.proofs.frames.packets.Kinds as packets-kinds
use Rattle.figures.proofs.frames.packets.Reads as packets-reads
use Rattle.table.proofs.RefusalLaws.{said_settles}
use Rattle.figures.proofs.found.Figures.blank.Kinds as blank-kinds
use Rattle.figures.proofs.found.Figures.blank.Reads as blank-reads
use Rattle.figures.proofs.found.Figures.clear.Kinds as clear-kinds
use Rattle.figures.proofs.found.Figures.clear.Reads as clear-reads
use Rattle.figures.proofs.judging.figures.Kinds as figures-kinds
use Rattle.figures.proofs.judging.figures.Reads as figures-reads

pub line_settles : Settles 0 line-kinds.ps line-kinds.r line-reads.Post
line_settles κs a x y ws vs p q = (p ∙ sym q, refl)

pub packets_settles : Settles 0 packets-kinds.ps packets-kinds.r packets-reads.Post
packets_settles κs a x y ws vs p q = (p ∙ sym q, refl)

pub blank_settles : Settles 0 blank-kinds.ps blank-kinds.r blank-reads.Post
blank_settles κs a x y ws vs p q = (p ∙ sym q, refl)

pub clear_settles : Settles 1 clear-kinds.ps clear-kinds.r clear-reads.Post
clear_settles κs a x y ws vs p q = (refl, (λ i. ((p ∙ sym q) i, tt)))

pub figures_settles : Settles 3 figures-kinds.ps figures-kinds.r figures-reads.Post
figures_settles κs a x y ws vs p q = (
  said_settles x y (p.answer_is ∙ sym q.answer_is),
  (λ i. (
    tt,
    (
      tt,
      (
        (p.sheet_is ∙ sym q.sheet_is) i,
        (
          record {
            waits = (p.waits_are ∙ sym q.waits_are) i;
            queues = (p.queues_are ∙ sym q.queues_are) i;
            hops = (p.hops_are ∙ sym q.hops_are) i;
          },
          tt,
        ),
      ),
    ),
  )),
)

-- Each public contract settles its answer, and what stands in a lent list: two results that both satisfy it are equal.
-- Assumes nothing.
use mathlib.Core.Path.{refl, sym, ◌∙◌}
use Rattle.base.specs.Settles.{Settles}
use Rattle.parser.proofs.filling.fill.Kinds as fill-kinds
use Rattle.parser.proofs.filling.fill.Reads as fill-reads
use Rattle.parser.proofs.filling.version_of.Kinds as version-kinds
use Rattle.parser.proofs.filling.version_of.Reads as version-reads
use Rattle.parser.proofs.mistakes.mistake_of.Kinds as mistake-kinds
use Rattle.parser.proofs.mistakes.mistake_of.Reads as mistake-reads
use Rattle.parser.proofs.read.Kinds as read-kinds
use Rattle.parser.proofs.read.Reads as read-reads

pub fill : Settles 2 fill-kinds.ps fill-kinds.r fill-reads.Post
fill κs a x y ws vs p q = (p.0 ∙ sym q.0, (λ i. (tt, (tt, (tt, ((p.1 ∙ sym q.1) i, tt))))))

pub version : Settles 1 version-kinds.ps version-kinds.r version-reads.Post
version κs a x y ws vs p q = (p ∙ sym q, refl)

pub mistake : Settles 1 mistake-kinds.ps mistake-kinds.r mistake-reads.Post
mistake κs a x y ws vs p q = (p ∙ sym q, refl)

pub read : Settles 2 read-kinds.ps read-kinds.r read-reads.Post
read κs a x y ws vs p q =
    let left = p.held ∙ sym q.held in (
      p.answer ∙ sym q.answer,
      λ i. (tt, (((left i).header, ((left i).systems, ((left i).vls, ((left i).streams, ((left i).ports, ((left i).hops, tt)))))), tt)),
    )

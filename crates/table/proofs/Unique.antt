-- The contract of the one public routine settles its answer: two results that both satisfy it are equal.
-- Assumes nothing.
use mathlib.Core.Path.{refl, sym, ◌∙◌}
use Rattle.base.specs.Settles.{Settles}
use Rattle.table.proofs.Refusal.answer.Kinds as answer-kinds
use Rattle.table.proofs.Refusal.answer.Reads as answer-reads

pub refusal_answer_settles : Settles 0 answer-kinds.ps answer-kinds.r answer-reads.Post
refusal_answer_settles κs a x y ws vs p q = (p ∙ sym q, refl)

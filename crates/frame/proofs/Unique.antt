-- Each public contract settles its answer: two results that both satisfy it are equal.
-- Assumes nothing.
use mathlib.Core.Path.{refl, sym, ◌∙◌}
use Rattle.base.specs.Settles.{Settles}
use Rattle.frame.proofs.Tick.per_byte.Kinds as per-byte-kinds
use Rattle.frame.proofs.Tick.per_byte.Reads as per-byte-reads
use Rattle.frame.proofs.Tick.sends_in_time.Kinds as in-time-kinds
use Rattle.frame.proofs.Tick.sends_in_time.Reads as in-time-reads
use Rattle.frame.proofs.line_of.Kinds as line-kinds
use Rattle.frame.proofs.line_of.Reads as line_reads_lem
use Rattle.frame.proofs.largest_line.Kinds as largest-kinds
use Rattle.frame.proofs.largest_line.Reads as largest-reads
use Rattle.frame.proofs.packets_of.Kinds as packets-kinds
use Rattle.frame.proofs.packets_of.Reads as packets-reads
use Rattle.frame.proofs.gap_of.Kinds as gap_kinds
use Rattle.frame.proofs.gap_of.Reads as gap-reads
use Rattle.frame.proofs.code_of.Kinds as code-kinds
use Rattle.frame.proofs.code_of.Reads as code_Reads
use Rattle.frame.proofs.ms_of.Kinds as ms-kinds
use Rattle.frame.proofs.ms_of.Reads as ms-reads

pub per_byte_says : Settles 0 per-byte-kinds.ps per-byte-kinds.r per-byte-reads.Post
per_byte_says κs a x y ws vs p q = (p ∙ sym q, refl)

pub in_time_lem : Settles 0 in-time-kinds.ps in-time-kinds.r in-time-reads.Post
in_time_lem κs a x y ws vs p q = (p ∙ sym q, refl)

pub line : Settles 0 line-kinds.ps line-kinds.r line_reads_lem.Post
line κs a x y ws vs p q = (p ∙ sym q, refl)

pub largest : Settles 0 largest-kinds.ps largest-kinds.r largest-reads.Post
largest κs a x y ws vs p q = (p ∙ sym q, refl)

pub packets : Settles 0 packets-kinds.ps packets-kinds.r packets-reads.Post
packets κs a x y ws vs p q = (p ∙ sym q, refl)

pub gap : Settles 0 gap_kinds.ps gap_kinds.r gap-reads.Post
gap κs a x y ws vs p q = (p ∙ sym q, refl)

pub code : Settles 0 code-kinds.ps code-kinds.r code_Reads.Post
code κs a x y ws vs p q = (p ∙ sym q, refl)

pub ms : Settles 0 ms-kinds.ps ms-kinds.r ms-reads.Post
ms κs a x y ws vs p q = (p ∙ sym q, refl)

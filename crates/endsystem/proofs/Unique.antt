-- Each exported contract settles its answer: two structs that say the same are equal.
-- Assumes nothing.
use Prim.Native.Nat.{ℕ}
use mathlib.Core.Path.{◌≡◌, refl, sym, ◌∙◌}
use lib.ListN.{get_or}
use Rattle.base.specs.Said.{Said}
use Rattle.base.specs.Settles.{Settles}
use Rattle.endsystem.specs.declared.RuleAnswer.{RuleAnswer}
use Rattle.endsystem.specs.declared.StationAnswer.{StationAnswer}
use Rattle.endsystem.specs.Answers.{rule_said, station_said}
use Rattle.endsystem.proofs.avulgjesh_line_of.Kinds as line-kinds
use Rattle.endsystem.proofs.avulgjesh_line_of.Reads as line_reads_lem
use Rattle.endsystem.proofs.avulgjesh_largest_line.Kinds as largest-kinds
use Rattle.endsystem.proofs.avulgjesh_largest_line.Reads as largest-reads
use Rattle.endsystem.proofs.avulgjesh_packets_of.Kinds as packets-kinds
use Rattle.endsystem.proofs.avulgjesh_packets_of.Reads as packets-reads
use Rattle.endsystem.proofs.avulgjesh_gap_of.Kinds as gap_kinds
use Rattle.endsystem.proofs.avulgjesh_gap_of.Reads as gap-reads
use Rattle.endsystem.proofs.avulgjesh_code_of.Kinds as code-kinds
use Rattle.endsystem.proofs.avulgjesh_code_of.Reads as code_Reads
use Rattle.endsystem.proofs.avulgjesh_ms_of.Kinds as ms-kinds
use Rattle.endsystem.proofs.avulgjesh_ms_of.Reads as ms-reads
use Rattle.endsystem.proofs.avulgjesh_per_byte.Kinds as per-byte-kinds
use Rattle.endsystem.proofs.avulgjesh_per_byte.Reads as per-byte-reads
use Rattle.endsystem.proofs.avulgjesh_sends_in_time.Kinds as in-time-kinds
use Rattle.endsystem.proofs.avulgjesh_sends_in_time.Reads as in-time-reads
use Rattle.endsystem.proofs.avulgjesh_station.Kinds as station-kinds
use Rattle.endsystem.proofs.avulgjesh_station.Reads as station-reads

-- value i of an answer, 0 where there is none
value_at : ℕ → Said → ℕ
value_at i s = get_or s.values i 0

pub rule_settles : (s : Said) (x y : RuleAnswer) → rule_said x ≡ s → rule_said y ≡ s → x ≡ y
unfolding rule_said value_at
rule_settles s x y p q =
    let e = p ∙ sym q in
    λ i. record { number = (e i).number; section = (e i).section; row = (e i).row; value = value_at 0 (e i) }

pub station_settles : (s : Said) (x y : StationAnswer) → station_said x ≡ s → station_said y ≡ s → x ≡ y
unfolding station_said value_at
station_settles s x y p q =
    let e = p ∙ sym q in
    λ i. record { number = (e i).number; section = (e i).section; row = (e i).row; length = value_at 0 (e i); figure = value_at 1 (e i) }

pub line : Settles 0 line-kinds.ps line-kinds.r line_reads_lem.Post
line κs a x y ws vs p q = (rule_settles _ x y p q, refl)

pub largest : Settles 0 largest-kinds.ps largest-kinds.r largest-reads.Post
largest κs a x y ws vs p q = (rule_settles _ x y p q, refl)

pub packets : Settles 0 packets-kinds.ps packets-kinds.r packets-reads.Post
packets κs a x y ws vs p q = (rule_settles _ x y p q, refl)

pub gap : Settles 0 gap_kinds.ps gap_kinds.r gap-reads.Post
gap κs a x y ws vs p q = (rule_settles _ x y p q, refl)

pub code : Settles 0 code-kinds.ps code-kinds.r code_Reads.Post
code κs a x y ws vs p q = (rule_settles _ x y p q, refl)

pub ms : Settles 0 ms-kinds.ps ms-kinds.r ms-reads.Post
ms κs a x y ws vs p q = (rule_settles _ x y p q, refl)

pub per_byte_says : Settles 0 per-byte-kinds.ps per-byte-kinds.r per-byte-reads.Post
per_byte_says κs a x y ws vs p q = (rule_settles _ x y p q, refl)

pub in_time_lem : Settles 0 in-time-kinds.ps in-time-kinds.r in-time-reads.Post
in_time_lem κs a x y ws vs p q = (p ∙ sym q, refl)

pub station : Settles 1 station-kinds.ps station-kinds.r station-reads.Post
station κs a x y ws vs p q = (station_settles _ x y p q, refl)

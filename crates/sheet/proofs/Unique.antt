-- The contract of each method of a sheet settles its answer: two runs that both satisfy it are the same. Of an accepted network it
-- settles the sheet that it shows.
-- Assumes nothing.
use mathlib.Core.Path.{◌≡◌, refl, sym, ◌∙◌}
use contract.Lifetimes.{Lfts}
use borrow.Fn.Kinds.{ended_of, res_t, Dens}
use denote.Triple.Clauses.{Lasts, at_exit}
use Rattle.base.specs.Settles.{Settles}
use Rattle.sheet.proofs.Sheet.blank.Kinds as blank-kinds
use Rattle.sheet.proofs.Sheet.blank.Reads as blank-reads
use Rattle.sheet.proofs.Sheet.clear.Kinds as clear-kinds
use Rattle.sheet.proofs.Sheet.clear.Reads as clear-reads
use Rattle.sheet.proofs.Sheet.systems.Kinds as systems-kinds
use Rattle.sheet.proofs.Sheet.systems.Reads as systems-reads
use Rattle.sheet.proofs.Sheet.vls.Kinds as vls-kinds
use Rattle.sheet.proofs.Sheet.vls.Reads as vls-reads
use Rattle.sheet.proofs.Sheet.streams.Kinds as streams-kinds
use Rattle.sheet.proofs.Sheet.streams.Reads as streams-reads
use Rattle.sheet.proofs.Sheet.ports.Kinds as ports-kinds
use Rattle.sheet.proofs.Sheet.ports.Reads as ports-reads
use Rattle.sheet.proofs.Sheet.hops.Kinds as hops-kinds
use Rattle.sheet.proofs.Sheet.hops.Reads as hops-reads
use Rattle.sheet.proofs.Sheet.delays.Kinds as delays-kinds
use Rattle.sheet.proofs.Sheet.delays.Reads as delays-reads
use Rattle.sheet.proofs.Sheet.system.Kinds as system-kinds
use Rattle.sheet.proofs.Sheet.system.Reads as system-reads
use Rattle.sheet.proofs.Sheet.vl.Kinds as vl-kinds
use Rattle.sheet.proofs.Sheet.vl.Reads as vl-reads
use Rattle.sheet.proofs.Sheet.stream.Kinds as stream-kinds
use Rattle.sheet.proofs.Sheet.stream.Reads as stream-reads
use Rattle.sheet.proofs.Sheet.port.Kinds as port-kinds
use Rattle.sheet.proofs.Sheet.port.Reads as port-reads
use Rattle.sheet.proofs.Sheet.hop.Kinds as hop-kinds
use Rattle.sheet.proofs.Sheet.hop.Reads as hop-reads
use Rattle.sheet.proofs.Sheet.stream_row.Kinds as stream-row-kinds
use Rattle.sheet.proofs.Sheet.stream_row.Reads as stream-row-reads
use Rattle.sheet.proofs.Sheet.hop_row.Kinds as hop-row-kinds
use Rattle.sheet.proofs.Sheet.hop_row.Reads as hop-row-reads
use Rattle.sheet.proofs.Sheet.leaves.Kinds as leaves-kinds
use Rattle.sheet.proofs.Sheet.leaves.Reads as leaves-reads
use Rattle.sheet.proofs.accepted.Accepted.new.Kinds as accepted-kinds
use Rattle.sheet.proofs.accepted.Accepted.new.Reads as accepted-reads

pub blank_settles : Settles 0 blank-kinds.ps blank-kinds.r blank-reads.Post
blank_settles κs a x y ws vs p q = (p ∙ sym q, refl)

pub clear_settles : Settles 1 clear-kinds.ps clear-kinds.r clear-reads.Post
clear_settles κs a x y ws vs p q = (refl, (λ i. ((p ∙ sym q) i, tt)))

pub systems_settles : Settles 1 systems-kinds.ps systems-kinds.r systems-reads.Post
systems_settles κs a x y ws vs p q = (p.0 ∙ sym q.0, refl)

pub vls_settles : Settles 1 vls-kinds.ps vls-kinds.r vls-reads.Post
vls_settles κs a x y ws vs p q = (p.0 ∙ sym q.0, refl)

pub streams_settles : Settles 1 streams-kinds.ps streams-kinds.r streams-reads.Post
streams_settles κs a x y ws vs p q = (p.0 ∙ sym q.0, refl)

pub ports_settles : Settles 1 ports-kinds.ps ports-kinds.r ports-reads.Post
ports_settles κs a x y ws vs p q = (p.0 ∙ sym q.0, refl)

pub hops_settles : Settles 1 hops-kinds.ps hops-kinds.r hops-reads.Post
hops_settles κs a x y ws vs p q = (p.0 ∙ sym q.0, refl)

pub delays_settles : Settles 1 delays-kinds.ps delays-kinds.r delays-reads.Post
delays_settles κs a x y ws vs p q = (p ∙ sym q, refl)

pub system_settles : Settles 1 system-kinds.ps system-kinds.r system-reads.Post
system_settles κs a x y ws vs p q = (p ∙ sym q, refl)

pub vl_settles : Settles 1 vl-kinds.ps vl-kinds.r vl-reads.Post
vl_settles κs a x y ws vs p q = (p ∙ sym q, refl)

pub stream_settles : Settles 1 stream-kinds.ps stream-kinds.r stream-reads.Post
stream_settles κs a x y ws vs p q = (p ∙ sym q, refl)

pub port_settles : Settles 1 port-kinds.ps port-kinds.r port-reads.Post
port_settles κs a x y ws vs p q = (p ∙ sym q, refl)

pub hop_settles : Settles 1 hop-kinds.ps hop-kinds.r hop-reads.Post
hop_settles κs a x y ws vs p q = (p ∙ sym q, refl)

pub stream_row_settles : Settles 1 stream-row-kinds.ps stream-row-kinds.r stream-row-reads.Post
stream_row_settles κs a x y ws vs p q = (p ∙ sym q, refl)

pub hop_row_settles : Settles 1 hop-row-kinds.ps hop-row-kinds.r hop-row-reads.Post
hop_row_settles κs a x y ws vs p q = (p ∙ sym q, refl)

pub leaves_settles : Settles 1 leaves-kinds.ps leaves-kinds.r leaves-reads.Post
leaves_settles κs a x y ws vs p q = (p ∙ sym q, refl)

-- ---- a sheet that is lent: what it holds, since where it stands no contract says
pub accepted_sheet : (κs : Lfts 1) (a : Dens κs accepted-kinds.ps) (x y : (res_t accepted-kinds.r κs).Denot) (ws vs : Lasts (ended_of 1 accepted-kinds.ps accepted-kinds.r) κs a)
    → accepted-reads.Post κs a x (at_exit (ended_of 1 accepted-kinds.ps accepted-kinds.r) κs a ws)
    → accepted-reads.Post κs a y (at_exit (ended_of 1 accepted-kinds.ps accepted-kinds.r) κs a vs)
    → x.sheet.now ≡ y.sheet.now
accepted_sheet κs a x y ws vs p q = p ∙ sym q

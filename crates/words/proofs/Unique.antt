-- Each public contract settles its answer: two results that both satisfy it are equal.
-- Assumes nothing.
use mathlib.Core.Path.{◌≡◌, refl, sym, ◌∙◌}
use contract.Lifetimes.{Lfts}
use borrow.Fn.Kinds.{ended_of, res_t, Dens}
use denote.Triple.Clauses.{Lasts, at_exit}
use Rattle.base.specs.Settles.{Settles}
use Rattle.words.proofs.line_end.Kinds as line-kinds
use Rattle.words.proofs.line_end.Reads as line_reads_lem
use Rattle.words.proofs.word_at.Kinds as word-kinds
use Rattle.words.proofs.word_at.Reads as word-reads
use Rattle.words.proofs.bytes_of.Kinds as bytes-kinds
use Rattle.words.proofs.bytes_of.Reads as bytes-reads
use Rattle.words.proofs.is_word.Kinds as is-kinds
use Rattle.words.proofs.is_word.Reads as is-reads
use Rattle.words.proofs.number_at.Kinds as number-kinds
use Rattle.words.proofs.number_at.Reads as number-reads

pub line : Settles 1 line-kinds.ps line-kinds.r line_reads_lem.Post
line κs a x y ws vs p q = (p ∙ sym q, refl)

pub word : Settles 1 word-kinds.ps word-kinds.r word-reads.Post
word κs a x y ws vs p q = (p ∙ sym q, refl)

pub is_word_lem : Settles 2 is-kinds.ps is-kinds.r is-reads.Post
is_word_lem κs a x y ws vs p q = (p ∙ sym q, refl)

pub number : Settles 1 number-kinds.ps number-kinds.r number-reads.Post
number κs a x y ws vs p q = (p ∙ sym q, refl)

-- ---- a word that is lent: its bytes, since where it stands no contract says
pub bytes : (κs : Lfts 1) (a : Dens κs bytes-kinds.ps) (x y : (res_t bytes-kinds.r κs).Denot) (ws vs : Lasts (ended_of 1 bytes-kinds.ps bytes-kinds.r) κs a)
    → bytes-reads.Post κs a x (at_exit (ended_of 1 bytes-kinds.ps bytes-kinds.r) κs a ws)
    → bytes-reads.Post κs a y (at_exit (ended_of 1 bytes-kinds.ps bytes-kinds.r) κs a vs)
    → x.now ≡ y.now
bytes κs a x y ws vs p q = p ∙ sym q

-- Each public contract settles what the text holds and the place in it: two results that both satisfy it are equal.
-- Assumes nothing.
use Rattle.std.proofs.Common.{◌≡◌, sym, ◌∙◌}
use contract.Lifetimes.{Lfts}
use borrow.Fn.Kinds.{ended_of, res_t, Dens}
use denote.Triple.Clauses.{Lasts, at_exit}
use Rattle.base.specs.Settles.{Settles}
use Rattle.text.proofs.GainLaws.{gains_settles}
use Rattle.text.proofs.Text.new.Kinds as new-kinds
use Rattle.text.proofs.Text.new.Reads as new-posts
use Rattle.text.proofs.Text.put_byte.Kinds as byte-kinds
use Rattle.text.proofs.Text.put_byte.Reads as byte-posts
use Rattle.text.proofs.Text.put_bytes.Kinds as bytes-kinds
use Rattle.text.proofs.Text.put_bytes.Reads as bytes-posts
use Rattle.text.proofs.Text.put_number.Kinds as number-kinds
use Rattle.text.proofs.Text.put_number.Reads as number-posts
use Rattle.text.proofs.Text.put_spaced_number.Kinds as spaced-kinds
use Rattle.text.proofs.Text.put_spaced_number.Reads as spaced-posts
use Rattle.text.proofs.Text.put_line.Kinds as line-kinds
use Rattle.text.proofs.Text.put_line.Reads as line-posts
use Rattle.text.proofs.Text.put_refusal.Kinds as refusal-kinds
use Rattle.text.proofs.Text.put_refusal.Reads as refusal-posts
use Rattle.text.proofs.Text.written.Kinds as written-kinds
use Rattle.text.proofs.Text.written.Reads as written-posts
use Rattle.text.proofs.refusal_line.Kinds as told-kinds
use Rattle.text.proofs.refusal_line.Reads as told-posts

-- a text that begins
pub new_text : (κs : Lfts 1) (a : Dens κs new-kinds.ps) (x y : (res_t new-kinds.r κs).Denot) (ws vs : Lasts (ended_of 1 new-kinds.ps new-kinds.r) κs a)
    → new-posts.Post κs a x (at_exit (ended_of 1 new-kinds.ps new-kinds.r) κs a ws)
    → new-posts.Post κs a y (at_exit (ended_of 1 new-kinds.ps new-kinds.r) κs a vs)
    → x ≡ y
new_text κs a x y ws vs p q i = record { bytes = (p.1 ∙ sym q.1) i; at = (p.0 ∙ sym q.0) i }

pub byte_settles : Settles 2 byte-kinds.ps byte-kinds.r byte-posts.Post
byte_settles κs a x y ws vs p q = (λ i. tt, λ i. (gains_settles _ _ _ _ p q i, (tt, tt)))

pub bytes_settles : Settles 3 bytes-kinds.ps bytes-kinds.r bytes-posts.Post
bytes_settles κs a x y ws vs p q = (λ i. tt, λ i. (gains_settles _ _ _ _ p q i, (tt, tt)))

pub number_settles : Settles 2 number-kinds.ps number-kinds.r number-posts.Post
number_settles κs a x y ws vs p q = (λ i. tt, λ i. (gains_settles _ _ _ _ p q i, (tt, tt)))

pub spaced_settles : Settles 2 spaced-kinds.ps spaced-kinds.r spaced-posts.Post
spaced_settles κs a x y ws vs p q = (λ i. tt, λ i. (gains_settles _ _ _ _ p q i, (tt, tt)))

pub line_settles : Settles 3 line-kinds.ps line-kinds.r line-posts.Post
line_settles κs a x y ws vs p q = (λ i. tt, λ i. (gains_settles _ _ _ _ p q i, (tt, tt)))

pub refusal_settles : Settles 2 refusal-kinds.ps refusal-kinds.r refusal-posts.Post
refusal_settles κs a x y ws vs p q = (λ i. tt, λ i. (gains_settles _ _ _ _ p q i, (tt, tt)))

-- ---- what is lent back: its bytes, since where it stands no contract says
pub written_bytes : (κs : Lfts 1) (a : Dens κs written-kinds.ps) (x y : (res_t written-kinds.r κs).Denot) (ws vs : Lasts (ended_of 1 written-kinds.ps written-kinds.r) κs a)
    → written-posts.Post κs a x (at_exit (ended_of 1 written-kinds.ps written-kinds.r) κs a ws)
    → written-posts.Post κs a y (at_exit (ended_of 1 written-kinds.ps written-kinds.r) κs a vs)
    → x.now ≡ y.now
written_bytes κs a x y ws vs p q = p ∙ sym q

pub told_bytes : (κs : Lfts 1) (a : Dens κs told-kinds.ps) (x y : (res_t told-kinds.r κs).Denot) (ws vs : Lasts (ended_of 1 told-kinds.ps told-kinds.r) κs a)
    → told-posts.Post κs a x (at_exit (ended_of 1 told-kinds.ps told-kinds.r) κs a ws)
    → told-posts.Post κs a y (at_exit (ended_of 1 told-kinds.ps told-kinds.r) κs a vs)
    → x.now ≡ y.now
told_bytes κs a x y ws vs p q = p ∙ sym q

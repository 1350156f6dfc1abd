-- `reader::references::one_sample` meets its contract: the sizes are such that equation 4 is asked for.
-- Assumes nothing.
use Prim.Native.Nat.{ℕ}
use mathlib.Core.Path.{sym, ap, ap₂, ◌∙◌}
use borrow.Author.Tests.{not-true, not-false}
use Rattle.frame.specs.Offered.{packets_of}
use Rattle.network.specs.declared.Vl.{Vl}
use Rattle.network.specs.declared.Stream.{Stream}
use Rattle.network.specs.Network.{vl_at}
use Rattle.sheet.specs.Sheet.{network_on}
use Rattle.reader.proofs.HopLaws.{not_sampling, sample_counted, sample_asked}
use Rattle.reader.proofs.references.one_sample.Goals as goal

pub returns-then-not-stream : goal.returns-then-not-stream
returns-then-not-stream c =
    let p = c.requires in
    not_sampling (network_on c.args.net.now) c.args.s p.0 p.1 (ap (λ (x : Stream). x.sampling) (sym c.stream-stream.ensures) ∙ not-true _ c.if-not-stream.true)

pub returns-in-Some : goal.returns-in-Some
returns-in-Some c =
    let a = c.args in
    let p = c.requires in
    let stream = c.stream-stream.ensures in
    let told = c.packets_of.ensures
    ∙ ap₂ (λ (m l : ℕ). packets_of m l) (ap (λ (x : Stream). x.size) stream)
    (ap (λ (x : Vl). x.lmax) c.vl-lmax.ensures ∙ ap (λ (x : Stream). (vl_at (network_on a.net.now) x.vl).lmax) stream) in
    sample_counted (network_on a.net.now) a.s p.0 p.1 (ap (λ (x : Stream). x.sampling) (sym stream) ∙ not-false _ c.if-not-stream.false) _ told _ c.in-Some.is

pub returns-in-None : goal.returns-in-None
returns-in-None c =
    let a = c.args in
    let p = c.requires in
    let stream = c.stream-stream.ensures in
    let told = c.packets_of.ensures
    ∙ ap₂ (λ (m l : ℕ). packets_of m l) (ap (λ (x : Stream). x.size) stream)
    (ap (λ (x : Vl). x.lmax) c.vl-lmax.ensures ∙ ap (λ (x : Stream). (vl_at (network_on a.net.now) x.vl).lmax) stream) in
    absurd (sample_asked (network_on a.net.now) a.s p.0 p.1 (ap (λ (x : Stream). x.sampling) (sym stream) ∙ not-false _ c.if-not-stream.false) _ told c.in-None.is)

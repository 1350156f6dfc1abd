use Prim.Native.Nat.{ℕ}
use mathlib.Core.Bool.{Bool}
use mathlib.Core.Path.{◌≡◌, sym, ap, ◌∙◌}
use native.Mathlib.Omega.{arith}
use lib.ListN.{length}
use Rattle.network.specs.declared.Stream.{Stream}
use Rattle.network.specs.Network.{Network, stream_at}
use Rattle.sheet.specs.Sheet.{network_on}
use Rattle.figures.proofs.CountLaws.{is_destination}
use Rattle.analysis.proofs.JoinLaws.{put_none, put_same, put_all, put_room, put_more}
use Rattle.analysis.proofs.results.Known.put_stream.Goals as goal
use Rattle.analysis.proofs.results.Known.put_stream.Goals.{then-is_destination, else-is_destination}

-- whether hop h is a destination of the stream, as it was told of the VL that was read
told : (net : Network) (s h : ℕ) {stream : Stream} {b x : Bool} → stream ≡ stream_at net s → b ≡ is_destination net stream.vl h → b ≡ x
    → is_destination net (stream_at net s).vl h ≡ x
told net s h is says e = ap (λ (x : Stream). is_destination net x.vl h) (sym is) ∙ sym says ∙ e

pub loop-h-init : goal.loop-h-init
loop-h-init c =
    let a = c.args in
    put_none (network_on a.self.net.sheet.now) a.s a.at (length a.res.now) a.res.now c.requires.before

pub put_row-requires : goal.put_row-requires
put_row-requires c =
    let a = c.args in
    let net = network_on a.self.net.sheet.now in
    let l = c.loop-h in
    let is = told net a.s l.h c.stream-vl.ensures c.is_destination.ensures c.if-is_destination.true in
    omega (arith, put_room net a.s l.next (length a.res.now) l.res c.requires.fits c.requires.stream l.h (omega arith) is l.invariant)

pub overflow_add-next : goal.overflow_add-next
overflow_add-next c =
    let a = c.args in
    let net = network_on a.self.net.sheet.now in
    let l = c.loop-h in
    let is = told net a.s l.h c.stream-vl.ensures c.is_destination.ensures c.if-is_destination.true in
    omega (arith, put_room net a.s l.next (length a.res.now) l.res c.requires.fits c.requires.stream l.h (omega arith) is l.invariant)

pub loop-h-preserved : goal.loop-h-preserved
loop-h-preserved c =
    let a = c.args in
    let p = c.requires in
    let net = network_on a.self.net.sheet.now in
    let n = length a.res.now in
    let l = c.loop-h in
    elim c.if-is_destination.branch [
      | then-is_destination w ↦
          let is = told net a.s l.h c.stream-vl.ensures c.is_destination.ensures w.if-is_destination.true in
          rw (w.res-is, w.next-is) (put_more net a.s l.next n l.res p.fits p.stream l.h (omega arith) is l.invariant w.row_of.result _ w.row_of.ensures w.put_row.ensures)
      | else-is_destination w ↦
          let other = told net a.s l.h c.stream-vl.ensures c.is_destination.ensures w.if-is_destination.false in
          rw (w.res-is, w.next-is) (put_same net a.s l.next n l.res l.h other l.invariant)
    ]

pub returns : goal.returns
returns c =
    let a = c.args in
    let l = c.loop-h in
    put_all (network_on a.self.net.sheet.now) a.s l.next (length a.res.now) l.res l.h (omega arith) l.invariant

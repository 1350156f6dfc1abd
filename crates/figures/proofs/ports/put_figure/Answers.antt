use mathlib.Core.Path.{sym, ap, ◌∙◌}
use Prim.Native.Nat.{◌<◌}
use native.Mathlib.Omega.{arith}
use lib.ListN.{length}
use Rattle.layout.specs.Limits.{limits}
use Rattle.network.specs.declared.Hop.{Hop}
use Rattle.rows.specs.Ports.{figure_of}
use Rattle.sheet.specs.Sheet.{network_on}
use Rattle.sheet.proofs.WalkLaws.{hop_row_lem}
use Rattle.figures.proofs.NotedLaws.{noted_taken, noted_passed}
use Rattle.figures.proofs.ports.put_figure.Goals as goal
use Rattle.figures.proofs.ports.put_figure.Goals.{then-hop_row-p, else-hop_row-p}

pub loop-h-preserved : goal.loop-h-preserved
loop-h-preserved c =
    let sheet = c.args.net.sheet.now in
    let net = network_on sheet in
    let l = c.loop-h in
    let row : l.h < length net.hops = omega arith in
    let on = ap (λ (x : Hop). x.port) (c.hop_row.ensures ∙ hop_row_lem sheet l.h row) in
    let few : l.h < limits.hops = omega arith in
    elim c.if-hop_row-p.branch [
      | then-hop_row-p w ↦
          let here = sym on ∙ w.if-hop_row-p.true in
          rw w.figures-is
          (noted_taken net (figure_of net) c.args.p l.h l.figures l.invariant c.args.figure row few here (c.requires.figure_is l.h row here))
      | else-hop_row-p w ↦
          rw w.figures-is (noted_passed net (figure_of net) c.args.p l.h l.figures l.invariant (λ e. w.if-hop_row-p.false (on ∙ e)))
    ]

use Prim.Native.Nat.{ℕ, ◌+◌}
use mathlib.Core.List.{List, ◌++◌}
use mathlib.Core.Path.{◌≡◌, ap, ◌∙◌}
use native.Mathlib.Numerals.{add-one}
use native.Mathlib.Omega.{arith}
use lib.ListN.{length, take, drop}
use lib.Seq.{take-length, paste, paste-suc}
use Rattle.analysis.specs.Placing.{put_at}
use Rattle.analysis.proofs.results.put_row.Goals as goal

pub loop-k-preserved : goal.loop-k-preserved
loop-k-preserved c =
    let a = c.args in
    let l = c.loop-k in
    rw (l.invariant, add-one l.k) (paste-suc a.res.now a.at a.row l.k 0 (omega arith) (omega arith))

pub returns : goal.returns
unfolding put_at
returns c =
    let a = c.args in
    let l = c.loop-k in
    let all : l.k ≡ length a.row = omega arith in
    let whole : paste a.res.now a.at a.row (length a.row) ≡ put_at a.res.now a.at a.row =
    ap (λ (r : List ℕ). take a.at a.res.now ++ r ++ drop (a.at + length a.row) a.res.now) (take-length a.row) in
    l.invariant ∙ ap (paste a.res.now a.at a.row) all ∙ whole

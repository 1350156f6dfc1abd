use mathlib.Core.List.{List}
use mathlib.Core.Path.{◌≡◌, ap, ◌∙◌}
use Prim.Native.Nat.{ℕ, ◌≤◌, ◌<◌}
use native.Mathlib.Omega.{arith}
use lib.ListN.{length, get_or}
use Rattle.base.specs.Tabulate.{tabulate}
use Rattle.base.proofs.TabulateLaws.{tabulate_at}
use Rattle.layout.specs.Limits.{limits}
use Rattle.network.specs.declared.Stream.{Stream}
use Rattle.network.specs.Network.{stream_at}
use Rattle.network.specs.Views.{leaves_of}
use Rattle.rows.specs.Rows.{rows_to, rows_of}
use Rattle.sheet.specs.declared.Sheet.{Sheet}
use Rattle.sheet.specs.Sheet.{network_on, Good}
use Rattle.sheet.specs.Walks.{stream_row}
use Rattle.sheet.proofs.GoodLaws.{good_of}
use Rattle.figures.proofs.CountLaws.{few_leaves, length_rows_more}
use Rattle.figures.proofs.RangeLaws.{stream_walked, stream_vl}
use Rattle.figures.proofs.counting.row_count.Goals as goal

module _ (sheet : Sheet) (s : ℕ) (stream : Stream) (good : Good sheet) (is : stream ≡ stream_row sheet s) (row : s < length (network_on sheet).streams) where
  -- the stream's VL is there, and its destinations are counted
  vl_there : stream.vl < limits.vls
  vl_there = omega (arith, stream_vl good (stream_walked good is row) row, good.ranges.few_vls)

  counted : (counts : List ℕ) → counts ≡ tabulate (λ v. length (leaves_of (network_on sheet) v)) limits.vls
      → let count = get_or counts stream.vl 0 in
      (count ≡ length (leaves_of (network_on sheet) (stream_at (network_on sheet) s).vl)) × (count ≤ 4095)
  counted counts e =
      let net = network_on sheet in
      let v = stream.vl in
      let count = ap (λ (l : List ℕ). get_or l v 0) e ∙ tabulate_at (λ v. length (leaves_of net v)) limits.vls v 0 vl_there in
      let same = ap (λ (x : Stream). length (leaves_of net x.vl)) (stream_walked good is row) in
      (count ∙ same, omega (arith, count, few_leaves net v, good.ranges.few_hops))

pub loop-s-init : goal.loop-s-init
unfolding rows_to
loop-s-init c = omega arith

pub offset_bounds-counts-stream_row : goal.offset_bounds-counts-stream_row
offset_bounds-counts-stream_row c = omega (arith, vl_there _ _ _ (good_of c.args.net.good) c.stream_row.ensures (omega arith))

pub bounds-counts-stream_row : goal.bounds-counts-stream_row
bounds-counts-stream_row c = vl_there _ _ _ (good_of c.args.net.good) c.stream_row.ensures (omega arith)

pub overflow_add-count : goal.overflow_add-count
overflow_add-count c =
    omega (arith, counted _ _ _ (good_of c.args.net.good) c.stream_row.ensures (omega arith) _ c.destinations-counts.ensures)

pub loop-s-preserved : goal.loop-s-preserved
loop-s-preserved c =
    let known = counted _ _ _ (good_of c.args.net.good) c.stream_row.ensures (omega arith) _ c.destinations-counts.ensures in
    omega (arith, known, length_rows_more (network_on c.args.net.sheet.now) c.loop-s.s)

pub returns : goal.returns
unfolding rows_of
returns c =
    let net = network_on c.args.net.sheet.now in
    let l = c.loop-s in
    let all : l.s ≡ length net.streams = omega arith in
    record { is = l.invariant.1 ∙ ap (λ (s : ℕ). length (rows_to net s)) all; most = omega arith }

-- The rows of a network: their figures as they are read, and the rows of one stream more, hop by hop.
-- Assumes nothing.
use Prim.Native.Nat.{ℕ, zero, suc, ◌+◌, ◌-◌, ◌*◌, ◌≤◌, ◌<◌}
use mathlib.Core.Bool.{true, false}
use mathlib.Core.List.{List, [], ◌∷◌, ◌++◌, map, append_assoc, map-append}
use mathlib.Core.Path.{◌≡◌, sym, ap, ◌∙◌}
use native.Mathlib.Numerals.{add-one}
use native.Mathlib.Omega.{arith}
use lib.ListN.{length}
use Rattle.base.proofs.TabulateLaws.{passing_hit, passing_miss}
use Rattle.frame.specs.Packets.{packets}
use Rattle.network.specs.Network.{Network, vl_at, stream_at}
use Rattle.network.specs.Views.{leaves_of}
use Rattle.rows.specs.Links.{mux_wait}
use Rattle.rows.specs.Rows.{queue_of, worst, best, row_jitter, row_of, rows_to, rows_of}
use Rattle.rows.proofs.RowLaws.{worst_sum, best_sum}
use Rattle.sheet.specs.declared.Delays.{Delays}
use Rattle.sheet.specs.Sheet.{delays_in}
use Rattle.figures.proofs.CountLaws.{is_destination, leaves_to, leaves_of_all, rows_with, length_rows_with, rows_more, length_rows_more}
use Rattle.figures.proofs.SumLaws.{passing_grows}
use Rattle.analysis.specs.declared.results.Ticks.{Ticks}
use Rattle.analysis.specs.Placing.{RouteTicks, FrameTicks, gaps_of}

module _ (net : Network) where
  -- ---- the figures of a row as they are read
  pub gaps_read : (s v p size lmax gap : ℕ) → v ≡ (stream_at net s).vl → p ≡ packets size lmax → size ≡ (stream_at net s).least → lmax ≡ (vl_at net v).lmax
      → gap ≡ (vl_at net v).gap → (p - 1) * gap ≡ gaps_of net s
  unfolding gaps_of
  gaps_read s v p size lmax gap e f g i j = rw (f, g, i, j, e)

  pub worst_read : (s h v queue wait : ℕ) (d : Delays) (frame route : Ticks) → d ≡ delays_in net → v ≡ (stream_at net s).vl
      → queue ≡ queue_of net s
      → wait ≡ mux_wait net v → FrameTicks net v frame → RouteTicks net h route
      → d.send_greatest + queue + wait + frame.most + route.most + d.receive_greatest ≡ worst net s h
  worst_read s h v queue wait d frame route is on q w f r = rw (is, q, w, f.most_is, r.most_is, on) (sym (worst_sum net s h))

  pub best_read : (s h v gaps : ℕ) (d : Delays) (frame route : Ticks) → d ≡ delays_in net → v ≡ (stream_at net s).vl → gaps ≡ gaps_of net s
      → FrameTicks net v frame → RouteTicks net h route
      → d.send_least + gaps + frame.least + route.least + d.receive_least ≡ best net s h
  unfolding gaps_of
  best_read s h v gaps d frame route is on g f r = rw (is, g, f.least_is, r.least_is, on) (sym (best_sum net s h))

  pub row_read : (s h q w b jitter d : ℕ) → q ≡ queue_of net s → w ≡ worst net s h → b ≡ best net s h → jitter ≡ (stream_at net s).jitter → d ≡ w - b
      → s ∷ h ∷ q ∷ w ∷ b ∷ (jitter + d) ∷ [] ≡ row_of net s h
  unfolding row_of row_jitter
  row_read s h q w b jitter d e f g i j = rw (j, i, e, f, g)

  -- ---- the rows
  -- of the first s streams, and of stream s those up to hop h
  abbrev pub rows_up_to : ℕ → ℕ → List (List ℕ)
  rows_up_to s h = rows_with net s (leaves_to net (stream_at net s).vl h)

  pub rows_up_to_all : (s h : ℕ) → h ≡ length net.hops → rows_up_to s h ≡ rows_to net (s + 1)
  rows_up_to_all s h e = ap (rows_with net s) (leaves_of_all net (stream_at net s).vl h e) ∙ sym (rows_more net s)

  pub rows_up_to_hit : (s h : ℕ) → is_destination net (stream_at net s).vl h ≡ true → rows_up_to s (h + 1) ≡ rows_up_to s h ++ (row_of net s h ∷ [])
  rows_up_to_hit s h is =
      let before = leaves_to net (stream_at net s).vl h in
      rw (add-one h) (ap (rows_with net s) (passing_hit (is_destination net (stream_at net s).vl) h is))
      ∙ ap (λ (rows : List (List ℕ)). rows_to net s ++ rows) (map-append (row_of net s) before (h ∷ []))
      ∙ sym (append_assoc (rows_to net s) (map (row_of net s) before) (row_of net s h ∷ []))

  pub rows_up_to_miss : (s h : ℕ) → is_destination net (stream_at net s).vl h ≡ false → rows_up_to s (h + 1) ≡ rows_up_to s h
  rows_up_to_miss s h other = rw (add-one h) (ap (rows_with net s) (passing_miss (is_destination net (stream_at net s).vl) h other))

  -- there are no more of them than of all
  rows_grow : (s n : ℕ) → length (rows_to net s) ≤ length (rows_to net (s + n))
  rows_grow s zero = let e : s + 0 ≡ s = omega arith in rw e (omega arith)
  rows_grow s (suc n) =
      let e : s + suc n ≡ s + n + 1 = omega arith in
      rw e (omega (arith, rows_grow s n, length_rows_more net (s + n)))

  pub rows_fit : (s h : ℕ) → s < length net.streams → h ≤ length net.hops → length (rows_up_to s h) ≤ length (rows_of net)
  unfolding rows_of leaves_of
  rows_fit s h a b =
      let v = (stream_at net s).vl in
      let there : s + 1 + (length net.streams - (s + 1)) ≡ length net.streams = omega arith in
      omega (
        arith,
        length_rows_with net s (leaves_to net v h),
        passing_grows (is_destination net v) h (length net.hops) b,
        length_rows_more net s,
        rw there at (rows_grow (s + 1) (length net.streams - (s + 1))),
      )

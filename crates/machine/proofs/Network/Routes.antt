-- From 01's figures to the windows that the lemmas use: the jitter of a hop is the spread of its window, and the rows' worst and best are the windows' ends. By induction along the route.
-- Assumes nothing.
use Prim.Native.Nat.{ℕ, zero, suc, ◌+◌, ◌<◌}
use mathlib.Core.Bool.{Bool, true, false, cond, not, ◌&&◌}
use Rattle.std.specs.Prelude.{Option, None, Some}
use mathlib.Core.Path.{◌≡◌, refl, ap, ◌∙◌}
use native.Mathlib.Nat.{le_refl}
use native.Mathlib.Omega.{arith}
use lib.Dec.{eqb, T, eqb→eq, eqb_refl}
use lib.ListN.{length}
use Rattle.base.specs.Tabulate.{passing, total}
use Rattle.frame.proofs.FrameLaws.{largest_line_bounds}
use Rattle.network.specs.Network.{Network, vl_at, stream_at, port_at, hop_at, parent_at}
use Rattle.network.specs.Link.{system_link}
use Rattle.network.proofs.LinkLaws.{most_is}
use Rattle.network.proofs.RouteLaws.{route_of_root, route_of_parent}
use Rattle.rows.specs.Links.{send_most, send_line, send_spread, send_sum, mux_wait, hop_line, hop_spread}
use Rattle.network.specs.Views.{vls_of, route}
use Rattle.rows.specs.Ports.{root_jitter, child_jitter, jitter_of, figure_of}
use Rattle.rows.specs.Rows.{worst, best}
use Rattle.rows.proofs.PortLaws.{figures_of}
use Rattle.rows.proofs.RowLaws.{most_at, least_at, worst_sum, best_sum}
use Rattle.machine.specs.Sum.{weigh}
use Rattle.machine.specs.Sound.{Sound, Busy}
use Rattle.machine.proofs.Lists.Sums.{upto_one}
use Rattle.machine.proofs.Stage.Select.{weigh_passing}
use Rattle.machine.proofs.Network.Windows.{queue_is, soon_by, late_by, Windows, latest, soonest}
use Rattle.machine.proofs.Network.Covers.{queue_covers, port_covers, figure_least}

-- ---- one number taken out of a sum
pub taken_out : (g : ℕ → ℕ) (q : ℕ → Bool) (v : ℕ) → T (q v) → (n : ℕ) → v < n
    → weigh g (passing q n) ≡ weigh g (passing (λ w. q w && not (eqb w v)) n) + g v
taken_out g q v t n h = rw (weigh_passing g q n, weigh_passing g (λ w. q w && not (eqb w v)) n)
    ((upto_one (λ i. cond (q i) (g i) 0) (λ i. cond (q i && not (eqb i v)) (g i) 0) v (g v)
    (λ i e. other (q i) (eqb i v) (g i) (λ k. e (eqb→eq i v k))) (own (q v) (eqb v v) (g v) t (eqb_refl v)) n).1 h)
  where
    other : (a b : Bool) (x : ℕ) → (T b → ⊥) → cond a x 0 ≡ cond (a && not b) x 0
    other true true x k = absurd (k tt)
    other true false x k = refl
    other false b x k = refl

    own : (a b : Bool) (x : ℕ) → T a → T b → cond a x 0 ≡ cond (a && not b) x 0 + x
    own true true x h k = omega arith
    own true false x h k = absurd k
    own false b x h k = absurd h

module _ (net : Network) (sound : Sound net) (busy : Busy net) where
  -- 7's sum is the mux wait of a VL and a frame of its own
  pub send_sum_is : (v : ℕ) → v < length net.vls → send_sum net (vl_at net v).system ≡ mux_wait net v + send_most net v
  unfolding send_sum mux_wait vls_of
  send_sum_is v h = taken_out (send_most net) (λ w. eqb (vl_at net w).system (vl_at net v).system) v (eqb_refl (vl_at net v).system) (length net.vls) h

  -- ---- sums over a route
  module _ (c : ℕ → ℕ) where
    abbrev pub over : Option ℕ → ℕ
    over None = 0
    over (Some g) = weigh c (route net g)

    pub route_sum : (h : ℕ) → h < length net.hops → weigh c (route net h) ≡ c h + over (parent_at net h)
    unfolding total route
    route_sum h l = go (parent_at net h) refl
      where
        go : (o : Option ℕ) → parent_at net h ≡ o → weigh c (route net h) ≡ c h + over o
        go None e = ap (weigh c) (route_of_root net 7 h e)
        go (Some g) e = ap (weigh c) (route_of_parent net sound.references h l g e)

  -- ---- windows
  soon : ℕ → ℕ
  soon h = send_line net (hop_at net h).vl + over (least_at net) (parent_at net h) + (port_at net (hop_at net h).port).least

  late : ℕ → ℕ
  late h = send_sum net (vl_at net (hop_at net h).vl).system + over (most_at net) (parent_at net h) + (port_at net (hop_at net h).port).greatest

  soon_route : (h : ℕ) → h < length net.hops → send_line net (hop_at net h).vl + weigh (least_at net) (route net h) ≡ soon h + hop_line net h
  unfolding soon
  soon_route h l = omega (arith, route_sum (least_at net) h l)

  late_route : (h : ℕ) → h < length net.hops → send_sum net (vl_at net (hop_at net h).vl).system + weigh (most_at net) (route net h) ≡ late h + figure_of net h
  unfolding late
  late_route h l = omega (arith, route_sum (most_at net) h l)

  row_of_parent : (h g : ℕ) → h < length net.hops → parent_at net h ≡ Some g → g < length net.hops
  row_of_parent h g l e = omega (arith, sound.references.parent_earlier_says h g l e)

  soon_is : (h : ℕ) → h < length net.hops → soon h ≡ soon_by net soon h (parent_at net h)
  unfolding soon
  soon_is h l = go (parent_at net h) refl
    where
      go : (o : Option ℕ) → parent_at net h ≡ o
          → send_line net (hop_at net h).vl + over (least_at net) o + (port_at net (hop_at net h).port).least ≡ soon_by net soon h o
      go None e = omega arith
      go (Some g) e = omega (arith, ap (send_line net) (sound.references.parent_vl h g l e), soon_route g (row_of_parent h g l e))

  late_is : (h : ℕ) → h < length net.hops → late h ≡ late_by net late h (parent_at net h)
  unfolding late
  late_is h l = go (parent_at net h) refl
    where
      go : (o : Option ℕ) → parent_at net h ≡ o
          → send_sum net (vl_at net (hop_at net h).vl).system + over (most_at net) o + (port_at net (hop_at net h).port).greatest ≡ late_by net late h o
      go None e = omega arith
      go (Some g) e =
          omega (arith, ap (λ (v : ℕ). send_sum net (vl_at net v).system) (sound.references.parent_vl h g l e), late_route g (row_of_parent h g l e))

  -- on the end system's link: most less least is 01's (20 + Lmax − 84) × ticks per byte
  send_spread_lem : (v : ℕ) → v < length net.vls → send_most net v ≡ send_line net v + send_spread net v
  unfolding send_most send_line send_spread
  send_spread_lem v h =
      most_is (system_link net (vl_at net v).system) (vl_at net v).lmax (largest_line_bounds (vl_at net v).lmax (sound.lmax_least v h) (sound.lmax_greatest v h)).0

  -- 01's jitter is the spread of the window
  spread : (n h : ℕ) → h < n → h < length net.hops → late h ≡ soon h + jitter_of net h
  unfolding root_jitter child_jitter hop_spread
  spread zero h k l = absurd (omega arith)
  spread (suc n) h k l = go (λ g. spread n g) (parent_at net h) refl
    where
      go : ((g : ℕ) → g < n → g < length net.hops → late g ≡ soon g + jitter_of net g) → (o : Option ℕ) → parent_at net h ≡ o → late h ≡ soon h + jitter_of net h
      go f None e =
          let v = (hop_at net h).vl in
          let hv = sound.references.hop_vl h l in
          omega (
            arith,
            soon_is h l ∙ ap (soon_by net soon h) e,
            late_is h l ∙ ap (late_by net late h) e,
            (figures_of net sound.references).root_is h l e,
            send_sum_is v hv,
            send_spread_lem v hv,
            sound.port_delay (hop_at net h).port (sound.references.hop_port h l),
          )
      go f (Some g) e =
          let row = row_of_parent h g l e in
          omega (
            arith,
            soon_is h l ∙ ap (soon_by net soon h) e,
            late_is h l ∙ ap (late_by net late h) e,
            (figures_of net sound.references).child_is h g l e,
            f g (omega (arith, sound.references.parent_earlier_says h g l e)) row,
            figure_least net sound busy g row,
            sound.port_delay (hop_at net h).port (sound.references.hop_port h l),
          )

  pub windows : Windows net
  windows = record {
    soon = soon;
    late = late;
    soon_is = soon_is;
    late_is = late_is;
    spread = λ h l. spread (suc h) h (le_refl (suc h)) l;
    queue_covers = queue_covers net sound busy;
    port_covers = port_covers net sound busy;
  }

  module _ (s h : ℕ) (hs : s < length net.streams) (hh : h < length net.hops) (of : (hop_at net h).vl ≡ (stream_at net s).vl) where
    pub worst_is : latest net windows s h ≡ worst net s h
    unfolding windows
    worst_is =
        omega (
          arith,
          worst_sum net s h,
          late_route h hh,
          ap (λ (v : ℕ). send_sum net (vl_at net v).system) of,
          send_sum_is (stream_at net s).vl (sound.references.stream_vl s hs),
          queue_is net s,
        )

    pub best_is : soonest net windows s h ≡ best net s h
    unfolding windows
    best_is = omega (arith, best_sum net s h, soon_route h hh, ap (send_line net) of)

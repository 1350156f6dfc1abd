-- What a route adds, hop by hop from its end: the sums over the hops so far and what is left of the route, eight hops in all at most, are
-- together what the whole route adds. Assumes nothing.
use Prim.Native.Nat.{ℕ, suc, ◌+◌, ◌-◌, ◌*◌, ◌≤◌, ◌<◌}
use mathlib.Core.List.{List, map}
use Rattle.std.specs.Prelude.{None, Some}
use mathlib.Core.Path.{◌≡◌, ap}
use native.Mathlib.Omega.{arith}
use lib.ListN.{length, get_or}
use Rattle.base.specs.Tabulate.{total}
use Rattle.frame.proofs.FrameLaws.{least_line_is}
use Rattle.network.specs.declared.Port.{Port}
use Rattle.network.specs.declared.Hop.{Hop}
use Rattle.network.specs.Network.{Network, port_at, hop_at, parent_at}
use Rattle.network.specs.ReferenceFacts.{References}
use Rattle.network.specs.Views.{route_of, route}
use Rattle.network.proofs.RouteLaws.{route_of_root, route_of_child}
use Rattle.rows.proofs.RowLaws.{most_at, least_at}
use Rattle.sheet.specs.Sheet.{network_on}
use Rattle.sheet.proofs.GoodLaws.{good_of}
use Rattle.figures.proofs.BoundLaws.{hop_figure_bound}
use Rattle.figures.proofs.KnownLaws.{figure_at_lem}
use Rattle.figures.proofs.LinkLaws.{hop_least_is}
use Rattle.figures.proofs.RangeLaws.{port_range, hop_names}
use Rattle.analysis.specs.declared.results.Known.{Known}
use Rattle.analysis.specs.Placing.{RouteTicks}

module _ (net : Network) where
  -- ---- what a route adds up to
  module _ (f : ℕ → ℕ) where
    -- over the n hops at most from hop g on
    abbrev pub along : ℕ → ℕ → ℕ
    along n g = total (map f (route_of net n g))

    pub along_root : (m n g sum all : ℕ) → n ≡ suc m → parent_at net g ≡ None → sum + along n g ≡ all → sum + f g ≡ all
    unfolding total
    along_root m n g sum all e root s =
        omega (arith, ap (λ (k : ℕ). along k g) e, ap (λ (r : List ℕ). total (map f r)) (route_of_root net m g root))

    pub along_child : (m n g i sum all : ℕ) → n ≡ suc m → parent_at net g ≡ Some i → sum + along n g ≡ all → sum + f g + along m i ≡ all
    unfolding total
    along_child m n g i sum all e child s =
        omega (arith, ap (λ (k : ℕ). along k g) e, ap (λ (r : List ℕ). total (map f r)) (route_of_child net m g i child))

    pub along_none : (n g sum all : ℕ) → n ≡ 0 → sum + along n g ≡ all → sum ≡ all
    unfolding total route_of
    along_none n g sum all e s = let z : along n g ≡ 0 = ap (λ (m : ℕ). along m g) e in omega arith

  -- ---- what hop g adds: the port's greatest delay and the hop's figure; a least frame and the port's least delay. There is room to note it
  pub record HopAdds (g most least : ℕ) : Type 0 where
    pub room : g < 1024
    pub most_is : most ≡ most_at net g
    pub most_bound : most ≤ 125001250
    pub least_is : least ≡ least_at net g
    pub least_bound : least ≤ 2090

  -- ---- `done` hops from the end of hop h's route, at hop g
  pub record Walked (h done g most least : ℕ) : Type 0 where
    pub there : g < length net.hops
    pub most_bound : most ≤ done * 125001250
    pub most_is : most + along (most_at net) (8 - done) g ≡ total (map (most_at net) (route net h))
    pub least_bound : least ≤ done * 2090
    pub least_is : least + along (least_at net) (8 - done) g ≡ total (map (least_at net) (route net h))

  pub walked_none : (h : ℕ) → h < length net.hops → Walked h 0 h 0 0
  unfolding route
  walked_none h l = record {
    there = l;
    most_bound = omega arith;
    most_is = omega arith;
    least_bound = omega arith;
    least_is = omega arith;
  }

  module _ (h done g most least : ℕ) (so_far : Walked h done g most least) where
    pub walked_all : done ≡ 8 → RouteTicks net h (record { most = most; least = least })
    walked_all e = record {
      most_is = along_none (most_at net) (8 - done) g most _ (omega arith) so_far.most_is;
      most_bound = omega (arith, so_far.most_bound);
      least_is = along_none (least_at net) (8 - done) g least _ (omega arith) so_far.least_is;
      least_bound = omega (arith, so_far.least_bound);
    }

    -- hop g is a root, or the route goes on at its parent
    module _ (some_left : done < 8) (x y : ℕ) (here : HopAdds g x y) where
      one_less : 8 - done ≡ suc (8 - (done + 1))
      one_less = omega arith

      pub walked_root : parent_at net g ≡ None → RouteTicks net h (record { most = most + x; least = least + y })
      walked_root root = record {
        most_is = rw here.most_is (along_root (most_at net) _ _ g most _ one_less root so_far.most_is);
        most_bound = omega (arith, so_far.most_bound, here.most_bound);
        least_is = rw here.least_is (along_root (least_at net) _ _ g least _ one_less root so_far.least_is);
        least_bound = omega (arith, so_far.least_bound, here.least_bound);
      }

      pub walked_child : References net → (i : ℕ) → parent_at net g ≡ Some i → Walked h (done + 1) i (most + x) (least + y)
      walked_child refs i child = record {
        there = omega (arith, so_far.there, refs.parent_earlier_says g i so_far.there child);
        most_bound = omega (arith, so_far.most_bound, here.most_bound);
        most_is = rw here.most_is (along_child (most_at net) _ _ g i most _ one_less child so_far.most_is);
        least_bound = omega (arith, so_far.least_bound, here.least_bound);
        least_is = rw here.least_is (along_child (least_at net) _ _ g i least _ one_less child so_far.least_is);
      }

-- hop g and its port as they are read off the sheet, with the figure that is noted
pub hop_adds : (k : Known) {g : ℕ} {hop : Hop} {port : Port} → g < length (network_on k.net.sheet.now).hops → hop ≡ hop_at (network_on k.net.sheet.now) g
    → port ≡ port_at (network_on k.net.sheet.now) hop.port
    → HopAdds (network_on k.net.sheet.now) g (port.greatest + get_or k.found.now.hops g 0) (84 * port.perbyte + port.least)
hop_adds k {g} row is on =
    let net = network_on k.net.sheet.now in
    let good = good_of k.net.good in
    let range = port_range good on (hop_names good is row).1 in
    let noted = figure_at_lem net k.found.now k.computed g row in
    record {
      room = omega (arith, good.ranges.few_hops);
      most_is = rw (noted, on, is);
      most_bound = omega (arith, range.delay_greatest, noted, hop_figure_bound net good.ranges good.references g row);
      least_is = rw (on, is, hop_least_is net g, least_line_is);
      least_bound = omega (arith, range);
    }

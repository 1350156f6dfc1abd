-- `figures::ports::Lower::apart` meets its contract: a root's frames come from the end system, another hop's from the port of its parent.
-- Assumes nothing.
use Prim.Native.Nat.{ℕ, ◌+◌, ◌-◌, ◌*◌, ◌≤◌, ◌<◌}
use mathlib.Core.List.{List}
use Rattle.std.specs.Prelude.{Some}
use mathlib.Core.Path.{◌≡◌, sym, ap}
use native.Mathlib.Omega.{arith}
use lib.ListN.{length, get_or}
use Rattle.frame.proofs.FrameLaws.{least_line_is}
use Rattle.layout.specs.Limits.{limits}
use Rattle.network.specs.declared.Hop.{Hop}
use Rattle.network.specs.Network.{parent_at}
use Rattle.rows.specs.Links.{mux_wait}
use Rattle.sheet.specs.declared.Sheet.{Sheet}
use Rattle.sheet.specs.Sheet.{network_on, Good}
use Rattle.sheet.proofs.GoodLaws.{good_of}
use Rattle.figures.specs.Computing.{HopAsked}
use Rattle.figures.proofs.BoundLaws.{wait_noted, hop_figure_bound, jitter_bound}
use Rattle.figures.proofs.HopLaws.{Above, root_apart, left_apart_is, child_apart, above_noted}
use Rattle.figures.proofs.RangeLaws.{hop_names, parent_read, port_range}
use Rattle.figures.proofs.ports.Lower.apart.Goals as goal

module _ {sheet : Sheet} (good : Good sheet) {waits figures jitters : List ℕ} {h : ℕ} {hop : Hop} (asked : HopAsked (network_on sheet) waits figures jitters h hop) where
  vl_there : hop.vl < length (network_on sheet).vls
  vl_there = (hop_names good asked.is asked.there).0

  wait : (get_or waits hop.vl 0 ≡ mux_wait (network_on sheet) hop.vl) × (get_or waits hop.vl 0 ≤ 4095 * 15380)
  wait = wait_noted (network_on sheet) good.ranges good.references waits asked.known.waits_are hop.vl vl_there

  -- ---- behind the port of the parent
  module _ (g : ℕ) (is : hop.parent ≡ Some g) where
    child : parent_at (network_on sheet) h ≡ Some g
    child = parent_read (network_on sheet) h asked.is is

    above : Above (network_on sheet) g figures jitters
    above = above_noted (network_on sheet) good.references waits figures jitters h g hop asked child

    apart : (line r : ℕ) → r ≡ get_or figures g 0 - line → get_or jitters g 0 + r ≤ 1225000000
    apart line r less =
        omega (
          arith,
          less,
          above.jitter_is,
          above.figure_is,
          jitter_bound (network_on sheet) good.ranges good.references g above.row,
          hop_figure_bound (network_on sheet) good.ranges good.references g above.row,
        )

    hop_there : g < limits.hops
    hop_there = omega (arith, above.row, good.ranges.few_hops)

-- ---- behind the end system
pub offset_bounds-self-hop : goal.offset_bounds-self-hop
offset_bounds-self-hop c = let good = good_of c.args.self.net.good in omega (arith, vl_there good c.requires, good.ranges.few_vls)

pub bounds-self-hop : goal.bounds-self-hop
bounds-self-hop c = let good = good_of c.args.self.net.good in omega (arith, vl_there good c.requires, good.ranges.few_vls)

pub send_spread-requires : goal.send_spread-requires
send_spread-requires c = vl_there (good_of c.args.self.net.good) c.requires

pub overflow_add-result : goal.overflow_add-result
overflow_add-result c = omega (arith, wait (good_of c.args.self.net.good) c.requires, c.send_spread.ensures.most)

pub returns-in_default : goal.returns-in_default
returns-in_default c =
    let good = good_of c.args.self.net.good in
    let net = network_on c.args.self.net.sheet.now in
    let p = c.requires in
    let noted = wait good p in
    let root = parent_read net c.args.h p.is c.in_default.is in
    record {
      is = root_apart net good.references c.args.h p.there _ p.is _ root (omega (arith, noted.0, c.send_spread.ensures.is));
      most = omega (arith, noted.1, c.send_spread.ensures.most);
    }

-- ---- behind a port
pub offset_bounds-self-g : goal.offset_bounds-self-g
offset_bounds-self-g c = omega (arith, hop_there (good_of c.args.self.net.good) c.requires _ c.in-Some.is)

pub bounds-self-g : goal.bounds-self-g
bounds-self-g c = hop_there (good_of c.args.self.net.good) c.requires _ c.in-Some.is

pub offset_bounds-self-g-2 : goal.offset_bounds-self-g-2
offset_bounds-self-g-2 c = omega (arith, hop_there (good_of c.args.self.net.good) c.requires _ c.in-Some.is)

pub bounds-self-g-2 : goal.bounds-self-g-2
bounds-self-g-2 c = hop_there (good_of c.args.self.net.good) c.requires _ c.in-Some.is

pub overflow_mul-port : goal.overflow_mul-port
overflow_mul-port c =
    let good = good_of c.args.self.net.good in
    let there = above good c.requires _ c.in-Some.is in
    omega (arith, port_range good c.port-port.ensures (hop_names good c.hop.ensures there.row).1)

pub overflow_add-result-2 : goal.overflow_add-result-2
overflow_add-result-2 c =
    omega (arith, apart (good_of c.args.self.net.good) c.requires _ c.in-Some.is _ _ c.less.ensures)

pub returns : goal.returns
returns c =
    let good = good_of c.args.self.net.good in
    let net = network_on c.args.self.net.sheet.now in
    let p = c.requires in
    let port = c.port-port in
    let known = above good p _ c.in-Some.is in
    let left = left_apart_is net _ _ _ _ _ _ _ c.hop.ensures port.ensures
    known.jitter_is known.figure_is (ap (λ (n : ℕ). n * port.result.perbyte) (sym least_line_is)) c.less.ensures in
    record {
      is = child_apart net good.references c.args.h p.there _ p.is _ _ (child good p _ c.in-Some.is) left;
      most = apart good p _ c.in-Some.is _ _ c.less.ensures;
    }

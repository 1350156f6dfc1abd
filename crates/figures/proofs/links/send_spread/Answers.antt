-- `figures::links::send_spread` meets its contract: no frame takes less than the least on the line.
-- Assumes nothing.
use Prim.Native.Nat.{ℕ, ◌-◌, ◌*◌, ◌≤◌, ◌<◌}
use mathlib.Core.Path.{◌≡◌, refl}
use native.Mathlib.Omega.{arith}
use lib.ListN.{length}
use Rattle.frame.specs.Frame.{largest_line}
use Rattle.network.specs.declared.EndSystem.{EndSystem}
use Rattle.network.specs.declared.Vl.{Vl}
use Rattle.network.specs.Network.{vl_at, system_at}
use Rattle.rows.specs.Links.{send_spread}
use Rattle.sheet.specs.declared.Sheet.{Sheet}
use Rattle.sheet.specs.Sheet.{network_on, Good}
use Rattle.sheet.proofs.GoodLaws.{good_of}
use Rattle.figures.proofs.BoundLaws.{spread_of_vl}
use Rattle.figures.proofs.LinkLaws.{sent_by, least_sent_by}
use Rattle.figures.proofs.RangeLaws.{system_range, vl_system, vl_on_link}
use Rattle.figures.proofs.links.send_spread.Goals as goal

sent : (sheet : Sheet) → Good sheet → (v : ℕ) → v < length (network_on sheet).vls → (vl : Vl) (system : EndSystem) (most : ℕ) → vl ≡ vl_at (network_on sheet) v
    → system ≡ system_at (network_on sheet) vl.system → most ≡ largest_line vl.lmax * system.perbyte
    → let least = 84 * system.perbyte in
    (least ≤ most) × (most - least ≡ send_spread (network_on sheet) v)
sent sheet good v row vl system most is on given =
    let net = network_on sheet in
    let all = sent_by net v vl.system vl system most is refl on given in
    let least = least_sent_by net v vl system is on in
    let parts = spread_of_vl net good.ranges good.references v row in
    (omega (arith, all, least, parts.0), omega (arith, all, least, parts.0))

pub frame_most-requires : goal.frame_most-requires
frame_most-requires c = vl_on_link (good_of c.args.net.good) c.vl-vl.ensures c.requires c.system-perbyte.ensures

pub overflow_mul-result : goal.overflow_mul-result
overflow_mul-result c =
    let good = good_of c.args.net.good in
    omega (arith, system_range good c.system-perbyte.ensures (vl_system good c.vl-vl.ensures c.requires))

pub overflow_sub-result : goal.overflow_sub-result
overflow_sub-result c = (sent _ (good_of c.args.net.good) _ c.requires _ _ _ c.vl-vl.ensures c.system-perbyte.ensures c.frame_most.ensures.is).0

pub returns : goal.returns
returns c =
    let known = sent _ (good_of c.args.net.good) _ c.requires _ _ _ c.vl-vl.ensures c.system-perbyte.ensures c.frame_most.ensures.is in
    record { is = known.1; most = omega (arith, c.frame_most.ensures.most) }

-- `analysis::results::Known::frame_ticks` meets its contract: the most and the least bytes of the VL's frame, by the ticks of a byte on its
-- end system's link. Assumes nothing.
use Prim.Native.Nat.{ℕ, ◌*◌, ◌≤◌}
use mathlib.Core.Path.{◌≡◌, refl, ap}
use native.Mathlib.Nat.{mul-le-mul}
use native.Mathlib.Omega.{arith}
use Rattle.base.specs.Tests.{number_or0}
use Rattle.frame.specs.Frame.{largest_line}
use Rattle.frame.specs.Offered.{largest_line_of}
use Rattle.network.specs.declared.Vl.{Vl}
use Rattle.sheet.proofs.GoodLaws.{good_of}
use Rattle.figures.specs.Computing.{OnLink}
use Rattle.figures.proofs.GivenLaws.{line_is}
use Rattle.figures.proofs.LinkLaws.{sent_by, least_sent_by}
use Rattle.figures.proofs.RangeLaws.{vl_on_link}
use Rattle.analysis.proofs.results.Known.frame_ticks.Goals as goal

most : (vl : Vl) (perbyte bytes : ℕ) → OnLink vl perbyte → bytes ≡ number_or0 (largest_line_of vl.lmax)
    → (bytes ≡ largest_line vl.lmax) × (bytes * perbyte ≤ 15380)
most vl perbyte bytes on e =
    let line = line_is vl.lmax bytes on.vl_range.lmax_least on.vl_range.lmax_greatest e in
    (line.0, mul-le-mul line.2 on.per_byte_greatest)

pub overflow_mul-result : goal.overflow_mul-result
overflow_mul-result c =
    let on = vl_on_link (good_of c.args.self.net.good) c.vl-vl.ensures c.requires c.system-system.ensures in
    omega (arith, most _ _ _ on c.line.ensures)

pub overflow_mul-result-2 : goal.overflow_mul-result-2
overflow_mul-result-2 c =
    let on = vl_on_link (good_of c.args.self.net.good) c.vl-vl.ensures c.requires c.system-system.ensures in
    omega (arith, on)

pub returns : goal.returns
returns c =
    let vl = c.vl-vl.ensures in
    let system = c.system-system in
    let on = vl_on_link (good_of c.args.self.net.good) vl c.requires system.ensures in
    let is = most _ _ _ on c.line.ensures in
    record {
      most_is = sent_by _ _ _ _ _ _ vl refl system.ensures (ap (λ (n : ℕ). n * system.result.perbyte) is.0);
      most_bound = is.1;
      least_is = least_sent_by _ _ _ _ vl system.ensures;
      least_bound = omega (arith, on);
    }

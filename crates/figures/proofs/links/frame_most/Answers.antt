-- `figures::links::frame_most` meets its contract: Lmax is in its range, so the frame rule gives the bytes on the line.
-- Assumes nothing.
use Prim.Native.Nat.{ℕ, ◌*◌, ◌≤◌}
use mathlib.Core.Path.{◌≡◌, ap}
use native.Mathlib.Nat.{mul-le-mul}
use native.Mathlib.Omega.{arith}
use Rattle.base.specs.Tests.{number_or0}
use Rattle.frame.specs.Frame.{largest_line}
use Rattle.frame.specs.Offered.{largest_line_of}
use Rattle.network.specs.declared.Vl.{Vl}
use Rattle.figures.specs.Computing.{OnLink}
use Rattle.figures.proofs.GivenLaws.{line_is}
use Rattle.figures.proofs.links.frame_most.Goals as goal

most : (vl : Vl) (perbyte bytes : ℕ) → OnLink vl perbyte → bytes ≡ number_or0 (largest_line_of vl.lmax)
    → (bytes ≡ largest_line vl.lmax) × (bytes * perbyte ≤ 15380)
most vl perbyte bytes on e =
    let known = line_is vl.lmax bytes on.vl_range.lmax_least on.vl_range.lmax_greatest e in
    (known.0, mul-le-mul known.2 on.per_byte_greatest)

pub overflow_mul-result : goal.overflow_mul-result
overflow_mul-result c = omega (arith, most _ _ _ c.requires c.line.ensures)

pub returns : goal.returns
returns c =
    let known = most _ _ _ c.requires c.line.ensures in
    record { is = ap (λ (n : ℕ). n * c.args.perbyte) known.0; most = known.1 }

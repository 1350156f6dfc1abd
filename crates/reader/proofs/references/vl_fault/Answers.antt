-- `reader::references::vl_fault` meets its contract: the comparison and the search decide one test each.
-- Assumes nothing.
use mathlib.Core.Path.{sym, ◌∙◌}
use native.Mathlib.Omega.{arith}
use Rattle.sheet.specs.Sheet.{network_on}
use Rattle.reader.proofs.ReferringLaws.{vl_no_system, vl_no_hop, vl_good}
use Rattle.reader.proofs.references.vl_fault.Goals as goal

pub returns-then-systems-vl : goal.returns-then-systems-vl
returns-then-systems-vl c = let a = c.args in vl_no_system (network_on a.net.now) a.v _ c.vl.ensures (omega arith)

pub returns-then-not-has_hop : goal.returns-then-not-has_hop
returns-then-not-has_hop c =
    let a = c.args in vl_no_hop (network_on a.net.now) a.v _ c.vl.ensures (omega arith) (sym c.if-not-has_hop.true ∙ c.has_hop.ensures)

pub returns-else-not-has_hop : goal.returns-else-not-has_hop
returns-else-not-has_hop c =
    let a = c.args in vl_good (network_on a.net.now) a.v _ c.vl.ensures (omega arith) (sym c.if-not-has_hop.false ∙ c.has_hop.ensures)

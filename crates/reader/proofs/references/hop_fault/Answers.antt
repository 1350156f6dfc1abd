-- `reader::references::hop_fault` meets its contract: the tests in order, and each fault is the first that fails.
-- Assumes nothing.
use mathlib.Core.Path.{sym, ◌∙◌}
use native.Mathlib.Omega.{arith}
use Rattle.sheet.specs.Sheet.{network_on}
use Rattle.reader.proofs.HopLaws.{hop_no_vl, hop_no_port, hop_bad_parent, hop_twin, hop_deep, hop_good}
use Rattle.reader.proofs.references.hop_fault.Goals as goal

pub returns-then-vls-hop : goal.returns-then-vls-hop
returns-then-vls-hop c = let a = c.args in hop_no_vl (network_on a.net.now) a.h _ c.hop-hop.ensures (omega arith)

pub returns-then-ports-hop : goal.returns-then-ports-hop
returns-then-ports-hop c = let a = c.args in hop_no_port (network_on a.net.now) a.h _ c.hop-hop.ensures (omega arith) (omega arith)

pub returns-in-Some : goal.returns-in-Some
returns-in-Some c =
    let a = c.args in
    hop_bad_parent (network_on a.net.now) a.h _ c.hop-hop.ensures (omega arith) (omega arith) c.in-Some.test (sym c.in-Some.is ∙ c.parent_fault.ensures)

pub returns-then-not-no_earlier_twin : goal.returns-then-not-no_earlier_twin
returns-then-not-no_earlier_twin c =
    let a = c.args in
    hop_twin (network_on a.net.now) a.h _ c.hop-hop.ensures (omega arith) (omega arith) (sym c.in_default.is ∙ c.parent_fault.ensures)
    (sym c.if-not-no_earlier_twin.true ∙ c.no_earlier_twin.ensures)

pub returns-then-not-not_too_deep : goal.returns-then-not-not_too_deep
returns-then-not-not_too_deep c =
    let a = c.args in
    hop_deep (network_on a.net.now) a.h _ c.hop-hop.ensures (omega arith) (omega arith) (sym c.in_default.is ∙ c.parent_fault.ensures)
    (sym c.if-not-no_earlier_twin.false ∙ c.no_earlier_twin.ensures) (sym c.if-not-not_too_deep.true ∙ c.not_too_deep.ensures)

pub returns-else-not-not_too_deep : goal.returns-else-not-not_too_deep
returns-else-not-not_too_deep c =
    let a = c.args in
    hop_good (network_on a.net.now) a.h _ c.hop-hop.ensures (omega arith) (omega arith) (sym c.in_default.is ∙ c.parent_fault.ensures)
    (sym c.if-not-no_earlier_twin.false ∙ c.no_earlier_twin.ensures) (sym c.if-not-not_too_deep.false ∙ c.not_too_deep.ensures)

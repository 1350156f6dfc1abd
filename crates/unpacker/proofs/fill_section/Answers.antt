-- `unpacker::fill_section` meets its contract: as many records as there are and as the list has room for.
-- Assumes nothing.
use mathlib.Core.Logic.{inl, inr}
use native.Mathlib.Omega.{arith}
use lib.ListN.{length}
use Rattle.unpacker.proofs.ListLaws.{fitting_within, nothing_fits}
use Rattle.unpacker.proofs.fill_section.Goals.{in_default-via-then-section-lt1, in_default-via-else-section-lt1+else-section-lt6}
use Rattle.unpacker.proofs.fill_section.Goals as goal

pub returns-in-1-to-5 : goal.returns-in-1-to-5
returns-in-1-to-5 c =
    let a = c.args in
    let all = fitting_within a.table.now a.section (length a.out.now) (omega arith) (omega arith) in
    rw (c.of.ensures, all) at c.fill_section.ensures

pub returns-in_default : goal.returns-in_default
returns-in_default c =
    let a = c.args in
    elim c.in_default.branch [
      | in_default-via-then-section-lt1 w ↦ nothing_fits a.table.now a.section (length a.out.now) _ (inl (omega arith)) c.clear.ensures
      | in_default-via-else-section-lt1+else-section-lt6 w ↦ nothing_fits a.table.now a.section (length a.out.now) _ (inr (omega arith)) c.clear.ensures
    ]

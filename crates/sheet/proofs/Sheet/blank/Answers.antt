-- `Sheet::blank` meets its contract: each list is zeros, as many as the code has room for.
-- Assumes nothing.
use mathlib.Core.Path.{refl}
use Rattle.sheet.proofs.BlankLaws.{blank_is}
use Rattle.sheet.proofs.Sheet.blank.Goals as goal

pub returns : goal.returns
returns c = blank_is (record { header_is = refl; systems_are = refl; vls_are = refl; streams_are = refl; ports_are = refl; hops_are = refl })

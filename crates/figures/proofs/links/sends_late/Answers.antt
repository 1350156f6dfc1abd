-- `figures::links::sends_late` meets its contract: the sum of all frames of the end system is tested.
-- Assumes nothing.
use Rattle.sheet.proofs.SheetLaws.{rules_on}
use Rattle.figures.proofs.LinkLaws.{late_is}
use Rattle.figures.proofs.links.sends_late.Goals as goal

pub returns : goal.returns
returns c = late_is _ (rules_on _) c.args.e _ _ c.sum_without.ensures c.sends_in_time.ensures

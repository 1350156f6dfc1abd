-- `Flows::figure` meets its contract: the station takes the flows, so that it is never out of range.
-- Assumes nothing.
use Rattle.figures.proofs.FoundLaws.{figure_served, figure_refused}
use Rattle.figures.proofs.flows.Flows.figure.Goals as goal

pub returns-in-Ok : goal.returns-in-Ok
returns-in-Ok c = figure_served _ c.requires c.in-Ok.busy (rw c.self.view_is at c.in-Ok.ensures.says)

pub returns-in-Err : goal.returns-in-Err
returns-in-Err c = figure_refused _ c.requires c.in-Err.field-0 (rw c.self.view_is at c.in-Err.ensures.says)

-- `text::Text::put_rest` meets its contract: in each turn one number more is put, behind a space.
-- Assumes nothing.
use Rattle.std.proofs.Common.{take}
use Rattle.text.specs.Text.{spaced_from}
use Rattle.text.specs.Gains.{Gains}
use Rattle.text.proofs.Text.put_rest.Given as goal

abbrev pub invariant-loop-n : goal.invariant-loop-n
invariant-loop-n l = Gains l.initial.self (spaced_from (take l.n-index l.numbers)) l.self

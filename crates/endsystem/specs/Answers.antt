-- 01: "An answer carries number, section and row", and the values that a routine hands out with it: what an exported struct says.
-- Assumes nothing.
use Rattle.std.specs.Prelude.{[], ◌∷◌}
use Rattle.base.specs.Said.{Said}
use Rattle.endsystem.specs.declared.RuleAnswer.{RuleAnswer}
use Rattle.endsystem.specs.declared.StationAnswer.{StationAnswer}

unfoldable pub rule_said : RuleAnswer → Said
rule_said r = record { number = r.number; section = r.section; row = r.row; values = r.value ∷ [] }

unfoldable pub station_said : StationAnswer → Said
station_said r = record { number = r.number; section = r.section; row = r.row; values = r.length ∷ r.figure ∷ [] }

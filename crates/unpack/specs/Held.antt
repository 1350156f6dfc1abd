-- Six lists that hold a header and so many records.
-- Assumes nothing.
use Rattle.std.specs.Prelude.{◌*◌, ◌≤◌, ◌<◌, length}
use Rattle.layout.specs.Rows.{listed}
use Rattle.table.specs.declared.Counts.{Counts}
use Rattle.table.specs.Lists.{Lists}

pub record Held (n : Counts) (ls : Lists) : Type 0 where
  pub header : 0 < length ls.header
  pub systems : n.systems * listed 1 ≤ length ls.systems
  pub vls : n.vls * listed 2 ≤ length ls.vls
  pub streams : n.streams * listed 3 ≤ length ls.streams
  pub ports : n.ports * listed 4 ≤ length ls.ports
  pub hops : n.hops * listed 5 ≤ length ls.hops

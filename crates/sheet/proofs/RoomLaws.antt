-- How many numbers the code has room for in each list of a sheet: as many as the most records of a section have.
-- Assumes nothing.
use Prim.Native.Nat.{◌*◌}
use mathlib.Core.Path.{◌≡◌}
use Rattle.layout.specs.Fields.{is_padding}
use Rattle.layout.specs.Layout.{layout_in, kinds_of, kind_of}
use Rattle.layout.specs.Limits.{limits, most_in}
use Rattle.layout.specs.Rows.{listed_in, listed}
use Rattle.layout.specs.Sizes.{capacity}

pub record Rooms : Type 0 where
  pub systems : capacity 1 ≡ limits.systems
  pub vls : capacity 2 ≡ limits.vls * 4
  pub streams : capacity 3 ≡ limits.streams * 7
  pub ports : capacity 4 ≡ limits.ports * 3
  pub hops : capacity 5 ≡ limits.hops * 3

pub rooms_are : Rooms
unfolding capacity most_in listed listed_in is_padding kind_of kinds_of layout_in
rooms_are = search

-- This crate's part of a program: a look-up that holds this crate's table, and links the crates below, has the code of each function here that
-- another crate calls, and of all that it calls (`order/proofs/There`). `the_link` is what Rattle makes of each crate. Assumes nothing.
use mathlib.Core.Bool.{true}
use prog.Linked.{Tree, World, in_world, Holds}
use prog.LinkedThreads.{HasT}
use Rattle.search.proofs.Wiring as search
use Rattle.station.proofs.station.Symbol.{code as station_code}
use Rattle.station.proofs.flat.station_in.Symbol.{code as station_in_code}
use Rattle.station.proofs.TheLink as the_link

-- each function's code under its symbol
abbrev pub table : Tree
table = the_link.table

-- what the look-up has, each under its function's name
pub record Wiring (W : World) : Type 0 where
  pub station : HasT (in_world W) true station_code
  pub station_in : HasT (in_world W) true station_in_code

pub wiring : (W : World) → Holds W "station" table → search.Wiring W → Wiring W
wiring W held in_search =
    let below : the_link.Below W = assumption in
    record {
      station = the_link.linked-station::station W held below;
      station_in = the_link.linked-station::flat::station_in W held below;
    }

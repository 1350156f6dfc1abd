-- This crate's part of a program: a look-up that holds this crate's table, and links the crates below, has the code of each function here that
-- another crate calls, and of all that it calls (`order/proofs/There`). `the_link` is what Rattle makes of each crate. Assumes nothing.
use mathlib.Core.Bool.{true}
use prog.Linked.{Tree, World, in_world, Holds}
use prog.LinkedThreads.{HasT}
use Rattle.frame.proofs.Wiring as frame
use Rattle.sheet.proofs.Wiring as sheet
use Rattle.unpacker.proofs.Wiring as unpacker
use Rattle.reader.proofs.reading.check.Symbol.{code as check_code}
use Rattle.reader.proofs.reading.read.Symbol.{code as read_code}
use Rattle.reader.proofs.TheLink as the_link

-- each function's code under its symbol
abbrev pub table : Tree
table = the_link.table

-- what the look-up has, each under its function's name
pub record Wiring (W : World) : Type 0 where
  pub check : HasT (in_world W) true check_code
  pub read : HasT (in_world W) true read_code

pub wiring : (W : World) → Holds W "reader" table → frame.Wiring W → sheet.Wiring W → unpacker.Wiring W → Wiring W
wiring W held in_frame in_sheet in_unpacker =
    let below : the_link.Below W = assumption in
    record {
      check = the_link.linked-reader::reading::check W held below;
      read = the_link.linked-reader::reading::read W held below;
    }

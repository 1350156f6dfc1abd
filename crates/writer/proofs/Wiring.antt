-- This crate's part of a program: a look-up that holds this crate's table, and links the crates below, has the code of each function here that
-- another crate calls, and of all that it calls (`order/proofs/There`). `the_link` is what Rattle makes of each crate. Assumes nothing.
use mathlib.Core.Bool.{true}
use prog.Linked.{Tree, World, in_world, Holds}
use prog.LinkedThreads.{HasT}
use Rattle.layout.proofs.Wiring as layout
use Rattle.writer.proofs.write.Symbol.{code as write_code}
use Rattle.writer.proofs.TheLink as the_link

-- each function's code under its symbol
abbrev pub table : Tree
table = the_link.table

-- what the look-up has, each under its function's name
pub record Wiring (W : World) : Type 0 where
  pub write : HasT (in_world W) true write_code

pub wiring : (W : World) → Holds W "writer" table → layout.Wiring W → Wiring W
wiring W held in_layout =
    let below : the_link.Below W = assumption in
    record {
      write = the_link.linked-writer::write W held below;
    }

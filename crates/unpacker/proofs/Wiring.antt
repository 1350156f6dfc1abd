-- This crate's part of a program: a look-up that holds this crate's table, and links the crates below, has the code of each function here that
-- another crate calls, and of all that it calls (`order/proofs/There`). `the_link` is what Rattle makes of each crate. Assumes nothing.
use mathlib.Core.Bool.{true}
use prog.Linked.{Tree, World, in_world, Holds}
use prog.LinkedThreads.{HasT}
use Rattle.layout.proofs.Wiring as layout
use Rattle.unpacker.proofs.clear.Symbol.{code as clear_code}
use Rattle.unpacker.proofs.counts.Symbol.{code as counts_code}
use Rattle.unpacker.proofs.counts_of.Symbol.{code as counts_of_code}
use Rattle.unpacker.proofs.fill_section.Symbol.{code as fill_section_code}
use Rattle.unpacker.proofs.header_list.Symbol.{code as header_list_code}
use Rattle.unpacker.proofs.own_answer.Symbol.{code as own_answer_code}
use Rattle.unpacker.proofs.unpack.Symbol.{code as unpack_code}
use Rattle.unpacker.proofs.TheLink as the_link

-- each function's code under its symbol
abbrev pub table : Tree
table = the_link.table

-- what the look-up has, each under its function's name
pub record Wiring (W : World) : Type 0 where
  pub clear : HasT (in_world W) true clear_code
  pub counts : HasT (in_world W) true counts_code
  pub counts_of : HasT (in_world W) true counts_of_code
  pub fill_section : HasT (in_world W) true fill_section_code
  pub header_list : HasT (in_world W) true header_list_code
  pub own_answer : HasT (in_world W) true own_answer_code
  pub unpack : HasT (in_world W) true unpack_code

pub wiring : (W : World) → Holds W "unpacker" table → layout.Wiring W → Wiring W
wiring W held in_layout =
    let below : the_link.Below W = assumption in
    record {
      clear = the_link.linked-unpacker::clear W held below;
      counts = the_link.linked-unpacker::counts W held below;
      counts_of = the_link.linked-unpacker::counts_of W held below;
      fill_section = the_link.linked-unpacker::fill_section W held below;
      header_list = the_link.linked-unpacker::header_list W held below;
      own_answer = the_link.linked-unpacker::own_answer W held below;
      unpack = the_link.linked-unpacker::unpack W held below;
    }

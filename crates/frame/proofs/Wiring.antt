-- This crate's part of a program: a look-up that holds this crate's table, and links the crates below, has the code of each function here that
-- another crate calls, and of all that it calls (`order/proofs/There`). `the_link` is what Rattle makes of each crate. Assumes nothing.
use mathlib.Core.Bool.{true}
use prog.Linked.{Tree, World, in_world, Holds}
use prog.LinkedThreads.{HasT}
use Rattle.frame.proofs.code_of.Symbol.{code as code_of_code}
use Rattle.frame.proofs.largest_line.Symbol.{code as largest_line_code}
use Rattle.frame.proofs.ms_of.Symbol.{code as ms_of_code}
use Rattle.frame.proofs.packets_of.Symbol.{code as packets_of_code}
use Rattle.frame.proofs.Tick.per_byte.Symbol.{code as tick_per_byte_code}
use Rattle.frame.proofs.Tick.sends_in_time.Symbol.{code as tick_sends_in_time_code}
use Rattle.frame.proofs.TheLink as the_link

-- each function's code under its symbol
abbrev pub table : Tree
table = the_link.table

-- what the look-up has, each under its function's name
pub record Wiring (W : World) : Type 0 where
  pub code_of : HasT (in_world W) true code_of_code
  pub largest_line : HasT (in_world W) true largest_line_code
  pub ms_of : HasT (in_world W) true ms_of_code
  pub packets_of : HasT (in_world W) true packets_of_code
  pub tick_per_byte : HasT (in_world W) true tick_per_byte_code
  pub tick_sends_in_time : HasT (in_world W) true tick_sends_in_time_code

pub wiring : (W : World) → Holds W "frame" table → Wiring W
wiring W held =
    record {
      code_of = the_link.linked-frame::code_of W held tt;
      largest_line = the_link.linked-frame::largest_line W held tt;
      ms_of = the_link.linked-frame::ms_of W held tt;
      packets_of = the_link.linked-frame::packets_of W held tt;
      tick_per_byte = the_link.linked-frame::Tick::per_byte W held tt;
      tick_sends_in_time = the_link.linked-frame::Tick::sends_in_time W held tt;
    }

-- This crate's part of a program: a look-up that holds this crate's table, and links the crates below, has the code of each function here that
-- another crate calls, and of all that it calls (`order/proofs/There`). `the_link` is what Rattle makes of each crate. Assumes nothing.
use mathlib.Core.Bool.{true}
use prog.Linked.{Tree, World, in_world, Holds}
use prog.LinkedThreads.{HasT}
use Rattle.frame.proofs.Wiring as frame
use Rattle.sheet.proofs.accepted.Accepted.new.Symbol.{code as new_code}
use Rattle.sheet.proofs.Sheet.blank.Symbol.{code as blank_code}
use Rattle.sheet.proofs.Sheet.clear.Symbol.{code as clear_code}
use Rattle.sheet.proofs.Sheet.delays.Symbol.{code as delays_code}
use Rattle.sheet.proofs.Sheet.hop.Symbol.{code as hop_code}
use Rattle.sheet.proofs.Sheet.hop_row.Symbol.{code as hop_row_code}
use Rattle.sheet.proofs.Sheet.hops.Symbol.{code as hops_code}
use Rattle.sheet.proofs.Sheet.leaves.Symbol.{code as leaves_code}
use Rattle.sheet.proofs.Sheet.port.Symbol.{code as port_code}
use Rattle.sheet.proofs.Sheet.ports.Symbol.{code as ports_code}
use Rattle.sheet.proofs.Sheet.stream.Symbol.{code as stream_code}
use Rattle.sheet.proofs.Sheet.stream_row.Symbol.{code as stream_row_code}
use Rattle.sheet.proofs.Sheet.streams.Symbol.{code as streams_code}
use Rattle.sheet.proofs.Sheet.system.Symbol.{code as system_code}
use Rattle.sheet.proofs.Sheet.systems.Symbol.{code as systems_code}
use Rattle.sheet.proofs.Sheet.vl.Symbol.{code as vl_code}
use Rattle.sheet.proofs.Sheet.vls.Symbol.{code as vls_code}
use Rattle.sheet.proofs.TheLink as the_link

-- each function's code under its symbol
abbrev pub table : Tree
table = the_link.table

-- what the look-up has, each under its function's name
pub record Wiring (W : World) : Type 0 where
  pub new : HasT (in_world W) true new_code
  pub blank : HasT (in_world W) true blank_code
  pub clear : HasT (in_world W) true clear_code
  pub delays : HasT (in_world W) true delays_code
  pub hop : HasT (in_world W) true hop_code
  pub hop_row : HasT (in_world W) true hop_row_code
  pub hops : HasT (in_world W) true hops_code
  pub leaves : HasT (in_world W) true leaves_code
  pub port : HasT (in_world W) true port_code
  pub ports : HasT (in_world W) true ports_code
  pub stream : HasT (in_world W) true stream_code
  pub stream_row : HasT (in_world W) true stream_row_code
  pub streams : HasT (in_world W) true streams_code
  pub system : HasT (in_world W) true system_code
  pub systems : HasT (in_world W) true systems_code
  pub vl : HasT (in_world W) true vl_code
  pub vls : HasT (in_world W) true vls_code

pub wiring : (W : World) → Holds W "sheet" table → frame.Wiring W → Wiring W
wiring W held in_frame =
    let below : the_link.Below W = assumption in
    record {
      new = the_link.linked-sheet::accepted::Accepted::new W held below;
      blank = the_link.linked-sheet::Sheet::blank W held below;
      clear = the_link.linked-sheet::Sheet::clear W held below;
      delays = the_link.linked-sheet::Sheet::delays W held below;
      hop = the_link.linked-sheet::Sheet::hop W held below;
      hop_row = the_link.linked-sheet::Sheet::hop_row W held below;
      hops = the_link.linked-sheet::Sheet::hops W held below;
      leaves = the_link.linked-sheet::Sheet::leaves W held below;
      port = the_link.linked-sheet::Sheet::port W held below;
      ports = the_link.linked-sheet::Sheet::ports W held below;
      stream = the_link.linked-sheet::Sheet::stream W held below;
      stream_row = the_link.linked-sheet::Sheet::stream_row W held below;
      streams = the_link.linked-sheet::Sheet::streams W held below;
      system = the_link.linked-sheet::Sheet::system W held below;
      systems = the_link.linked-sheet::Sheet::systems W held below;
      vl = the_link.linked-sheet::Sheet::vl W held below;
      vls = the_link.linked-sheet::Sheet::vls W held below;
    }

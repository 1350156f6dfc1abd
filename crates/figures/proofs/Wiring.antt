-- This crate's part of a program: a look-up that holds this crate's table, and links the crates below, has the code of each function here that
-- another crate calls, and of all that it calls (`order/proofs/There`). `the_link` is what Rattle makes of each crate. Assumes nothing.
use mathlib.Core.Bool.{true}
use prog.Linked.{Tree, World, in_world, Holds}
use prog.LinkedThreads.{HasT}
use Rattle.frame.proofs.Wiring as frame
use Rattle.reader.proofs.Wiring as reader
use Rattle.search.proofs.Wiring as search
use Rattle.sheet.proofs.Wiring as sheet
use Rattle.station.proofs.Wiring as station
use Rattle.unpacker.proofs.Wiring as unpacker
use Rattle.figures.proofs.judging.figures.Symbol.{code as figures_code}
use Rattle.figures.proofs.found.Figures.blank.Symbol.{code as blank_code}
use Rattle.figures.proofs.found.Figures.clear.Symbol.{code as clear_code}
use Rattle.figures.proofs.frames.line.Symbol.{code as line_code}
use Rattle.figures.proofs.frames.packets.Symbol.{code as packets_code}
use Rattle.figures.proofs.TheLink as the_link

-- each function's code under its symbol
abbrev pub table : Tree
table = the_link.table

-- what the look-up has, each under its function's name
pub record Wiring (W : World) : Type 0 where
  pub blank : HasT (in_world W) true blank_code
  pub clear : HasT (in_world W) true clear_code
  pub figures : HasT (in_world W) true figures_code
  pub line : HasT (in_world W) true line_code
  pub packets : HasT (in_world W) true packets_code

pub wiring : (W : World) → Holds W "figures" table → frame.Wiring W → reader.Wiring W → search.Wiring W → sheet.Wiring W → station.Wiring W → unpacker.Wiring W → Wiring W
wiring W held in_frame in_reader in_search in_sheet in_station in_unpacker =
    let below : the_link.Below W = assumption in
    record {
      blank = the_link.linked-figures::found::Figures::blank W held below;
      clear = the_link.linked-figures::found::Figures::clear W held below;
      figures = the_link.linked-figures::judging::figures W held below;
      line = the_link.linked-figures::frames::line W held below;
      packets = the_link.linked-figures::frames::packets W held below;
    }

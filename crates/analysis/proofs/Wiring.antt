-- This crate's part of a program: a look-up that holds this crate's table, and links the crates below, has the code of each function here that
-- another crate calls, and of all that it calls (`order/proofs/There`). `the_link` is what Rattle makes of each crate. Assumes nothing.
use mathlib.Core.Bool.{true}
use prog.Linked.{Tree, World, in_world, Holds}
use prog.LinkedThreads.{HasT}
use Rattle.figures.proofs.Wiring as figures
use Rattle.search.proofs.Wiring as search
use Rattle.sheet.proofs.Wiring as sheet
use Rattle.unpacker.proofs.Wiring as unpacker
use Rattle.analysis.proofs.analysing.analyse.Symbol.{code as analyse_code}
use Rattle.analysis.proofs.TheLink as the_link

-- each function's code under its symbol
abbrev pub table : Tree
table = the_link.table

-- what the look-up has, each under its function's name
pub record Wiring (W : World) : Type 0 where
  pub analyse : HasT (in_world W) true analyse_code

pub wiring : (W : World) → Holds W "analysis" table → figures.Wiring W → search.Wiring W → sheet.Wiring W → unpacker.Wiring W → Wiring W
wiring W held in_figures in_search in_sheet in_unpacker =
    let below : the_link.Below W = assumption in
    record {
      analyse = the_link.linked-analysis::analysing::analyse W held below;
    }

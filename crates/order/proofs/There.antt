-- A program with all four routines: a look-up that holds the table of each crate below them, and the environment that follows it. Each crate's
-- proofs/Wiring says what such a look-up has of it where it links the crates below, so they are taken from the lowest up. Assumes nothing.
use mathlib.Core.Bool.{true}
use mathlib.Core.List.{[], ◌∷◌}
use mathlib.Core.Path.{refl}
use lib.Chars.{codes}
use seplogic.Ra.Ura.{Ura}
use prog.Model.{Model}
use prog.Routine.{Env}
use prog.Wired.{Code, Wired}
use prog.Linked.{World, Entry, in_world}
use prog.LinkedThreads.{HasT, has-wired_t, tie_t, tie_t-follows, tie_t-threads}
use mir.Syntax.{Symbol}
use types.Logic.{Logic}
use contract.Running.{Running, within}
use Rattle.analysis.proofs.analyse.Symbol.{code as analyse_code}
use Rattle.reader.proofs.check.Symbol.{code as check_code}
use Rattle.unpacker.proofs.unpack.Symbol.{code as unpack_code}
use Rattle.writer.proofs.write.Symbol.{code as write_code}
use Rattle.order.specs.There.{Keeps, There}
use Rattle.order.proofs.Kept.{kept}
use Rattle.bits.proofs.Wiring as bits
use Rattle.frame.proofs.Wiring as frame
use Rattle.layout.proofs.Wiring as layout
use Rattle.search.proofs.Wiring as search
use Rattle.station.proofs.Wiring as station
use Rattle.sheet.proofs.Wiring as sheet
use Rattle.unpacker.proofs.Wiring as unpacker
use Rattle.reader.proofs.Wiring as reader
use Rattle.figures.proofs.Wiring as figures
use Rattle.analysis.proofs.Wiring as analysis
use Rattle.writer.proofs.Wiring as writer

-- ---- the look-up
world : World
world =
    (codes "bits", bits.table) ∷
    (codes "frame", frame.table) ∷
    (codes "layout", layout.table) ∷
    (codes "search", search.table) ∷
    (codes "station", station.table) ∷
    (codes "sheet", sheet.table) ∷
    (codes "unpacker", unpacker.table) ∷
    (codes "reader", reader.table) ∷
    (codes "figures", figures.table) ∷
    (codes "analysis", analysis.table) ∷
    (codes "writer", writer.table) ∷
    []

in_bits : bits.Wiring world
unfolding world
in_bits = bits.wiring world refl

in_frame : frame.Wiring world
unfolding world
in_frame = frame.wiring world refl

in_layout : layout.Wiring world
unfolding world
in_layout = layout.wiring world refl in_bits in_frame

in_search : search.Wiring world
unfolding world
in_search = search.wiring world refl

in_station : station.Wiring world
unfolding world
in_station = station.wiring world refl in_search

in_sheet : sheet.Wiring world
unfolding world
in_sheet = sheet.wiring world refl in_frame

in_unpacker : unpacker.Wiring world
unfolding world
in_unpacker = unpacker.wiring world refl in_layout

in_reader : reader.Wiring world
unfolding world
in_reader = reader.wiring world refl in_frame in_sheet in_unpacker

in_figures : figures.Wiring world
unfolding world
in_figures = figures.wiring world refl in_frame in_reader in_search in_sheet in_station in_unpacker

in_analysis : analysis.Wiring world
unfolding world
in_analysis = analysis.wiring world refl in_figures in_search in_sheet in_unpacker

in_writer : writer.Wiring world
unfolding world
in_writer = writer.wiring world refl in_layout

-- ---- the program
abbrev look : Symbol → Entry
look = in_world world

pub program : Env
program = tie_t look

wired : (c : Code) → HasT look true c → Wired program c
unfolding program
wired = has-wired_t look (tie_t look) (tie_t-follows look) (tie_t-threads look)

analyse_wired : Wired program analyse_code
analyse_wired = wired analyse_code in_analysis.analyse

check_wired : Wired program check_code
check_wired = wired check_code in_reader.check

unpack_wired : Wired program unpack_code
unpack_wired = wired unpack_code in_unpacker.unpack

write_wired : Wired program write_code
write_wired = wired write_code in_writer.write

keeps : {M : Type 1} {𝓤 : Ura M} (𝓛 : Logic 𝓤) (𝓜 : Model 𝓤 𝓛.H) (𝓡 : Running 𝓤 𝓛.H 𝓜) → Keeps program 𝓛 𝓜 𝓡
keeps {𝓤 = 𝓤} 𝓛 𝓜 𝓡 =
    let there = kept 𝓛 𝓜 (within 𝓤 𝓛.H 𝓜 𝓡 program) in
    record {
      analyse_ends = there.analyse_meets analyse_wired;
      check_ends = there.check_meets check_wired;
      unpack_ends = there.unpack_meets unpack_wired;
      write_ends = there.write_meets write_wired;
    }

pub there : There
there = record {
  program = program;
  analyse_is_there = analyse_wired;
  check_is_there = check_wired;
  unpack_is_there = unpack_wired;
  write_is_there = write_wired;
  keeps = keeps;
}

-- This crate's part of a program: a look-up that holds this crate's table, and links the crates below, has the code of each function here that
-- another crate calls, and of all that it calls (`order/proofs/There`). `the_link` is what Rattle makes of each crate. Assumes nothing.
use mathlib.Core.Bool.{true}
use prog.Linked.{Tree, World, in_world, Holds}
use prog.LinkedThreads.{HasT}
use Rattle.search.proofs.compare.less.Symbol.{code as less_code}
use Rattle.search.proofs.pass.Tally.empty.Symbol.{code as empty_code}
use Rattle.search.proofs.pass.Tally.add.Symbol.{code as add_code}
use Rattle.search.proofs.turns.Search.begin.Symbol.{code as begin_code}
use Rattle.search.proofs.turns.Search.span.Symbol.{code as span_code}
use Rattle.search.proofs.turns.Search.turn.Symbol.{code as turn_code}
use Rattle.search.proofs.TheLink as the_link

-- each function's code under its symbol
abbrev pub table : Tree
table = the_link.table

-- what the look-up has, each under its function's name
pub record Wiring (W : World) : Type 0 where
  pub less : HasT (in_world W) true less_code
  pub empty : HasT (in_world W) true empty_code
  pub add : HasT (in_world W) true add_code
  pub begin : HasT (in_world W) true begin_code
  pub span : HasT (in_world W) true span_code
  pub turn : HasT (in_world W) true turn_code

pub wiring : (W : World) → Holds W "search" table → Wiring W
wiring W held =
    record {
      less = the_link.linked-search::compare::less W held tt;
      empty = the_link.linked-search::pass::Tally::empty W held tt;
      add = the_link.linked-search::pass::Tally::add W held tt;
      begin = the_link.linked-search::turns::Search::begin W held tt;
      span = the_link.linked-search::turns::Search::span W held tt;
      turn = the_link.linked-search::turns::Search::turn W held tt;
    }

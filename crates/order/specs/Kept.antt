-- The code behind the demands. Each public routine that they speak of keeps its contract: every call ends and leaves what the routine's own
-- clauses ensure; they ask nothing of the caller; and what they ensure of a call is the promise that the demands take up, no less, no more.
-- The routines are in crates/analysis/src/analysing.rt, crates/reader/src/reading.rt, crates/unpacker/src/lib.rt and
-- crates/writer/src/lib.rt; `a` are the arguments of a call, `x` is its result and `ws` what it left in the lent places. A result is a
-- Result: what it says, 01's answer and the numbers handed out with it, is `analysed_by x`, `said x`, `unpacked_by x` and `written_by x`.
-- Assumes nothing.
use Rattle.std.specs.Prelude.{◌↔◌, ◌≡◌, length}
use seplogic.Ra.Ura.{Ura}
use prog.Model.{Model}
use prog.Wired.{Code, Wired}
use mir.Syntax.{Callee}
use types.Logic.{Logic}
use contract.Lifetimes.{Lfts}
use contract.Running.{Running}
use denote.Triple.Clauses.{Ended, Clauses, Lasts, at_exit, closing}
use denote.Triple.Entry.{Args, Res}
use denote.Triple.Spec.{Meets}
use Rattle.table.specs.Lent.{lists_of, lists_before}
use Rattle.table.specs.Lists.{lists}
use Rattle.table.specs.Refusals.{said}
use Rattle.table.specs.Unpack.{unpacked_by, Unpacks}
use Rattle.table.specs.Write.{written_by, Writes}
use Rattle.table.specs.Read.{read_answer}
use Rattle.analysis.specs.Analysis.{analysed_by, Analyses}
use Rattle.analysis.specs.contracts.analyse as analyse
use Rattle.analysis.proofs.analyse.Symbol.{code as analyse_code, name as analyse_name}
use Rattle.reader.specs.contracts.check as check
use Rattle.reader.proofs.check.Symbol.{code as check_code, name as check_name}
use Rattle.unpacker.specs.contracts.unpack as unpack
use Rattle.unpacker.proofs.unpack.Symbol.{code as unpack_code, name as unpack_name}
use Rattle.writer.specs.contracts.write as write
use Rattle.writer.proofs.write.Symbol.{code as write_code, name as write_name}

-- what may be claimed of a call
abbrev pub Claim : Ended → Type 1
Claim T = (κs : Lfts T.signature.lifetimes) (a : Args T.signature κs) → Res T.signature κs → Lasts T κs a → Type 0

-- the analysis: a table, and a lent result
abbrev pub AnalysePromise : Claim analyse.ended
AnalysePromise κs a x ws = Analyses a.0.now (length a.1.0.now) (analysed_by x) ws.1.0

-- the reader: a table
abbrev pub CheckPromise : Claim check.ended
CheckPromise κs a x ws = said x ≡ read_answer a.0.now

-- the unpacker: a table, and six lent lists in one value
abbrev pub UnpackPromise : Claim unpack.ended
UnpackPromise κs a x ws =
    let left = ws.1.0 in
    Unpacks a.0.now (lists_before a.1.0) (unpacked_by x)
    (lists left.0 left.1.0 left.1.1.0 left.1.1.1.0 left.1.1.1.1.0 left.1.1.1.1.1.0)

-- the writer: six lists in one value, and lent bytes
abbrev pub WritePromise : Claim write.ended
WritePromise κs a x ws = Writes (lists_of a.0) (length a.1.0.now) (written_by x) ws.1.0

-- Every call of a routine ends, with what its clauses ensure, in any program that has the routine's code and that of all that it calls
-- (`Meets` and `Wired` are the toolchain's own words; 𝓡.env is what a name means in the program; specs/There shows such a program).
-- 𝓤 to 𝓡 are what its logic is over
abbrev pub EndsWith :
    {M : Type 1} {𝓤 : Ura M} (𝓛 : Logic 𝓤) (𝓜 : Model 𝓤 𝓛.H) → Running 𝓤 𝓛.H 𝓜
    → (T : Ended) → Code → Callee → Clauses 𝓤 T → Type 1
EndsWith 𝓛 𝓜 𝓡 T code name clauses = Wired 𝓡.env code → Meets 𝓛 T.signature (𝓡.run (𝓡.env name)) (closing 𝓛 T clauses)

-- the clauses require nothing of a caller: for any arguments there is a ghost value with which what they require holds of every resource m
abbrev pub AsksNothing : {M : Type 1} (𝓤 : Ura M) (T : Ended) → Clauses 𝓤 T → Type 1
AsksNothing {M} 𝓤 T clauses =
    (κs : Lfts T.signature.lifetimes) (a : Args T.signature κs)
    → (g : (clauses κs a).ghost) × ((m : M) → ((clauses κs a).requires g).holds m)

-- what the clauses ensure of a call, of whatever resource m, is the promise: no less and no more
abbrev pub Ensures : {M : Type 1} (𝓤 : Ura M) (T : Ended) → Clauses 𝓤 T → Claim T → Type 1
Ensures {M} 𝓤 T clauses promise =
    (κs : Lfts T.signature.lifetimes) (a : Args T.signature κs) (g : (clauses κs a).ghost)
    (x : Res T.signature κs) (ws : Lasts T κs a) (m : M)
    → (((clauses κs a).ensures g x (at_exit T κs a ws)).holds m) ↔ promise κs a x ws

-- over whatever the logic is taken
pub record Kept {M : Type 1} {𝓤 : Ura M} (𝓛 : Logic 𝓤) (𝓜 : Model 𝓤 𝓛.H) (𝓡 : Running 𝓤 𝓛.H 𝓜) : Type 1 where
  pub analyse_meets : EndsWith 𝓛 𝓜 𝓡 analyse.ended analyse_code analyse_name (analyse.clauses 𝓛 𝓜.mem 𝓡.returns)
  pub analyse_asks_nothing : AsksNothing 𝓤 analyse.ended (analyse.clauses 𝓛 𝓜.mem 𝓡.returns)
  pub analyse_promises : Ensures 𝓤 analyse.ended (analyse.clauses 𝓛 𝓜.mem 𝓡.returns) AnalysePromise
  pub check_meets : EndsWith 𝓛 𝓜 𝓡 check.ended check_code check_name (check.clauses 𝓛 𝓜.mem 𝓡.returns)
  pub check_asks_nothing : AsksNothing 𝓤 check.ended (check.clauses 𝓛 𝓜.mem 𝓡.returns)
  pub check_promises : Ensures 𝓤 check.ended (check.clauses 𝓛 𝓜.mem 𝓡.returns) CheckPromise
  pub unpack_meets : EndsWith 𝓛 𝓜 𝓡 unpack.ended unpack_code unpack_name (unpack.clauses 𝓛 𝓜.mem 𝓡.returns)
  pub unpack_asks_nothing : AsksNothing 𝓤 unpack.ended (unpack.clauses 𝓛 𝓜.mem 𝓡.returns)
  pub unpack_promises : Ensures 𝓤 unpack.ended (unpack.clauses 𝓛 𝓜.mem 𝓡.returns) UnpackPromise
  pub write_meets : EndsWith 𝓛 𝓜 𝓡 write.ended write_code write_name (write.clauses 𝓛 𝓜.mem 𝓡.returns)
  pub write_asks_nothing : AsksNothing 𝓤 write.ended (write.clauses 𝓛 𝓜.mem 𝓡.returns)
  pub write_promises : Ensures 𝓤 write.ended (write.clauses 𝓛 𝓜.mem 𝓡.returns) WritePromise

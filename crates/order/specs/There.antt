-- The condition of `Kept` can be met. What `Kept` says of a routine it says of any program that is wired for the routine's code; here one
-- program is wired for all four, and in it each routine meets its clauses with no condition. Assumes nothing.
use seplogic.Ra.Ura.{Ura}
use prog.Model.{Model}
use prog.Routine.{Env}
use prog.Wired.{Wired}
use mir.Syntax.{Callee}
use types.Logic.{Logic}
use contract.Running.{Running}
use denote.Triple.Clauses.{Ended, Clauses, closing}
use denote.Triple.Spec.{Meets}
use Rattle.analysis.specs.contracts.analyse as analyse
use Rattle.analysis.proofs.analyse.Symbol.{code as analyse_code, name as analyse_name}
use Rattle.reader.specs.contracts.check as check
use Rattle.reader.proofs.check.Symbol.{code as check_code, name as check_name}
use Rattle.unpacker.specs.contracts.unpack as unpack
use Rattle.unpacker.proofs.unpack.Symbol.{code as unpack_code, name as unpack_name}
use Rattle.writer.specs.contracts.write as write
use Rattle.writer.proofs.write.Symbol.{code as write_code, name as write_name}

-- every call of the routine of that name in the program ends, with what the clauses ensure: `EndsWith` without its condition
abbrev pub Ends :
    {M : Type 1} {𝓤 : Ura M} (𝓛 : Logic 𝓤) (𝓜 : Model 𝓤 𝓛.H) → Running 𝓤 𝓛.H 𝓜 → Env
    → (T : Ended) → Callee → Clauses 𝓤 T → Type 1
Ends 𝓛 𝓜 𝓡 program T name clauses = Meets 𝓛 T.signature (𝓡.run (program name)) (closing 𝓛 T clauses)

-- the program keeps the contracts of all four routines
pub record Keeps (program : Env) {M : Type 1} {𝓤 : Ura M} (𝓛 : Logic 𝓤) (𝓜 : Model 𝓤 𝓛.H) (𝓡 : Running 𝓤 𝓛.H 𝓜) : Type 1 where
  pub analyse_ends : Ends 𝓛 𝓜 𝓡 program analyse.ended analyse_name (analyse.clauses 𝓛 𝓜.mem 𝓡.returns)
  pub check_ends : Ends 𝓛 𝓜 𝓡 program check.ended check_name (check.clauses 𝓛 𝓜.mem 𝓡.returns)
  pub unpack_ends : Ends 𝓛 𝓜 𝓡 program unpack.ended unpack_name (unpack.clauses 𝓛 𝓜.mem 𝓡.returns)
  pub write_ends : Ends 𝓛 𝓜 𝓡 program write.ended write_name (write.clauses 𝓛 𝓜.mem 𝓡.returns)

-- there is a program that has each routine's code and that of all that it calls; and it keeps the contracts, whatever the logic is over
pub record There : Type 2 where
  pub program : Env
  pub analyse_is_there : Wired program analyse_code
  pub check_is_there : Wired program check_code
  pub unpack_is_there : Wired program unpack_code
  pub write_is_there : Wired program write_code
  pub keeps : {M : Type 1} {𝓤 : Ura M} (𝓛 : Logic 𝓤) (𝓜 : Model 𝓤 𝓛.H) (𝓡 : Running 𝓤 𝓛.H 𝓜) → Keeps program 𝓛 𝓜 𝓡

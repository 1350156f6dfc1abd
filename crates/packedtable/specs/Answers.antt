-- The unpacker's and the writer's answers, as the exported structs carry them: 01's number, section and row, the test that failed, and the counts.
-- Assumes nothing.
use Rattle.table.specs.Unpack.{Unpacked}
use Rattle.table.specs.Write.{Written}
use Rattle.table.specs.Answers.{answer}
use Rattle.packedtable.specs.declared.UnpackAnswer.{UnpackAnswer}
use Rattle.packedtable.specs.declared.WriteAnswer.{WriteAnswer}

unfoldable pub unpack_said : UnpackAnswer → Unpacked
unpack_said r = record {
  answer = answer r.number r.section r.row r.test;
  systems = r.systems;
  vls = r.vls;
  streams = r.streams;
  ports = r.ports;
  hops = r.hops;
}

unfoldable pub write_said : WriteAnswer → Written
write_said r = record { answer = answer r.number r.section r.row r.test; length = r.length }

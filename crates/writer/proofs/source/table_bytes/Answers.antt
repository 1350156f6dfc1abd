use Rattle.std.proofs.Common.{◌≡◌, arith, refl, add-one}
use Rattle.table.specs.Sections.{start}
use Rattle.table.specs.Write.{table_size}
use Rattle.writer.proofs.source.table_bytes.Goals as goal

pub loop-section-init : goal.loop-section-init
unfolding start
loop-section-init c = record { is = refl; few = omega arith }

pub loop-section-preserved : goal.loop-section-preserved
unfolding start
loop-section-preserved c = record {
  is = rw add-one (omega (arith, c.loop-section.invariant.is, c.section_bytes-bytes.ensures.is));
  few = omega arith;
}

pub returns : goal.returns
unfolding table_size
returns c = let all : c.loop-section.section ≡ 6 = omega arith in rw all at c.loop-section.invariant.is

use Rattle.std.proofs.Common.{◌≡◌, arith, refl, add-one}
use Rattle.table.specs.Lent.{lists_of}
use Rattle.table.specs.Sections.{start}
use Rattle.writer.proofs.PutLaws.{filled_none, filled_more, filled_all, section_room}
use Rattle.writer.proofs.fill.Goals.{After-put_section}
use Rattle.writer.proofs.fill.Goals as goal

pub loop-section-init : goal.loop-section-init
unfolding start
loop-section-init c = record { here = refl; put = filled_none (lists_of c.args.lists) c.args.out.now }

pub put_section-requires : goal.put_section-requires
put_section-requires c =
    let l = c.loop-section in
    (omega arith, section_room (lists_of c.args.lists) c.args.out.now l.out l.section l.at c.requires l.auto.out (omega arith) l.invariant.here)

pub overflow_add-at : goal.overflow_add-at
overflow_add-at c =
    let l = c.loop-section in
    let room = section_room (lists_of c.args.lists) c.args.out.now l.out l.section l.at c.requires l.auto.out (omega arith) l.invariant.here in
    omega (arith, room.inside, room.short, c.section_bytes-at.ensures.is)

pub loop-section-preserved : goal.loop-section-preserved
unfolding start
loop-section-preserved c =
    let l = c.loop-section in
    record {
      here = rw add-one (omega (arith, l.invariant.here, c.section_bytes-at.ensures.is));
      put = filled_more (lists_of c.args.lists) c.args.out.now l.out _ l.section l.at l.invariant.put l.invariant.here c.put_section.ensures;
    }

pub returns : goal.returns
returns c =
    let all : c.loop-section.section ≡ 6 = omega arith in
    rw (← filled_all (lists_of c.args.lists) c.args.out.now c.requires.clear, ← all) c.loop-section.invariant.put

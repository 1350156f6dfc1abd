-- `figures::ports::Lower::flow` meets its contract: gap and frames of the hop's VL, on its port's link, and by how much its frames are apart behind the switch.
-- Assumes nothing.
use Rattle.sheet.specs.Sheet.{network_on}
use Rattle.sheet.proofs.GoodLaws.{good_of}
use Rattle.figures.proofs.HopLaws.{hop_flow_is}
use Rattle.figures.proofs.RangeLaws.{hop_names, vl_on_port, port_range}
use Rattle.figures.proofs.ports.Lower.flow.Goals as goal

pub spread-requires : goal.spread-requires
spread-requires c = port_range (good_of c.args.self.net.good) c.requires.on c.requires.asked.known.row

pub frame_most-requires : goal.frame_most-requires
frame_most-requires c =
    let p = c.requires.asked in
    let good = good_of c.args.self.net.good in
    vl_on_port good c.vl-vl.ensures (hop_names good p.is p.there).0 c.requires.on p.known.row

pub returns : goal.returns
returns c =
    let p = c.requires.asked in
    let good = good_of c.args.self.net.good in
    hop_flow_is (network_on c.args.self.net.sheet.now) good.references c.args.h p.there _ p.is _ c.requires.on _ c.vl-vl.ensures _ _ _ c.apart.ensures.is c.spread.ensures.is c.frame_most.ensures.is

-- `Sheet::delays` meets its contract: the delays are the numbers of the header's list behind the version, which are units.
-- Assumes nothing.
use mathlib.Core.Path.{sym}
use Rattle.layout.specs.Names.{number_of, index_in}
use Rattle.table.proofs.DecodedLaws.{send_least_lem, send_greatest_lem, receive_least_lem, receive_greatest_lem}
use Rattle.sheet.specs.Sheet.{lists_to, network_on}
use Rattle.sheet.proofs.Sheet.delays.Goals as goal

pub returns : goal.returns
unfolding network_on lists_to index_in number_of
returns c =
    let ls = lists_to _ c.args.self.now in
    λ i. record {
      send_least = sym (send_least_lem ls) i;
      send_greatest = sym (send_greatest_lem ls) i;
      receive_least = sym (receive_least_lem ls) i;
      receive_greatest = sym (receive_greatest_lem ls) i;
    }

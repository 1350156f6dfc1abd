-- The network that lists describe: its delays, how many rows it has of each kind, and each row, as the record in the list that it is.
-- Assumes nothing.
use Prim.Native.Nat.{ℕ, ◌<◌}
use mathlib.Core.Path.{◌≡◌, refl}
use lib.ListN.{length}
use Rattle.base.proofs.TabulateLaws.{length_tabulate, tabulate_at}
use Rattle.frame.specs.Tick.{in_force}
use Rattle.frame.proofs.TickLaws.{per_unit_is}
use Rattle.layout.specs.declared.Name.TheVariants as name
use Rattle.network.specs.Network.{no_system, no_vl, no_stream, no_port, no_hop, system_at, vl_at, stream_at, port_at, hop_at}
use Rattle.table.specs.Lists.{Lists, records_in, record_at, header_at}
use Rattle.table.specs.Decoded.{system_in, vl_in, stream_in, port_in, hop_in, network_at, network_of}

-- ---- the delays, and how many rows there are
module _ (ls : Lists) where
  pub rules_are : (network_of ls).tick ≡ in_force
  unfolding network_at
  rules_are = refl

  pub send_least_lem : (network_of ls).send_least ≡ header_at ls name.SendLeast
  unfolding network_at
  send_least_lem = per_unit_is (header_at ls name.SendLeast)

  pub send_greatest_lem : (network_of ls).send_greatest ≡ header_at ls name.SendGreatest
  unfolding network_at
  send_greatest_lem = per_unit_is (header_at ls name.SendGreatest)

  pub receive_least_lem : (network_of ls).receive_least ≡ header_at ls name.ReceiveLeast
  unfolding network_at
  receive_least_lem = per_unit_is (header_at ls name.ReceiveLeast)

  pub receive_greatest_lem : (network_of ls).receive_greatest ≡ header_at ls name.ReceiveGreatest
  unfolding network_at
  receive_greatest_lem = per_unit_is (header_at ls name.ReceiveGreatest)

  pub systems_are : length (network_of ls).systems ≡ records_in ls 1
  unfolding network_at
  systems_are = length_tabulate _ (records_in ls 1)

  pub vls_are : length (network_of ls).vls ≡ records_in ls 2
  unfolding network_at
  vls_are = length_tabulate _ (records_in ls 2)

  pub streams_are : length (network_of ls).streams ≡ records_in ls 3
  unfolding network_at
  streams_are = length_tabulate _ (records_in ls 3)

  pub ports_are : length (network_of ls).ports ≡ records_in ls 4
  unfolding network_at
  ports_are = length_tabulate _ (records_in ls 4)

  pub hops_are : length (network_of ls).hops ≡ records_in ls 5
  unfolding network_at
  hops_are = length_tabulate _ (records_in ls 5)

-- ---- the record at a row that is there
module _ (ls : Lists) (i : ℕ) where
  pub system_there : i < records_in ls 1 → system_at (network_of ls) i ≡ system_in in_force (record_at ls 1 i)
  unfolding network_at
  system_there = tabulate_at _ (records_in ls 1) i no_system

  pub vl_there : i < records_in ls 2 → vl_at (network_of ls) i ≡ vl_in in_force (record_at ls 2 i)
  unfolding network_at
  vl_there = tabulate_at _ (records_in ls 2) i no_vl

  pub stream_there : i < records_in ls 3 → stream_at (network_of ls) i ≡ stream_in in_force (record_at ls 3 i)
  unfolding network_at
  stream_there = tabulate_at _ (records_in ls 3) i no_stream

  pub port_there : i < records_in ls 4 → port_at (network_of ls) i ≡ port_in in_force (record_at ls 4 i)
  unfolding network_at
  port_there = tabulate_at _ (records_in ls 4) i no_port

  pub hop_there : i < records_in ls 5 → hop_at (network_of ls) i ≡ hop_in (record_at ls 5 i)
  unfolding network_at
  hop_there = tabulate_at _ (records_in ls 5) i no_hop

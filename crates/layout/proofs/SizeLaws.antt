-- The sizes of `layout::sizes` are those that the definitions say by the section: computed once, here, from the limits in force, which stand as numerals in no law.
-- Assumes nothing.
use Prim.Native.Nat.{◌+◌, ◌*◌}
use mathlib.Core.Path.{◌≡◌, refl}
use Rattle.base.specs.Tabulate.{total}
use Rattle.layout.specs.Limits.{limits, most_in, most}
use Rattle.layout.specs.declared.Name.TheVariants as name
use Rattle.layout.specs.Names.{number_of, index_in}
use Rattle.layout.specs.Layout.{layout_in, place_of, header_names, widths, size}
use Rattle.layout.specs.Sizes.{most_bytes}

pub record Most : Type 0 where
  pub systems : most 1 ≡ limits.systems
  pub vls : most 2 ≡ limits.vls
  pub streams : most 3 ≡ limits.streams
  pub ports : most 4 ≡ limits.ports
  pub hops : most 5 ≡ limits.hops

pub most_are : Most
unfolding most_in
most_are = search

-- the longest table
pub longest_table : most_bytes 5 ≡ 14 + limits.systems + limits.vls * 3 + limits.streams * 13 + limits.ports * 4 + limits.hops * 4
unfolding most_bytes most_in size widths layout_in total
longest_table = refl

-- ---- where each field stands: the constants of `layout::places`
pub record FieldPlaces : Type 0 where
  pub version : place_of 0 name.Version ≡ 0
  pub send_least_lem : place_of 0 name.SendLeast ≡ 6
  pub send_greatest_lem : place_of 0 name.SendGreatest ≡ 7
  pub receive_least_lem : place_of 0 name.ReceiveLeast ≡ 8
  pub receive_greatest_lem : place_of 0 name.ReceiveGreatest ≡ 9
  pub system_speed : place_of 1 name.Speed ≡ 0
  pub vl_system : place_of 2 name.EndSystem ≡ 0
  pub vl_gap : place_of 2 name.Gap ≡ 1
  pub vl_sub_links : place_of 2 name.SubLinks ≡ 2
  pub vl_lmax : place_of 2 name.Lmax ≡ 3
  pub stream_vl : place_of 3 name.Vl ≡ 0
  pub stream_sub_link : place_of 3 name.SubLink ≡ 1
  pub stream_kind : place_of 3 name.Kind ≡ 2
  pub stream_size : place_of 3 name.Size ≡ 3
  pub stream_least_size : place_of 3 name.LeastSize ≡ 4
  pub stream_period : place_of 3 name.Period ≡ 5
  pub stream_jitter : place_of 3 name.Jitter ≡ 6
  pub port_speed : place_of 4 name.Speed ≡ 0
  pub port_least : place_of 4 name.SwitchLeast ≡ 1
  pub port_greatest : place_of 4 name.SwitchGreatest ≡ 2
  pub hop_vl : place_of 5 name.Vl ≡ 0
  pub hop_port : place_of 5 name.Port ≡ 1
  pub hop_parent : place_of 5 name.Parent ≡ 2

pub field_places : FieldPlaces
unfolding index_in number_of layout_in
field_places = search

-- the same in the header's list
pub record ListPlaces : Type 0 where
  pub version : index_in header_names name.Version ≡ 0
  pub send_least_lem : index_in header_names name.SendLeast ≡ 1
  pub send_greatest_lem : index_in header_names name.SendGreatest ≡ 2
  pub receive_least_lem : index_in header_names name.ReceiveLeast ≡ 3
  pub receive_greatest_lem : index_in header_names name.ReceiveGreatest ≡ 4

pub list_places : ListPlaces
unfolding index_in number_of
list_places = search

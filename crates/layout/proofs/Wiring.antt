-- This crate's part of a program: a look-up that holds this crate's table, and links the crates below, has the code of each function here that
-- another crate calls, and of all that it calls (`order/proofs/There`). Each is linked by itself, and not the crate at once: nothing calls what
-- the enums derive, which prints and compares by std's functions. Assumes nothing.
use mathlib.Core.Bool.{true}
use prog.Linked.{Tree, World, in_world, Holds}
use prog.LinkedThreads.{HasT}
use Rattle.bits.proofs.Wiring as bits
use Rattle.frame.proofs.Wiring as frame
use Rattle.layout.proofs.kinds.bytes_in.Symbol.{code as bytes_in_code}
use Rattle.layout.proofs.rows.converted_number.Symbol.{code as converted_number_code}
use Rattle.layout.proofs.rows.converted_row.Symbol.{code as converted_row_code}
use Rattle.layout.proofs.rows.fault_of.Symbol.{code as fault_of_code}
use Rattle.layout.proofs.kinds.kind_of.Symbol.{code as kind_of_code}
use Rattle.layout.proofs.kinds.numbers_in.Symbol.{code as numbers_in_code}
use Rattle.layout.proofs.rows.put_row.Symbol.{code as put_row_code}
use Rattle.layout.proofs.rows.read_row.Symbol.{code as read_row_code}
use Rattle.layout.proofs.TheLinks.layout-fields-between as between_link
use Rattle.layout.proofs.TheLinks.layout-fields-convert_field as convert_field_link
use Rattle.layout.proofs.TheLinks.layout-fields-meaning_of as meaning_of_link
use Rattle.layout.proofs.TheLinks.layout-fields-stored_as as stored_as_link
use Rattle.layout.proofs.TheLinks.layout-kinds-bytes_in as bytes_in_link
use Rattle.layout.proofs.TheLinks.layout-kinds-fields_in as fields_in_link
use Rattle.layout.proofs.TheLinks.layout-kinds-kind_of as kind_of_link
use Rattle.layout.proofs.TheLinks.layout-kinds-numbers_in as numbers_in_link
use Rattle.layout.proofs.TheLinks.layout-orders-order_fault as order_fault_link
use Rattle.layout.proofs.TheLinks.layout-rows-converted_number as converted_number_link
use Rattle.layout.proofs.TheLinks.layout-rows-converted_row as converted_row_link
use Rattle.layout.proofs.TheLinks.layout-rows-fault_of as fault_of_link
use Rattle.layout.proofs.TheLinks.layout-rows-has_row as has_row_link
use Rattle.layout.proofs.TheLinks.layout-rows-put_row as put_row_link
use Rattle.layout.proofs.TheLinks.layout-rows-read_row as read_row_link
use Rattle.layout.proofs.TheLinks.layout-shapes-shape as shape_link
use Rattle.layout.proofs.TheLinks.layout-shapes-shape_at as shape_at_link
use Rattle.layout.proofs.TheLinks.layout-shapes-width_at as width_at_link
use Rattle.layout.proofs.TheLink as the_link

-- each function's code under its symbol
abbrev pub table : Tree
table = the_link.table

-- what the look-up has, each under its function's name
pub record Wiring (W : World) : Type 0 where
  pub bytes_in : HasT (in_world W) true bytes_in_code
  pub converted_number : HasT (in_world W) true converted_number_code
  pub converted_row : HasT (in_world W) true converted_row_code
  pub fault_of : HasT (in_world W) true fault_of_code
  pub kind_of : HasT (in_world W) true kind_of_code
  pub numbers_in : HasT (in_world W) true numbers_in_code
  pub put_row : HasT (in_world W) true put_row_code
  pub read_row : HasT (in_world W) true read_row_code

module _ (W : World) (held : Holds W "layout" table) (b : bits.Wiring W) (f : frame.Wiring W) where
  between : HasT (in_world W) true between_link.code
  between = between_link.has (in_world W) true (the_link.found-layout::fields::between W held)

  meaning_of : HasT (in_world W) true meaning_of_link.code
  meaning_of = meaning_of_link.has (in_world W) true (the_link.found-layout::fields::meaning_of W held) f.ms_of between

  stored_as : HasT (in_world W) true stored_as_link.code
  stored_as = stored_as_link.has (in_world W) true (the_link.found-layout::fields::stored_as W held) f.code_of between

  convert_field : HasT (in_world W) true convert_field_link.code
  convert_field = convert_field_link.has (in_world W) true (the_link.found-layout::fields::convert_field W held) meaning_of stored_as

  bytes_in : HasT (in_world W) true bytes_in_link.code
  bytes_in = bytes_in_link.has (in_world W) true (the_link.found-layout::kinds::bytes_in W held)

  fields_in : HasT (in_world W) true fields_in_link.code
  fields_in = fields_in_link.has (in_world W) true (the_link.found-layout::kinds::fields_in W held)

  kind_of : HasT (in_world W) true kind_of_link.code
  kind_of = kind_of_link.has (in_world W) true (the_link.found-layout::kinds::kind_of W held)

  numbers_in : HasT (in_world W) true numbers_in_link.code
  numbers_in = numbers_in_link.has (in_world W) true (the_link.found-layout::kinds::numbers_in W held)

  order_fault : HasT (in_world W) true order_fault_link.code
  order_fault = order_fault_link.has (in_world W) true (the_link.found-layout::orders::order_fault W held)

  shape : HasT (in_world W) true shape_link.code
  shape = shape_link.has (in_world W) true (the_link.found-layout::shapes::shape W held)

  shape_at : HasT (in_world W) true shape_at_link.code
  shape_at = shape_at_link.has (in_world W) true (the_link.found-layout::shapes::shape_at W held) shape

  width_at : HasT (in_world W) true width_at_link.code
  width_at = width_at_link.has (in_world W) true (the_link.found-layout::shapes::width_at W held) shape_at

  converted_number : HasT (in_world W) true converted_number_link.code
  converted_number = converted_number_link.has (in_world W) true (the_link.found-layout::rows::converted_number W held) convert_field shape_at

  converted_row : HasT (in_world W) true converted_row_link.code
  converted_row = converted_row_link.has (in_world W) true (the_link.found-layout::rows::converted_row W held) fields_in converted_number

  fault_of : HasT (in_world W) true fault_of_link.code
  fault_of = fault_of_link.has (in_world W) true (the_link.found-layout::rows::fault_of W held) convert_field fields_in order_fault shape_at

  has_row : HasT (in_world W) true has_row_link.code
  has_row = has_row_link.has (in_world W) true (the_link.found-layout::rows::has_row W held) bytes_in

  put_row : HasT (in_world W) true put_row_link.code
  put_row = put_row_link.has (in_world W) true (the_link.found-layout::rows::put_row W held) b.cursor_new b.cursor_put fields_in has_row width_at

  read_row : HasT (in_world W) true read_row_link.code
  read_row = read_row_link.has (in_world W) true (the_link.found-layout::rows::read_row W held) b.cursor_new b.cursor_read fields_in has_row shape_at

  pub wiring : Wiring W
  wiring =
      record {
        bytes_in = bytes_in;
        converted_number = converted_number;
        converted_row = converted_row;
        fault_of = fault_of;
        kind_of = kind_of;
        numbers_in = numbers_in;
        put_row = put_row;
        read_row = read_row;
      }

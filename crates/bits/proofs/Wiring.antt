-- This crate's part of a program: a look-up that holds this crate's table has the code of each function here that another crate calls, and of
-- all that it calls (`order/proofs/There`). Each is linked by itself, and not the crate at once: nothing calls what the structs derive, which
-- prints and compares by std's functions. Assumes nothing.
use mathlib.Core.Bool.{true}
use prog.Linked.{Tree, World, in_world, Holds}
use prog.LinkedThreads.{HasT}
use Rattle.bits.proofs.Cursor.new.Symbol.{code as cursor_new_code}
use Rattle.bits.proofs.Cursor.put.Symbol.{code as cursor_put_code}
use Rattle.bits.proofs.Cursor.read.Symbol.{code as cursor_read_code}
use Rattle.bits.proofs.TheLinks.bits-gather as gather_link
use Rattle.bits.proofs.TheLinks.bits-has_room as has_room_link
use Rattle.bits.proofs.TheLinks.bits-put_bit as put_bit_link
use Rattle.bits.proofs.TheLinks.bits-weight as weight_link
use Rattle.bits.proofs.TheLinks.bits-with_digit as with_digit_link
use Rattle.bits.proofs.TheLinks.bits-Cursor-new as cursor_new_link
use Rattle.bits.proofs.TheLinks.bits-Cursor-put as cursor_put_link
use Rattle.bits.proofs.TheLinks.bits-Cursor-read as cursor_read_link
use Rattle.bits.proofs.TheLinks.bits-Cursor-take as take_link
use Rattle.bits.proofs.TheLinks.bits-Cursor-write as write_link
use Rattle.bits.proofs.TheLink as the_link

-- each function's code under its symbol
abbrev pub table : Tree
table = the_link.table

-- what the look-up has, each under its function's name
pub record Wiring (W : World) : Type 0 where
  pub cursor_new : HasT (in_world W) true cursor_new_code
  pub cursor_put : HasT (in_world W) true cursor_put_code
  pub cursor_read : HasT (in_world W) true cursor_read_code

module _ (W : World) (held : Holds W "bits" table) where
  cursor_new : HasT (in_world W) true cursor_new_link.code
  cursor_new = cursor_new_link.has (in_world W) true (the_link.found-bits::Cursor::new W held)

  weight : HasT (in_world W) true weight_link.code
  weight = weight_link.has (in_world W) true (the_link.found-bits::weight W held)

  with_digit : HasT (in_world W) true with_digit_link.code
  with_digit = with_digit_link.has (in_world W) true (the_link.found-bits::with_digit W held) weight

  put_bit : HasT (in_world W) true put_bit_link.code
  put_bit = put_bit_link.has (in_world W) true (the_link.found-bits::put_bit W held) with_digit

  gather : HasT (in_world W) true gather_link.code
  gather = gather_link.has (in_world W) true (the_link.found-bits::gather W held)

  has_room : HasT (in_world W) true has_room_link.code
  has_room = has_room_link.has (in_world W) true (the_link.found-bits::has_room W held)

  take : HasT (in_world W) true take_link.code
  take = take_link.has (in_world W) true (the_link.found-bits::Cursor::take W held) gather weight

  write : HasT (in_world W) true write_link.code
  write = write_link.has (in_world W) true (the_link.found-bits::Cursor::write W held) put_bit

  cursor_read : HasT (in_world W) true cursor_read_link.code
  cursor_read = cursor_read_link.has (in_world W) true (the_link.found-bits::Cursor::read W held) take has_room

  cursor_put : HasT (in_world W) true cursor_put_link.code
  cursor_put = cursor_put_link.has (in_world W) true (the_link.found-bits::Cursor::put W held) write has_room

  pub wiring : Wiring W
  wiring =
      record {
        cursor_new = cursor_new;
        cursor_put = cursor_put;
        cursor_read = cursor_read;
      }

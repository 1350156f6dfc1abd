-- The numbers of the tick in force, as upper crates use them.
-- Assumes nothing.
use mathlib.Core.Path.{◌≡◌, refl, sym, ◌∙◌}
use mathlib.Core.Bool.{true}
use Prim.Native.Nat.{ℕ, ◌+◌, ◌*◌, ◌≤◌}
use native.Mathlib.Omega.{arith}
use lib.Dec.{leb}
use borrow.Author.Tests.{le-leb, leb-true}
use Rattle.base.proofs.Tests.{same_test}
use Rattle.frame.specs.Tick.{per_byte, per_unit, send_base, send_limit, longest, in_time, sends_in_time}
use Rattle.frame.specs.declared.Speed.{Speed}
use Rattle.frame.specs.declared.Speed.TheVariants.{Mbit100, Mbit10}

-- a unit of the table is a tick
pub per_unit_is : (n : ℕ) → per_unit * n ≡ n
unfolding per_unit
per_unit_is n = omega arith

pub longest_is : longest ≡ 125000000
unfolding longest
longest_is = refl

-- ---- a byte
pub per_byte_at_100 : per_byte Mbit100 ≡ 1
unfolding per_byte
per_byte_at_100 = refl

pub per_byte_at_10 : per_byte Mbit10 ≡ 10
unfolding per_byte
per_byte_at_10 = refl

pub per_byte_least : (s : Speed) → 1 ≤ per_byte s
per_byte_least Mbit100 = omega (arith, per_byte_at_100)
per_byte_least Mbit10 = omega (arith, per_byte_at_10)

-- ---- equation 1: 5,750 ticks are left for the frames
pub sends_in_time_is : (sum : ℕ) → sends_in_time sum ≡ leb sum 5750
unfolding in_time send_base send_limit
sends_in_time_is sum = same_test (500 + sum) 6250 sum 5750 (omega arith) (omega arith)

pub sends_in_time_lem : (sum : ℕ) → sum ≤ 5750 → sends_in_time sum ≡ true
sends_in_time_lem sum h = sends_in_time_is sum ∙ le-leb sum 5750 h

pub sends_in_time_was : (sum : ℕ) → sends_in_time sum ≡ true → sum ≤ 5750
sends_in_time_was sum e = leb-true sum 5750 (sym (sends_in_time_is sum) ∙ e)

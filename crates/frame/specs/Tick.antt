-- 01, Units: "Time is a whole number of ticks. A tick is 80 ns: 1 ms is 12,500 ticks, 40 µs is 500, 500 µs is 6,250. .. These belong to the
-- tick and are named with it once." The rules of a tick are one value, which a network in ticks carries. Assumes nothing.
use Rattle.std.specs.Prelude.{ℕ, ◌+◌, Bool, leb}
use Rattle.frame.specs.declared.Speed.{Speed}
use Rattle.frame.specs.declared.Speed.TheVariants.{Mbit100, Mbit10}

-- what a tick says of times: the ticks of a millisecond, of a byte at a speed, and of a unit of the table's delays, periods and jitters;
-- equation 1's base and limit; and the longest busy length that is looked for
pub record TickRules : Type 0 where
  pub per_ms : ℕ
  pub per_byte : Speed → ℕ
  pub per_unit : ℕ
  pub send_base : ℕ
  pub send_limit : ℕ
  pub longest : ℕ

-- ---- 01's tick
-- "1 ms is 12,500 ticks"
unfoldable pub per_ms : ℕ
per_ms = 12500

-- "A byte takes 1 tick at 100 Mbit/s and 10 ticks at 10 Mbit/s."
unfoldable pub per_byte : Speed → ℕ
per_byte Mbit100 = 1
per_byte Mbit10 = 10

-- the table has its delays, periods and jitters in ticks: "period 12,500 to 125,000,000"
unfoldable pub per_unit : ℕ
per_unit = 1

-- "40 µs is 500"
unfoldable pub send_base : ℕ
send_base = 500

-- "500 µs is 6,250"
unfoldable pub send_limit : ℕ
send_limit = 6250

-- "Busy length: the least L from 1 to 125,000,000"
unfoldable pub longest : ℕ
longest = 125000000

-- the rules in force
abbrev pub in_force : TickRules
in_force = record {
  per_ms = per_ms;
  per_byte = per_byte;
  per_unit = per_unit;
  send_base = send_base;
  send_limit = send_limit;
  longest = longest;
}

-- ---- equation 1
-- 01, answer 7, from the other side: 500 + the sum of an end system's frame times does not exceed 6,250 (equation 1)
unfoldable pub in_time : TickRules → ℕ → Bool
in_time tick sum = leb (tick.send_base + sum) tick.send_limit

abbrev pub sends_in_time : ℕ → Bool
sends_in_time sum = in_time in_force sum

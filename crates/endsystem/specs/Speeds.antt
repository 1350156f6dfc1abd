-- 01, Units: "A byte takes 1 tick at 100 Mbit/s and 10 ticks at 10 Mbit/s", for a speed that is given as its number.
-- Assumes nothing.
use Rattle.std.specs.Prelude.{ℕ, eqb, Option, None, Some}
use Rattle.base.specs.Pick.{pick}
use Rattle.frame.specs.declared.Speed.TheVariants.{Mbit100, Mbit10}
use Rattle.frame.specs.Tick.{per_byte}

-- any other speed is refused (4)
unfoldable pub per_byte_at : ℕ → Option ℕ
per_byte_at speed = pick (eqb speed 100) (Some (per_byte Mbit100)) (pick (eqb speed 10) (Some (per_byte Mbit10)) None)

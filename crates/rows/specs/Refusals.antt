-- 01, Answers 7 to 10, as facts of a network: the first row that each is given at, if there is one.
-- Assumes nothing.
use Rattle.std.specs.Prelude.{ℕ, ◌*◌, Bool, not, ltb, length, Option}
use Rattle.base.specs.Least.{least_from}
use Rattle.base.specs.Tests.{is_some}
use Rattle.frame.specs.Tick.{in_time}
use Rattle.layout.specs.Limits.{limits}
use Rattle.network.specs.Network.{Network, vl_at}
use Rattle.rows.specs.Links.{send_sum}
use Rattle.rows.specs.Queues.{queue_length}
use Rattle.rows.specs.Ports.{port_length, jitter_of}
use Rattle.rows.specs.Rows.{rows_of}

-- 7: "500 + the sum of (20 + Lmax) × ticks per byte over an end system's VLs exceeds 6,250 (equation 1)"
unfoldable pub sends_late : Network → ℕ → Bool
sends_late net e = not (in_time net.tick (send_sum net e))

unfoldable pub late_system : Network → Option ℕ
late_system net = least_from (sends_late net) 0 (length net.systems)

-- 8: "more than 1,024 rows ..
unfoldable pub too_many_rows : Network → Bool
too_many_rows net = ltb limits.rows (length (rows_of net))

-- .. or the lent result is shorter than 6 numbers a row"
unfoldable pub too_short : Network → ℕ → Bool
too_short net room = ltb room (6 * length (rows_of net))

-- 9: "a sub-link's queue has no busy length", of the sub-links of VL v (one without streams has the length 1)
unfoldable pub endless_sub_link : Network → ℕ → Option ℕ
endless_sub_link net v = least_from (λ k. not (is_some (queue_length net v k))) 0 (vl_at net v).sublinks

unfoldable pub endless_vl : Network → Option ℕ
endless_vl net = least_from (λ v. is_some (endless_sub_link net v)) 0 (length net.vls)

-- 10: "a port has no busy length"
unfoldable pub endless : Network → ℕ → Bool
endless net p = not (is_some (port_length net (jitter_of net) p))

unfoldable pub endless_port : Network → Option ℕ
endless_port net = least_from (endless net) 0 (length net.ports)

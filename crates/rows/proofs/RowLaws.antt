-- What worst and best add up to: their parts are lists, and over the route the two parts of each hop may be taken together.
-- Assumes nothing.
use Prim.Native.Nat.{ℕ, ◌+◌, ◌-◌, ◌*◌}
use mathlib.Core.List.{List, [], ◌∷◌, ◌++◌, map}
use mathlib.Core.Path.{◌≡◌}
use native.Mathlib.Omega.{arith}
use Rattle.base.specs.Tabulate.{total}
use Rattle.frame.specs.Packets.{packets}
use Rattle.network.specs.Network.{Network, vl_at, stream_at, port_at, hop_at}
use Rattle.network.specs.Views.{route}
use Rattle.rows.specs.Links.{send_most, send_line, mux_wait, hop_line}
use Rattle.rows.specs.Ports.{figure_of}
use Rattle.rows.specs.Rows.{two_each, queue_of, worst_parts, worst, best_parts, best}

total_two_each : {A : Type 0} (f g : A → ℕ) (xs : List A) (rest : List ℕ) → total (two_each f g xs ++ rest) ≡ total (map (λ x. f x + g x) xs) + total rest
unfolding two_each total
total_two_each f g [] rest = omega arith
total_two_each f g (x ∷ xs) rest = omega (arith, total_two_each f g xs rest)

module _ (net : Network) where
  -- the ticks that a hop adds at most and at least
  abbrev pub most_at : ℕ → ℕ
  most_at g = (port_at net (hop_at net g).port).greatest + figure_of net g

  abbrev pub least_at : ℕ → ℕ
  least_at g = hop_line net g + (port_at net (hop_at net g).port).least

  pub worst_sum : (s h : ℕ) →
      worst net s h ≡ net.send_greatest + queue_of net s + mux_wait net (stream_at net s).vl + send_most net (stream_at net s).vl + total (map most_at (route net h)) + net.receive_greatest
  unfolding worst worst_parts total
  worst_sum s h = omega (arith, total_two_each (λ g. (port_at net (hop_at net g).port).greatest) (figure_of net) (route net h) (net.receive_greatest ∷ []))

  pub best_sum : (s h : ℕ) →
      best net s h ≡ net.send_least + (packets (stream_at net s).least (vl_at net (stream_at net s).vl).lmax - 1) * (vl_at net (stream_at net s).vl).gap + send_line net (stream_at net s).vl + total (map least_at (route net h)) + net.receive_least
  unfolding best best_parts total
  best_sum s h = omega (arith, total_two_each (hop_line net) (λ g. (port_at net (hop_at net g).port).least) (route net h) (net.receive_least ∷ []))

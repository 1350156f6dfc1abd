-- 01, Result rows: "For each stream in order, each hop of its VL that is nobody's parent, in order: stream, hop, queue, worst, best,
-- jitter." Worst and best are each the sum of a list of parts. Assumes nothing.
use Rattle.std.specs.Prelude.{ℕ, zero, suc, ◌+◌, ◌-◌, ◌*◌, List, [], ◌∷◌, ◌++◌, map, length}
use Rattle.base.specs.Tabulate.{total}
use Rattle.frame.specs.Packets.{packets}
use Rattle.network.specs.Network.{Network, vl_at, stream_at, port_at, hop_at}
use Rattle.network.specs.Views.{leaves_of, route}
use Rattle.rows.specs.Links.{send_most, send_line, mux_wait, hop_line}
use Rattle.rows.specs.Queues.{queue_figure}
use Rattle.rows.specs.Ports.{figure_of}

-- two numbers for each of a list, one after the other
unfoldable pub two_each : {A : Type 0} → (A → ℕ) → (A → ℕ) → List A → List ℕ
two_each f g [] = []
two_each f g (x ∷ xs) = f x ∷ g x ∷ two_each f g xs

-- the queue figure of a stream's sub-link
unfoldable pub queue_of : Network → ℕ → ℕ
queue_of net s = queue_figure net (stream_at net s).vl (stream_at net s).sublink

-- "worst = greatest send delay + queue + mux wait + (20 + Lmax) × ticks per byte + over the route
-- (greatest switch delay + port figure) + greatest receive delay"
unfoldable pub worst_parts : Network → (ℕ → ℕ) → ℕ → ℕ → List ℕ
worst_parts net figure_at s h =
    net.send_greatest ∷ queue_of net s ∷ mux_wait net (stream_at net s).vl ∷ send_most net (stream_at net s).vl
    ∷ (two_each (λ g. (port_at net (hop_at net g).port).greatest) figure_at (route net h) ++ (net.receive_greatest ∷ []))

unfoldable pub worst : Network → ℕ → ℕ → ℕ
worst net s h = total (worst_parts net (figure_of net) s h)

-- "best = least send delay + (least packets − 1) × BAG + 84 bytes on every link + least switch delays + least receive delay"
unfoldable pub best_parts : Network → ℕ → ℕ → List ℕ
best_parts net s h =
    let v = (stream_at net s).vl in
    net.send_least ∷ (packets (stream_at net s).least (vl_at net v).lmax - 1) * (vl_at net v).gap ∷ send_line net v
    ∷ (two_each (hop_line net) (λ g. (port_at net (hop_at net g).port).least) (route net h) ++ (net.receive_least ∷ []))

unfoldable pub best : Network → ℕ → ℕ → ℕ
best net s h = total (best_parts net s h)

-- "jitter = the stream's jitter + worst − best"
unfoldable pub row_jitter : Network → ℕ → ℕ → ℕ
row_jitter net s h = (stream_at net s).jitter + (worst net s h - best net s h)

-- "stream, hop, queue, worst, best, jitter"
unfoldable pub row_of : Network → ℕ → ℕ → List ℕ
row_of net s h = s ∷ h ∷ queue_of net s ∷ worst net s h ∷ best net s h ∷ row_jitter net s h ∷ []

-- the rows of the first n streams, one after the other
unfoldable pub rows_to : Network → ℕ → List (List ℕ)
rows_to net zero = []
rows_to net (suc s) = rows_to net s ++ map (row_of net s) (leaves_of net (stream_at net s).vl)

unfoldable pub rows_of : Network → List (List ℕ)
rows_of net = rows_to net (length net.streams)

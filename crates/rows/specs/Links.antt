-- The frames of a network on its links: the most and the least ticks that one takes on an end system's link and on a port's, by what
-- a link is (network/specs/Link). Assumes nothing.
use Rattle.std.specs.Prelude.{ℕ, ◌-◌, ◌&&◌, not, map, eqb, length}
use Rattle.base.specs.Tabulate.{passing, total}
use Rattle.network.specs.Network.{Network, vl_at, port_at, hop_at}
use Rattle.network.specs.Link.{system_link, port_link, least_ticks, most_ticks, spread_ticks}
use Rattle.network.specs.Views.{vls_of}

-- ---- an end system's link
-- "(20 + Lmax) × ticks per byte" of VL v's end system
unfoldable pub send_most : Network → ℕ → ℕ
send_most net v = most_ticks (system_link net (vl_at net v).system) (vl_at net v).lmax

-- "84 bytes" on the link of VL v's end system
unfoldable pub send_line : Network → ℕ → ℕ
send_line net v = least_ticks (system_link net (vl_at net v).system)

-- "(20 + Lmax − 84) × ticks per byte of the end system"
unfoldable pub send_spread : Network → ℕ → ℕ
send_spread net v = spread_ticks (system_link net (vl_at net v).system) (vl_at net v).lmax

-- 7: "the sum of (20 + Lmax) × ticks per byte over an end system's VLs"
unfoldable pub send_sum : Network → ℕ → ℕ
send_sum net e = total (map (send_most net) (vls_of net e))

-- "Mux wait of a VL: sum of (20 + Lmax) × ticks per byte over the other VLs of its end system."
unfoldable pub mux_wait : Network → ℕ → ℕ
mux_wait net v =
    total (map (send_most net) (passing (λ u. eqb (vl_at net u).system (vl_at net v).system && not (eqb u v)) (length net.vls)))

-- ---- a port's link, for the frames of a hop on it
-- "C = (20 + Lmax) × ticks per byte of the port"
unfoldable pub hop_most : Network → ℕ → ℕ
hop_most net h = most_ticks (port_link net (hop_at net h).port) (vl_at net (hop_at net h).vl).lmax

-- "84 × its ticks per byte"
unfoldable pub hop_line : Network → ℕ → ℕ
hop_line net h = least_ticks (port_link net (hop_at net h).port)

-- "this port's switch delay greatest − least"
unfoldable pub hop_spread : Network → ℕ → ℕ
hop_spread net h = (port_at net (hop_at net h).port).greatest - (port_at net (hop_at net h).port).least

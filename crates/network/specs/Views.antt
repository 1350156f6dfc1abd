-- What is read off a network again and again: the VLs of an end system, the streams of a sub-link, the hops of a port and of a
-- route, the destinations of a VL. Figures and tick machine both speak of these. Assumes nothing.
use Rattle.std.specs.Prelude.{ℕ, zero, suc, Bool, false, ◌&&◌, not, List, [], ◌∷◌, eqb, length, Option, None, Some}
use Rattle.base.specs.Least.{least_from}
use Rattle.base.specs.Tabulate.{passing}
use Rattle.base.specs.Tests.{is_some}
use Rattle.network.specs.Network.{Network, vl_at, stream_at, hop_at, parent_at}

-- the VLs of an end system, in row order
unfoldable pub vls_of : Network → ℕ → List ℕ
vls_of net e = passing (λ v. eqb (vl_at net v).system e) (length net.vls)

-- the streams of sub-link k of VL v, in row order
unfoldable pub streams_on : Network → ℕ → ℕ → List ℕ
streams_on net v k = passing (λ s. eqb (stream_at net s).vl v && eqb (stream_at net s).sublink k) (length net.streams)

-- the hops on a port, in row order
unfoldable pub hops_on : Network → ℕ → List ℕ
hops_on net p = passing (λ h. eqb (hop_at net h).port p) (length net.hops)

-- whether hop h is the parent
unfoldable pub is_parent : ℕ → Option ℕ → Bool
is_parent h None = false
is_parent h (Some g) = eqb g h

-- a hop that is nobody's parent
unfoldable pub leaf : Network → ℕ → Bool
leaf net h = not (is_some (least_from (λ g. is_parent h (parent_at net g)) 0 (length net.hops)))

-- the destinations of a VL: its leaf hops, in row order
unfoldable pub leaves_of : Network → ℕ → List ℕ
leaves_of net v = passing (λ h. eqb (hop_at net h).vl v && leaf net h) (length net.hops)

-- the hop, its parent, the parent's parent and so on, n hops at most
unfoldable pub route_of : Network → ℕ → ℕ → List ℕ
route_of net zero h = []
route_of net (suc n) h = h ∷ elim (parent_at net h) [ None ↦ [] | Some g ↦ route_of net n g ]

-- the route of a hop, "routes 8 hops deep": it is whole where no reference is bad
unfoldable pub route : Network → ℕ → List ℕ
route net h = route_of net 8 h

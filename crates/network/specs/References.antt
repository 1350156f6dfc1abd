-- 01, Answers 5 and 6: the named tests of a network's references, in 01's order, and the sampling rule.
-- Assumes nothing.
use Rattle.std.specs.Prelude.{ℕ, zero, suc, Bool, true, false, ◌&&◌, ◌||◌, not, List, [], ◌∷◌, leb, ltb, eqb, length, get_or, Option, None, Some}
use Rattle.base.specs.Least.{least_from}
use Rattle.base.specs.Tests.{is_some, first_failing}
use Rattle.frame.specs.Packets.{packets}
use Rattle.network.specs.Network.{Network, vl_at, stream_at, hop_at, parent_at}

-- ---- VLs: "a VL names no end system, or has no hop"
unfoldable pub names_system : Network → ℕ → Bool
names_system net v = ltb (vl_at net v).system (length net.systems)

unfoldable pub has_hop : Network → ℕ → Bool
has_hop net v = is_some (least_from (λ h. eqb (hop_at net h).vl v) 0 (length net.hops))

-- ---- streams: "a stream names no VL or no sub-link of it"
unfoldable pub stream_names_vl : Network → ℕ → Bool
stream_names_vl net s = ltb (stream_at net s).vl (length net.vls)

unfoldable pub names_sub_link : Network → ℕ → Bool
names_sub_link net s = ltb (stream_at net s).sublink (vl_at net (stream_at net s).vl).sublinks

-- ---- hops: "a hop names no VL or port, its parent is not an earlier row of the same VL on a lower-numbered port,
-- an earlier hop has the same VL and port, or it is deeper than 8"
unfoldable pub hop_names_vl : Network → ℕ → Bool
hop_names_vl net h = ltb (hop_at net h).vl (length net.vls)

unfoldable pub names_port : Network → ℕ → Bool
names_port net h = ltb (hop_at net h).port (length net.ports)

-- a test of the parent passes where there is none
unfoldable pub of_parent : Network → (ℕ → Bool) → ℕ → Bool
of_parent net test h = elim (parent_at net h) [ None ↦ true | Some g ↦ test g ]

unfoldable pub parent_earlier : Network → ℕ → Bool
parent_earlier net h = of_parent net (λ g. ltb g h) h

unfoldable pub parent_same_vl : Network → ℕ → Bool
parent_same_vl net h = of_parent net (λ g. eqb (hop_at net g).vl (hop_at net h).vl) h

-- "on a lower-numbered port": a test of its own
unfoldable pub parent_lower_port : Network → ℕ → Bool
parent_lower_port net h = of_parent net (λ g. ltb (hop_at net g).port (hop_at net h).port) h

unfoldable pub twin_of : Network → ℕ → ℕ → Bool
twin_of net h g = eqb (hop_at net g).vl (hop_at net h).vl && eqb (hop_at net g).port (hop_at net h).port

unfoldable pub no_earlier_twin : Network → ℕ → Bool
no_earlier_twin net h = not (is_some (least_from (twin_of net h) 0 h))

-- the route of a hop, which is the hop, its parent, the parent's parent and so on, has more than n hops
unfoldable pub route_longer : Network → ℕ → ℕ → Bool
route_longer net zero h = true
route_longer net (suc n) h = elim (parent_at net h) [ None ↦ false | Some g ↦ route_longer net n g ]

-- "routes 8 hops deep"
unfoldable pub not_too_deep : Network → ℕ → Bool
not_too_deep net h = not (route_longer net 8 h)

-- ---- the tests of a row of a section, in 01's order; end systems and ports name nothing
unfoldable pub vl_tests : Network → ℕ → List Bool
vl_tests net v = names_system net v ∷ has_hop net v ∷ []

unfoldable pub stream_tests : Network → ℕ → List Bool
stream_tests net s = stream_names_vl net s ∷ names_sub_link net s ∷ []

unfoldable pub hop_tests : Network → ℕ → List Bool
hop_tests net h =
    hop_names_vl net h ∷ names_port net h ∷ parent_earlier net h ∷ parent_same_vl net h ∷ parent_lower_port net h
    ∷ no_earlier_twin net h ∷ not_too_deep net h ∷ []

-- the first test that fails, of a row of a section
unfoldable pub ref_fault : Network → ℕ → ℕ → Option ℕ
ref_fault net section i =
    first_failing (get_or ([] ∷ [] ∷ vl_tests net i ∷ stream_tests net i ∷ [] ∷ hop_tests net i ∷ []) section [])

unfoldable pub naming_rows : Network → ℕ → ℕ
naming_rows net section = get_or (0 ∷ 0 ∷ length net.vls ∷ length net.streams ∷ 0 ∷ length net.hops ∷ []) section 0

-- the first row of a section with a bad reference
unfoldable pub bad_reference : Network → ℕ → Option ℕ
bad_reference net section = least_from (λ i. is_some (ref_fault net section i)) 0 (naming_rows net section)

-- 6: "a sampling message needs more than one packet"
unfoldable pub one_sample : Network → ℕ → Bool
one_sample net s = not (stream_at net s).sampling || leb (packets (stream_at net s).size (vl_at net (stream_at net s).vl).lmax) 1

unfoldable pub bad_sample : Network → Option ℕ
bad_sample net = least_from (λ s. not (one_sample net s)) 0 (length net.streams)

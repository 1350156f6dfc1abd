-- What the tests of references say together, as plain facts: exactly then no reference is bad (proved in proofs/ReferenceLaws.antt).
-- No demand is stated by them; proofs above stand on them. Assumes nothing.
use Rattle.std.specs.Prelude.{ℕ, ◌≤◌, ◌<◌, true, false, ◌↔◌, ◌≡◌, length, None, Some}
use Rattle.frame.specs.Packets.{packets}
use Rattle.network.specs.Network.{Network, vl_at, stream_at, hop_at, parent_at}
use Rattle.network.specs.Views.{hops_on}
use Rattle.network.specs.References.{route_longer, bad_reference, bad_sample}

-- a VL has a hop
pub record HopOf (net : Network) (v : ℕ) : Type 0 where
  pub at : ℕ
  pub row : at < length net.hops
  pub on_vl : (hop_at net at).vl ≡ v

pub record References (net : Network) : Type 0 where
  pub vl_system : (v : ℕ) → v < length net.vls → (vl_at net v).system < length net.systems
  pub vl_hop : (v : ℕ) → v < length net.vls → HopOf net v
  pub stream_vl : (s : ℕ) → s < length net.streams → (stream_at net s).vl < length net.vls
  pub stream_sub_link : (s : ℕ) → s < length net.streams → (stream_at net s).sublink < (vl_at net (stream_at net s).vl).sublinks
  pub hop_vl : (h : ℕ) → h < length net.hops → (hop_at net h).vl < length net.vls
  pub hop_port : (h : ℕ) → h < length net.hops → (hop_at net h).port < length net.ports
  pub parent_earlier_says : (h g : ℕ) → h < length net.hops → parent_at net h ≡ Some g → g < h
  pub parent_vl : (h g : ℕ) → h < length net.hops → parent_at net h ≡ Some g → (hop_at net g).vl ≡ (hop_at net h).vl
  pub parent_port : (h g : ℕ) → h < length net.hops → parent_at net h ≡ Some g → (hop_at net g).port < (hop_at net h).port
  pub no_twin : (h g : ℕ) → h < length net.hops → g < h → (hop_at net g).vl ≡ (hop_at net h).vl → (hop_at net g).port ≡ (hop_at net h).port → ⊥
  pub not_deep : (h : ℕ) → h < length net.hops → route_longer net 8 h ≡ false

-- answer 5 is not given exactly if they hold; the sections that name nothing have no bad reference in any case
abbrev pub ReferencesExactly : Type 0
ReferencesExactly =
    (net : Network) → References net ↔ ((bad_reference net 2 ≡ None) × (bad_reference net 3 ≡ None) × (bad_reference net 5 ≡ None))

-- the same of answer 6: every message of a sampling stream is one packet at most
abbrev pub SamplesFit : Network → Type 0
SamplesFit net =
    (s : ℕ) → s < length net.streams → (stream_at net s).sampling ≡ true
    → packets (stream_at net s).size (vl_at net (stream_at net s).vl).lmax ≤ 1

abbrev pub SamplesExactly : Type 0
SamplesExactly = (net : Network) → SamplesFit net ↔ (bad_sample net ≡ None)

-- a port has at most one hop of each VL
abbrev pub FewHopsOnAPort : Type 0
FewHopsOnAPort = (net : Network) → References net → (p : ℕ) → length (hops_on net p) ≤ length net.vls

-- The order, demand 2: "Where refusals 1 to 8 do not apply, a load refusal is given exactly if no busy length within 01's limit exists."
-- So 9 is given at the first VL that has a sub-link with streams and no busy length from 1 to 125,000,000; else 10 at the first port that,
-- with jitters from the lower ports' figures, has none; else the table is accepted. And there are such jitters, and they give a port but
-- one list of flows. Each part is a statement here and a field of demand 2; proofs/Exact.antt proves it. Assumes nothing.
use Rattle.std.specs.Prelude.{ℕ, ◌≤◌, ◌<◌, List, ◌↔◌, ◌≡◌, length, None, Some}
use Rattle.network.specs.Network.{Network, vl_at, stream_at, hop_at, parent_at}
use Rattle.station.specs.Station.{Flow, load}
use Rattle.table.specs.Answers.{answer, accepted}
use Rattle.table.specs.Read.{network_in, read_answer}
use Rattle.rows.specs.Queues.{queue_flows}
use Rattle.rows.specs.Ports.{port_flows, port_figure, root_jitter, child_jitter, jitter_of}
use Rattle.answers.specs.Analysis.{answer7, answer8, analysis_answer}

-- "Where refusals 1 to 8 do not apply"
pub record Passed (bytes : List ℕ) (room : ℕ) : Type 0 where
  pub read : read_answer bytes ≡ accepted
  pub none_7 : answer7 (network_in bytes) ≡ None
  pub none_8 : answer8 (network_in bytes) room ≡ None

-- no "L from 1 to 125,000,000 with: the sum over flows of ((L + J) / T rounded up) × C is at most L"
pub record NoLength (fs : List Flow) : Type 0 where
  pub fails : (l : ℕ) → 1 ≤ l → l ≤ 125000000 → l < load fs l

-- 9: "a sub-link's queue has no busy length", of a sub-link of VL v that has a stream
pub record EndlessQueue (net : Network) (v : ℕ) : Type 0 where
  pub sub_link : ℕ
  pub there : sub_link < (vl_at net v).sublinks
  pub stream : ℕ
  pub stream_there : stream < length net.streams
  pub stream_vl : (stream_at net stream).vl ≡ v
  pub stream_sub_link : (stream_at net stream).sublink ≡ sub_link
  pub no_length : NoLength (queue_flows net v sub_link)

-- jitters from the lower ports' figures: figures of the ports below p, and jitters of the hops on ports up to p, that keep 01's rules
pub record FromLower (net : Network) (p : ℕ) (figure_at jitter_at : ℕ → ℕ) : Type 0 where
  pub figure_is : (q : ℕ) → q < p → figure_at q ≡ port_figure net jitter_at q
  pub root_is : (h : ℕ) → h < length net.hops → (hop_at net h).port ≤ p → parent_at net h ≡ None → jitter_at h ≡ root_jitter net h
  pub child_is : (h g : ℕ) → h < length net.hops → (hop_at net h).port ≤ p → parent_at net h ≡ Some g
      → jitter_at h ≡ child_jitter net h g (jitter_at g) (figure_at (hop_at net g).port)

-- 10: "a port has no busy length", with such jitters
pub record EndlessPort (net : Network) (p : ℕ) : Type 0 where
  pub figure_at : ℕ → ℕ
  pub jitter_at : ℕ → ℕ
  pub from_lower : FromLower net p figure_at jitter_at
  pub no_length : NoLength (port_flows net jitter_at p)

-- there are such jitters for every port: those of the rows
abbrev pub JittersExist : Type 0
JittersExist =
    (bytes : List ℕ) (room : ℕ) → Passed bytes room → let net = network_in bytes in
    (p : ℕ) → FromLower net p (port_figure net (jitter_of net)) (jitter_of net)

-- and they give a port but one list of flows: the one that its figure in the rows is of. So it does not matter which `EndlessPort` has.
abbrev pub OneListOfFlows : Type 0
OneListOfFlows =
    (bytes : List ℕ) (room : ℕ) → Passed bytes room → let net = network_in bytes in
    (p : ℕ) (figure_at jitter_at : ℕ → ℕ) → FromLower net p figure_at jitter_at → port_flows net jitter_at p ≡ port_flows net (jitter_of net) p

-- the first of n rows of which something is so; none of them
pub record FirstOf (Is : ℕ → Type 0) (n i : ℕ) : Type 0 where
  pub row : i < n
  pub here : Is i
  pub not_before : (j : ℕ) → j < i → Is j → ⊥

abbrev pub NoneOf : (ℕ → Type 0) → ℕ → Type 0
NoneOf Is n = (i : ℕ) → i < n → Is i → ⊥

abbrev pub FirstVl : Network → ℕ → Type 0
FirstVl net v = FirstOf (EndlessQueue net) (length net.vls) v

abbrev pub NoVl : Network → Type 0
NoVl net = NoneOf (EndlessQueue net) (length net.vls)

abbrev pub FirstPort : Network → ℕ → Type 0
FirstPort net p = FirstOf (EndlessPort net) (length net.ports) p

abbrev pub NoPort : Network → Type 0
NoPort net = NoneOf (EndlessPort net) (length net.ports)

-- 9 is given exactly at the first VL that has such a sub-link
abbrev pub Exact9 : Type 0
Exact9 = (bytes : List ℕ) (room v : ℕ) → Passed bytes room → (analysis_answer bytes room ≡ answer 9 2 v 0) ↔ FirstVl (network_in bytes) v

-- else 10 exactly at the first port that is such
abbrev pub Exact10 : Type 0
Exact10 =
    (bytes : List ℕ) (room p : ℕ) → Passed bytes room
    → (analysis_answer bytes room ≡ answer 10 4 p 0) ↔ (NoVl (network_in bytes) × FirstPort (network_in bytes) p)

-- else the table is accepted
abbrev pub ExactAccepted : Type 0
ExactAccepted =
    (bytes : List ℕ) (room : ℕ) → Passed bytes room
    → (analysis_answer bytes room ≡ accepted) ↔ (NoVl (network_in bytes) × NoPort (network_in bytes))

-- no other answer is given
pub data OneOfThree (bytes : List ℕ) (room : ℕ) : Type 0 where
  is_9 : (v : ℕ) → analysis_answer bytes room ≡ answer 9 2 v 0 → OneOfThree bytes room
  is_10 : (p : ℕ) → analysis_answer bytes room ≡ answer 10 4 p 0 → OneOfThree bytes room
  is_accepted : analysis_answer bytes room ≡ accepted → OneOfThree bytes room

abbrev pub ExactThree : Type 0
ExactThree = (bytes : List ℕ) (room : ℕ) → Passed bytes room → OneOfThree bytes room

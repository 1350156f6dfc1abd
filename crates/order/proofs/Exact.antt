-- 9, 10 and acceptance are exact: the tests over all sub-links and ports are the order's, as a sub-link without streams has the busy length 1 and the lower ports' figures give the hops of a port but one list of jitters.
-- Assumes nothing.
use Prim.Native.Nat.{ℕ, zero, suc, ◌≤◌, ◌<◌}
use mathlib.Core.Bool.{Bool, true, false, ◌&&◌, true≢false, not, and-eq-true_iff}
use mathlib.Core.List.{List, [], ◌∷◌, Memᴰ}
use mathlib.Core.Logic.Iff
use mathlib.Core.Logic.{◌↔◌}
use Rattle.std.specs.Prelude.{Option, None, Some}
use mathlib.Core.Path.{◌≡◌, refl, sym, ap, ap₂, ◌∙◌}
use native.Mathlib.Omega.{arith}
use borrow.Author.Tests.{eqb-true, not-true}
use lib.Dec.{eqb}
use lib.ListN.{length}
use Rattle.base.specs.Least.{least_from}
use Rattle.base.specs.Tests.{is_some, number_or0}
use Rattle.base.proofs.LeastLaws.{least_is, least_none, least_was, none_was, least_exists}
use Rattle.base.proofs.TabulateLaws.{passing_member}
use Rattle.base.proofs.TestLaws.{some_is, none_is, is_some_was, is_none_was}
use Rattle.frame.specs.Tick.{TickRules}
use Rattle.frame.proofs.TickLaws.{longest_is}
use Rattle.network.specs.Network.{Network, vl_at, stream_at, hop_at, parent_at}
use Rattle.network.specs.ReferenceFacts.{References}
use Rattle.station.specs.Station.{Flow, load, busy_length_to}
use Rattle.station.proofs.Facts.{no_busy_length_to}
use Rattle.table.specs.declared.Answer.{Answer}
use Rattle.table.specs.Answers.{answer, accepted, first_given}
use Rattle.table.specs.Read.{network_in}
use Rattle.table.specs.Lists.{unpacked}
use Rattle.table.proofs.DecodedLaws.{rules_are}
use Rattle.table.proofs.ReadLaws.{read_references}
use Rattle.network.specs.Views.{streams_on}
use Rattle.rows.specs.Queues.{queue_flows, queue_length}
use Rattle.rows.specs.Ports.{port_flows, port_length, port_figure, child_jitter, jitter_of}
use Rattle.rows.specs.Refusals.{endless_sub_link, endless_vl, endless, endless_port}
use Rattle.rows.proofs.PortLaws.{port_flows_same, port_figure_same, figure_of_port, figures_of}
use Rattle.answers.specs.Analysis.{refused_at, answer9, answer10, analysis_answer}
use Rattle.order.specs.Exact.{Passed, NoLength, EndlessQueue, FromLower, EndlessPort, JittersExist, OneListOfFlows, FirstOf, NoneOf, FirstVl, NoVl, FirstPort, NoPort, Exact9, Exact10, ExactAccepted, OneOfThree, is_9, is_10, is_accepted, ExactThree}
use Rattle.answers.proofs.AcceptedLaws.{reader_accepts}

-- ---- flows without a busy length
endless_flows : (lim : ℕ) → lim ≡ 125000000 → (fs : List Flow) → (not (is_some (busy_length_to lim fs)) ≡ true) ↔ NoLength fs
endless_flows lim is fs = (
  λ e. record {
    fails = λ l low high.
        (no_busy_length_to lim fs).0 (is_none_was (busy_length_to lim fs) (not-true (is_some (busy_length_to lim fs)) e)) l low (omega arith);
  },
  λ n. ap not (none_is (busy_length_to lim fs) ((no_busy_length_to lim fs).1 (λ l low high. n.fails l low (omega arith)))),
)

-- ---- the sub-links of a VL
module _ (net : Network) (v : ℕ) where
  stream_on : (k s : ℕ) → Memᴰ s (streams_on net v k) → (s < length net.streams) × ((stream_at net s).vl ≡ v) × ((stream_at net s).sublink ≡ k)
  unfolding streams_on
  stream_on k s m =
      let of_vl_says = eqb (stream_at net s).vl v in
      let of-sub-link = eqb (stream_at net s).sublink k in
      let is = passing_member (λ s. eqb (stream_at net s).vl v && eqb (stream_at net s).sublink k) (length net.streams) s m in
      let both = (and-eq-true_iff of_vl_says of-sub-link).0 is.1 in
      (is.0, eqb-true _ _ both.0, eqb-true _ _ both.1)

  -- one that has no busy length has a stream: without any the length 1 serves
  endless_has_stream : (k : ℕ) → k < (vl_at net v).sublinks → NoLength (queue_flows net v k) → EndlessQueue net v
  unfolding queue_flows load
  endless_has_stream k h none_serves = go (streams_on net v k) refl
    where
      go : (ss : List ℕ) → streams_on net v k ≡ ss → EndlessQueue net v
      go [] e = absurd (omega (arith, rw e at (none_serves.fails 1 (omega arith) (omega arith))))
      go (s ∷ ss) e =
          let is = stream_on k s (rw e (Memᴰ.head refl)) in
          record {
            sub_link = k;
            there = h;
            stream = s;
            stream_there = is.0;
            stream_vl = is.1;
            stream_sub_link = is.2;
            no_length = none_serves;
          }

  endless_queue : net.tick.longest ≡ 125000000 → (is_some (endless_sub_link net v) ≡ true) ↔ EndlessQueue net v
  unfolding endless_sub_link queue_length
  endless_queue longest = (
    λ e. (let k = number_or0 (endless_sub_link net v) in
        let was = least_was (λ k. not (is_some (queue_length net v k))) 0 (vl_at net v).sublinks k (is_some_was (endless_sub_link net v) e) in
        endless_has_stream k (omega (arith, was.high)) ((endless_flows net.tick.longest longest (queue_flows net v k)).0 was.passes)),
    λ q. (let there = least_exists (λ k. not (is_some (queue_length net v k))) 0 (vl_at net v).sublinks q.sub_link (omega arith) (omega (arith, q.there))
        ((endless_flows net.tick.longest longest (queue_flows net v q.sub_link)).1 q.no_length) in
        some_is (endless_sub_link net v) there.at there.is),
  )

-- ---- the ports
-- where no reference is bad there are jitters from the lower ports' figures
jitters_of : (net : Network) → References net → (p : ℕ) → FromLower net p (port_figure net (jitter_of net)) (jitter_of net)
jitters_of net refs p =
    let keeps = figures_of net refs in
    record { figure_is = λ q b. refl; root_is = λ h l b e. keeps.root_is h l e; child_is = λ h g l b e. rw (← figure_of_port net g) (keeps.child_is h g l e) }

-- and they are the hops' own, by induction on the port number: a hop's jitter is of its parent's, which is on a lower port, and of that port's figure
flows_of : (net : Network) → References net → (p : ℕ) (figure_at jitter_at : ℕ → ℕ) → FromLower net p figure_at jitter_at
    → port_flows net jitter_at p ≡ port_flows net (jitter_of net) p
flows_of net refs p figure_at jitter_at lower = port_flows_same net jitter_at (jitter_of net) p (λ h l e. same (suc p) h l (omega arith) (omega arith))
  where
    same : (n h : ℕ) → h < length net.hops → (hop_at net h).port < n → n ≤ suc p → jitter_at h ≡ jitter_of net h
    same zero h l k b = absurd (omega arith)
    same (suc n) h l k b = go (λ g. same n g) (parent_at net h) refl
      where
        go : ((g : ℕ) → g < length net.hops → (hop_at net g).port < n → n ≤ suc p → jitter_at g ≡ jitter_of net g)
            → (o : Option ℕ) → parent_at net h ≡ o → jitter_at h ≡ jitter_of net h
        go ih None e = lower.root_is h l (omega arith) e ∙ sym ((figures_of net refs).root_is h l e)
        go ih (Some g) e =
            let row : g < length net.hops = omega (arith, refs.parent_earlier_says h g l e) in
            let low = refs.parent_port h g l e in
            lower.child_is h g l (omega arith) e
            ∙ ap₂ (child_jitter net h g) (ih g row (omega arith) (omega arith))
            (lower.figure_is (hop_at net g).port (omega arith)
            ∙ port_figure_same net jitter_at (jitter_of net) (hop_at net g).port (λ i a c. ih i a (omega arith) (omega arith))
            ∙ sym (figure_of_port net g))
            ∙ sym ((figures_of net refs).child_is h g l e)

endless_port_lem : (net : Network) → net.tick.longest ≡ 125000000 → References net → (p : ℕ) → (endless net p ≡ true) ↔ EndlessPort net p
unfolding endless port_length
endless_port_lem net longest refs p = (
  λ e. record {
    figure_at = port_figure net (jitter_of net);
    jitter_at = jitter_of net;
    from_lower = jitters_of net refs p;
    no_length = (endless_flows net.tick.longest longest (port_flows net (jitter_of net) p)).0 e;
  },
  λ q. (endless_flows net.tick.longest longest (port_flows net (jitter_of net) p)).1
      (rw (flows_of net refs p q.figure_at q.jitter_at q.from_lower) at q.no_length),
)

-- ---- the first row that a test is true of is the first of which that is so which the test decides
module _ (test : ℕ → Bool) (Is : ℕ → Type 0) (same : (i : ℕ) → (test i ≡ true) ↔ Is i) (n : ℕ) where
  is_not : (i : ℕ) → test i ≡ false → Is i → ⊥
  is_not i e is = true≢false (sym ((same i).1 is) ∙ e)

  not_so : (i : ℕ) → (Is i → ⊥) → test i ≡ false
  not_so i never = go (test i) refl
    where
      go : (b : Bool) → test i ≡ b → b ≡ false
      go true e = absurd (never ((same i).0 e))
      go false e = refl

  first_of_lem : (i : ℕ) → (least_from test 0 n ≡ Some i) ↔ FirstOf Is n i
  first_of_lem i = (
    λ e. (let was = least_was test 0 n i e in
        record { row = omega (arith, was.high); here = (same i).0 was.passes; not_before = λ j h. is_not j (was.fails j (omega arith) h) }),
    λ f. least_is test 0 n i (omega arith) (omega (arith, f.row)) ((same i).1 f.here) (λ j a b. not_so j (f.not_before j b)),
  )

  none_of : (least_from test 0 n ≡ None) ↔ NoneOf Is n
  none_of = (λ e i h. is_not i (none_was test 0 n i e (omega arith) (omega arith)), λ f. least_none test 0 n (λ i a b. not_so i (f i (omega arith))))

module _ (net : Network) (longest : net.tick.longest ≡ 125000000) where
  first_vl_lem : (v : ℕ) → (endless_vl net ≡ Some v) ↔ FirstVl net v
  unfolding endless_vl
  first_vl_lem = first_of_lem (λ v. is_some (endless_sub_link net v)) (EndlessQueue net) (λ v. endless_queue net v longest) (length net.vls)

  no_vl_lem : (endless_vl net ≡ None) ↔ NoVl net
  unfolding endless_vl
  no_vl_lem = none_of (λ v. is_some (endless_sub_link net v)) (EndlessQueue net) (λ v. endless_queue net v longest) (length net.vls)

  module _ (refs : References net) where
    first_port : (p : ℕ) → (endless_port net ≡ Some p) ↔ FirstPort net p
    unfolding endless_port
    first_port = first_of_lem (endless net) (EndlessPort net) (endless_port_lem net longest refs) (length net.ports)

    no_port_lem : (endless_port net ≡ None) ↔ NoPort net
    unfolding endless_port
    no_port_lem = none_of (endless net) (EndlessPort net) (endless_port_lem net longest refs) (length net.ports)

-- ---- 9 and 10 by the rows that they are given at
abbrev last : Option ℕ → Option ℕ → Answer
last vl port = first_given (refused_at 9 2 vl ∷ refused_at 10 4 port ∷ [])

numbers : {a b : Answer} → a ≡ b → a.number ≡ b.number
numbers e = ap (λ (a : Answer). a.number) e

last_9 : (vl port : Option ℕ) (v : ℕ) → (last vl port ≡ answer 9 2 v 0) ↔ (vl ≡ Some v)
unfolding first_given refused_at
last_9 vl port v = (was vl port, λ e. ap (λ (o : Option ℕ). last o port) e)
  where
    was : (vl port : Option ℕ) → last vl port ≡ answer 9 2 v 0 → vl ≡ Some v
    was (Some i) port e = ap (λ (a : Answer). Some a.row) e
    was None (Some i) e = absurd (omega (arith, numbers e))
    was None None e = absurd (omega (arith, numbers e))

last_10 : (vl port : Option ℕ) (p : ℕ) → (last vl port ≡ answer 10 4 p 0) ↔ ((vl ≡ None) × (port ≡ Some p))
unfolding first_given refused_at
last_10 vl port p = (was vl port, λ e. ap₂ last e.0 e.1)
  where
    was : (vl port : Option ℕ) → last vl port ≡ answer 10 4 p 0 → (vl ≡ None) × (port ≡ Some p)
    was (Some i) port e = absurd (omega (arith, numbers e))
    was None (Some i) e = (refl, ap (λ (a : Answer). Some a.row) e)
    was None None e = absurd (omega (arith, numbers e))

last_accepted : (vl port : Option ℕ) → (last vl port ≡ accepted) ↔ ((vl ≡ None) × (port ≡ None))
unfolding first_given refused_at
last_accepted vl port = (was vl port, λ e. ap₂ last e.0 e.1)
  where
    was : (vl port : Option ℕ) → last vl port ≡ accepted → (vl ≡ None) × (port ≡ None)
    was (Some i) port e = absurd (omega (arith, numbers e))
    was None (Some i) e = absurd (omega (arith, numbers e))
    was None None e = (refl, refl)

-- behind 1 to 8 they are the answer
module _ (bytes : List ℕ) (room : ℕ) (passed : Passed bytes room) where
  behind_8 : analysis_answer bytes room ≡ last (endless_vl (network_in bytes)) (endless_port (network_in bytes))
  unfolding first_given answer9 answer10
  behind_8 = reader_accepts bytes room (ap (λ (a : Answer). a.number) passed.read) ∙ rw (passed.none_7, passed.none_8)

pub jitters_exist : JittersExist
jitters_exist bytes room passed = jitters_of (network_in bytes) (read_references bytes passed.read)

pub one_list_of_flows : OneListOfFlows
one_list_of_flows bytes room passed = flows_of (network_in bytes) (read_references bytes passed.read)

-- 01's limit: its tick is in force
longest_in : (bytes : List ℕ) → (network_in bytes).tick.longest ≡ 125000000
unfolding network_in
longest_in bytes = ap (λ (t : TickRules). t.longest) (rules_are (unpacked bytes)) ∙ longest_is

pub exact_9 : Exact9
exact_9 bytes room v passed =
    let net = network_in bytes in
    rw (behind_8 bytes room passed) (Iff.trans (last_9 (endless_vl net) (endless_port net) v) (first_vl_lem net (longest_in bytes) v))

pub exact_10 : Exact10
exact_10 bytes room p passed =
    let net = network_in bytes in
    let refs = read_references bytes passed.read in
    rw (behind_8 bytes room passed) (Iff.trans (last_10 (endless_vl net) (endless_port net) p) (Iff.and (no_vl_lem net (longest_in bytes)) (first_port net (longest_in bytes) refs p)))

pub exact_accepted : ExactAccepted
exact_accepted bytes room passed =
    let net = network_in bytes in
    let refs = read_references bytes passed.read in
    rw (behind_8 bytes room passed) (Iff.trans (last_accepted (endless_vl net) (endless_port net)) (Iff.and (no_vl_lem net (longest_in bytes)) (no_port_lem net (longest_in bytes) refs)))

pub exact_three : ExactThree
unfolding first_given refused_at
exact_three bytes room passed = go (endless_vl (network_in bytes)) (endless_port (network_in bytes)) (behind_8 bytes room passed)
  where
    go : (vl port : Option ℕ) → analysis_answer bytes room ≡ last vl port → OneOfThree bytes room
    go (Some v) port e = is_9 v e
    go None (Some p) e = is_10 p e
    go None None e = is_accepted e

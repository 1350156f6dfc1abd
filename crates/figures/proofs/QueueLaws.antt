-- Flows of a sub-link, and the queues of the VLs, sub-link after sub-link: what the steps of their computation say.
-- Assumes nothing.
use Prim.Native.Nat.{ℕ, ◌+◌, ◌-◌, ◌*◌, ◌/◌, ◌%◌, ◌≤◌, ◌<◌}
use mathlib.Core.Bool.{Bool, true, false, ◌&&◌, not, and-false}
use mathlib.Core.List.{List}
use mathlib.Core.Path.{◌≡◌, sym, ap, ◌∙◌}
use native.Mathlib.Omega.{arith}
use borrow.Author.Tests.{eq-eqb, ne_eqb, lt-ltb, le-ltb}
use lib.Dec.{eqb}
use borrow.Author.Count.{below_more}
use lib.ListN.{length, set, replicate}
use Rattle.std.specs.Prelude.{None, Some}
use Rattle.base.specs.Tests.{is_some}
use Rattle.base.proofs.LeastLaws.{least_none, least_exists}
use Rattle.base.proofs.TestLaws.{some_is, none_is}
use Rattle.frame.specs.Tick.{in_force}
use Rattle.layout.specs.Limits.{limits}
use Rattle.network.specs.declared.Vl.{Vl}
use Rattle.network.specs.declared.Stream.{Stream}
use Rattle.network.specs.Network.{Network, vl_at, stream_at}
use Rattle.network.specs.Ranges.{Ranges}
use Rattle.network.specs.ReferenceFacts.{References}
use Rattle.network.specs.Views.{streams_on}
use Rattle.station.specs.Station.{Flow}
use Rattle.station.specs.Offered.{most_flows}
use Rattle.rows.specs.Queues.{queue_flow, queue_flows, queue_length, queue_figure}
use Rattle.rows.specs.Refusals.{endless_sub_link}
use Rattle.rows.proofs.TickLaws.{queue_length_is, queue_figure_is}
use Rattle.sheet.specs.declared.Delays.{Delays}
use Rattle.sheet.specs.Sheet.{delays_in}
use Rattle.figures.specs.Figures.{queue_at}
use Rattle.figures.specs.Computing.{noted}
use Rattle.figures.specs.Gathering.{flow_of, if_busy, figure_in}
use Rattle.figures.proofs.BoundLaws.{queue_offered}
use Rattle.figures.proofs.FillLaws.{noted_none, noted_more, noted_zeros}
use Rattle.figures.proofs.FoundLaws.{busy_given, busy_none, given_less, none_less}
use Rattle.figures.proofs.GatherLaws.{Gathers, gather_room}

-- ---- the flow of a stream, from what is read off the sheet
pub queue_flow_is : (net : Network) (s v : ℕ) (d : Delays) (stream : Stream) (vl : Vl) → d ≡ delays_in net → stream ≡ stream_at net s → stream.vl ≡ v → vl ≡ vl_at net v
    → flow_of d stream vl ≡ queue_flow net s
unfolding queue_flow
queue_flow_is net s v d stream vl delays is on e = rw (e, ← on, delays, is)

-- ---- the streams of a sub-link: the test that picks them
abbrev pub on_sub_link : Network → ℕ → ℕ → ℕ → Bool
on_sub_link net v k s = eqb (stream_at net s).vl v && eqb (stream_at net s).sublink k

module _ (net : Network) (v k s : ℕ) (stream : Stream) (is : stream ≡ stream_at net s) where
  pub on_sub_link_lem : stream.vl ≡ v → stream.sublink ≡ k → on_sub_link net v k s ≡ true
  on_sub_link_lem e f = rw (← is, eq-eqb _ _ e, eq-eqb _ _ f)

  -- it has its place: a queue has no more flows than there are streams
  pub sub_link_room : Ranges net → References net → s < length net.streams → stream.vl ≡ v → stream.sublink ≡ k
      → (flows : List Flow) → Gathers (queue_flow net) (on_sub_link net v k) s flows → length flows < most_flows
  unfolding queue_flows streams_on
  sub_link_room ranges refs row e f flows g =
      gather_room (queue_flow net) (on_sub_link net v k) s flows g (on_sub_link_lem e f) (length net.streams) row
      (queue_offered net ranges refs v k)

  pub on_other_sub_link : (stream.sublink ≡ k → ⊥) → on_sub_link net v k s ≡ false
  on_other_sub_link f = rw (← is, ne_eqb _ _ f) (and-false (eqb stream.vl v))

  pub on_other_vl : (stream.vl ≡ v → ⊥) → on_sub_link net v k s ≡ false
  on_other_vl f = rw (← is, ne_eqb _ _ f)

module _ (net : Network) (v k : ℕ) where
  -- all streams are passed
  pub sub_link_gathered : (n : ℕ) (flows : List Flow) → n ≡ length net.streams → Gathers (queue_flow net) (on_sub_link net v k) n flows → flows ≡ queue_flows net v k
  unfolding queue_flows streams_on
  sub_link_gathered n flows all g = rw (← all) g

  -- the station's figure of the flows, less one gap
  module _ (rules : net.tick ≡ in_force) (flows : List Flow) (all : flows ≡ queue_flows net v k) (gap : ℕ) (same : gap ≡ (vl_at net v).gap) where
    pub queue_given : (r : ℕ) → Some r ≡ figure_in flows → Some (r - gap) ≡ if_busy (queue_length net v k) (queue_figure net v k)
    unfolding figure_in
    queue_given r e = rw (queue_length_is net rules v k, queue_figure_is net rules v k, ← same) (given_less _ _ r gap (rw all at e))

    pub queue_none : None ≡ figure_in flows → None ≡ if_busy (queue_length net v k) (queue_figure net v k)
    unfolding figure_in
    queue_none e = rw (queue_length_is net rules v k, queue_figure_is net rules v k, ← same) (none_less _ _ gap (rw all at e))

-- ---- a queue without a busy length
module _ (net : Network) (v : ℕ) where
  pub sub_link_endless : (k : ℕ) → k < (vl_at net v).sublinks → not (is_some (queue_length net v k)) ≡ true → is_some (endless_sub_link net v) ≡ true
  unfolding endless_sub_link
  sub_link_endless k h e =
      let x = least_exists (λ k. not (is_some (queue_length net v k))) 0 (vl_at net v).sublinks k (omega arith) (omega arith) e in
      some_is (endless_sub_link net v) x.at x.is

  pub no_sub_link_endless :
      ((k : ℕ) → k < (vl_at net v).sublinks → not (is_some (queue_length net v k)) ≡ false) → is_some (endless_sub_link net v) ≡ false
  unfolding endless_sub_link
  no_sub_link_endless all =
      none_is (endless_sub_link net v) (least_none (λ k. not (is_some (queue_length net v k))) 0 (vl_at net v).sublinks (λ k a b. all k (omega arith)))

-- ---- the queue figures by place
module _ (net : Network) (v k : ℕ) (four : k < 4) where
  place_vl : (v * 4 + k) / 4 ≡ v
  place_vl = omega arith

  place_link : (v * 4 + k) % 4 ≡ k
  place_link = omega arith

  pub queue_at_lem : k < (vl_at net v).sublinks → queue_at net (v * 4 + k) ≡ queue_figure net v k
  unfolding queue_at
  queue_at_lem h = rw (place_vl, place_link, lt-ltb k (vl_at net v).sublinks h)

-- ---- sub-link after sub-link: the figures of the VLs below v and of the first k sub-links of VL v are noted, and none of them is without
-- a busy length
pub record QueuesTo (net : Network) (v k : ℕ) (queues : List ℕ) : Type 0 where
  pub noted_are : queues ≡ noted (queue_at net) (limits.vls * 4) (v * 4 + k)
  pub served : (u : ℕ) → u < v → is_some (endless_sub_link net u) ≡ false
  pub here : (j : ℕ) → j < k → not (is_some (queue_length net v j)) ≡ false

pub queues_start : (net : Network) (queues : List ℕ) → queues ≡ replicate (limits.vls * 4) 0 → QueuesTo net 0 0 queues
queues_start net queues e =
    record { noted_are = e ∙ noted_none (queue_at net) (limits.vls * 4); served = λ u l. absurd (omega arith); here = λ j l. absurd (omega arith) }

module _ (net : Network) (ranges : Ranges net) (v k : ℕ) (queues : List ℕ) (so_far : QueuesTo net v k queues) where
  module _ (row : v < length net.vls) (there : k < (vl_at net v).sublinks) where
    four : k < 4
    four = omega (arith, (ranges.vl v row).sub_links_greatest)

    pub queues_more : (f : ℕ) → Some f ≡ if_busy (queue_length net v k) (queue_figure net v k) → QueuesTo net v (k + 1) (set queues (v * 4 + k) f)
    queues_more f e =
        let known = busy_given (queue_length net v k) (queue_figure net v k) f e in
        record {
          noted_are = ap (λ (qs : List ℕ). set qs (v * 4 + k) f) so_far.noted_are
              ∙ noted_more (queue_at net) (limits.vls * 4) (v * 4 + k) f (omega (arith, ranges.few_vls, four))
              (known.1 ∙ sym (queue_at_lem net v k four there))
              ∙ ap (noted (queue_at net) (limits.vls * 4)) (omega arith);
          served = so_far.served;
          here = below_more (λ (j : ℕ). not (is_some (queue_length net v j)) ≡ false) k so_far.here (ap not known.0);
        }

    pub vl_endless : None ≡ if_busy (queue_length net v k) (queue_figure net v k) → is_some (endless_sub_link net v) ≡ true
    vl_endless e = sub_link_endless net v k there (ap not (busy_none (queue_length net v k) (queue_figure net v k) e))

  -- all sub-links of the VL: where it has no more, the zero there is the figure
  pub queues_vl : v < length net.vls → k ≡ (vl_at net v).sublinks → QueuesTo net (v + 1) 0 queues
  unfolding queue_at
  queues_vl row all =
      let few : k ≤ 4 = omega (arith, (ranges.vl v row).sub_links_greatest) in
      record {
        noted_are = so_far.noted_are
            ∙ sym
            (noted_zeros (queue_at net) (limits.vls * 4) (4 - k) (v * 4 + k) (omega (arith, ranges.few_vls))
            (λ i a b.
            let at_vl : i / 4 ≡ v = omega arith in
            rw at_vl (rw (le-ltb (i % 4) (vl_at net v).sublinks (omega arith)))))
            ∙ ap (noted (queue_at net) (limits.vls * 4)) (omega arith);
        served = below_more (λ (u : ℕ). is_some (endless_sub_link net u) ≡ false) v so_far.served
            (no_sub_link_endless net v (λ j l. so_far.here j (omega arith)));
        here = λ j l. absurd (omega arith);
      }

pub queues_all : (net : Network) (v : ℕ) (queues : List ℕ) → QueuesTo net v 0 queues → v ≡ length net.vls → queues ≡ noted (queue_at net) (limits.vls * 4) (length net.vls * 4)
queues_all net v queues all e = all.noted_are ∙ ap (noted (queue_at net) (limits.vls * 4)) (omega arith)

-- The machine's own theorem, proved: the statement is in specs/OverNetworks.antt. The bounds are those of the windows, which are the rows' worst and best; the reached wait is the span that attains the queue's station figure, played out.
-- Assumes nothing.
use Prim.Native.Nat.{ℕ, ◌+◌, ◌≤◌, ◌<◌}
use mathlib.Core.Bool.{◌&&◌}
use mathlib.Core.Path.{◌≡◌, refl, sym, ap, ◌∙◌, subst}
use native.Mathlib.Omega.{arith}
use lib.Dec.{eqb}
use lib.ListN.{length}
use Rattle.base.proofs.TestLaws.{number_is}
use Rattle.network.specs.Network.{Network, stream_at}
use Rattle.network.specs.Views.{streams_on}
use Rattle.rows.specs.Queues.{queue_flow, queue_flows, queue_length}
use Rattle.rows.specs.Rows.{queue_of, worst}
use Rattle.station.specs.Station.{brought, figure}
use Rattle.station.proofs.Facts.{is_attained_to}
use Rattle.machine.specs.Sound.{Sound, Has, Busy}
use Rattle.machine.specs.Messages.{Message, Packet}
use Rattle.machine.specs.Machine.{Run, complete, state}
use Rattle.machine.specs.Permitted.{PermittedBelow}
use Rattle.machine.specs.Runs.{Came, Complete, Hands, Waited, Reaches, Continued}
use Rattle.machine.specs.OverNetworks.{SentTo, NoEarlier, Reached, NothingIsCutOff, Demand3OverNetworks}
use Rattle.machine.proofs.Lists.Cases.{eq_both}
use Rattle.machine.proofs.Stage.Select.{is_passing}
use Rattle.machine.proofs.Network.Told.{good}
use Rattle.machine.proofs.Network.Windows.{queue_station, queue_is, Windows}
use Rattle.machine.proofs.Network.Covers.{cost_covered, queue_covers}
use Rattle.machine.proofs.Network.Routes.{windows, worst_is, best_is}
use Rattle.machine.proofs.Network.Arrivals.{gap_in_cost}
use Rattle.machine.proofs.Network.Auto.{runs}
use Rattle.machine.proofs.Network.Theorem.{no_later, no_earlier, waits}
use Rattle.machine.proofs.Network.Stopped.{continued}
use Rattle.machine.proofs.Wait.Fill.{Aim}
use Rattle.machine.proofs.Wait.Reached.{reached}

module _ (net : Network) (sound : Sound net) (busy : Busy net) where
  abbrev win : Windows net
  win = windows net sound busy

  -- a run that stops goes on, and is the same in the ticks below: so what is shown of runs without end holds of it
  module _ (r : Run) (n : ℕ) (per : PermittedBelow net r n) where
    abbrev more : Continued net r n
    more = continued net sound r n per

    same : (t h : ℕ) → t < n
        → complete net t (more.run.choice t) (state net more.run t) h ≡ complete net t (r.choice t) (state net r t) h
    same t h k = rw (more.same_choice t k, more.same_state t (omega arith))

    -- what has come in the one has come in the other
    came_too : (a b : Run) {m : Message} {h k u : ℕ}
        → ((t : ℕ) → t ≤ u → complete net t (a.choice t) (state net a t) h ≡ complete net t (b.choice t) (state net b t) h)
        → Came net a m h k u → Came net b m h k u
    came_too a b same c = record {
      frame = c.frame;
      at = c.at;
      there = rw (same c.at c.by_then) at c.there;
      message = c.message;
      index = c.index;
      by_then = c.by_then;
    }

    to_more : (t : ℕ) (m : Message) (h : ℕ) → SentTo net r n t m h → SentTo net more.run n t m h
    to_more t m h s = record {
      running = s.running;
      released = rw (more.same_releases t s.running) s.released;
      row = s.row;
      same_vl = s.same_vl;
      is_leaf = s.is_leaf;
    }

    row : (t : ℕ) (m : Message) (h : ℕ) → SentTo net r n t m h → m.stream < length net.streams
    row t m h s = (good net more.run more.permitted t m (to_more t m h s).released).stream

    later : (t : ℕ) (m : Message) (h : ℕ) → SentTo net r n t m h → t + worst net m.stream h < n
        → Complete net r m h (t + worst net m.stream h)
    later t m h s enough k hk =
        let e = worst_is net sound busy m.stream h (row t m h s) s.row s.same_vl in
        rw e at (came_too more.run r (λ u l. same u h (omega arith))
        (no_later net sound win more.run more.permitted n t m h (to_more t m h s) k hk))

    longer : (v t : ℕ) (x : Packet) → t < n → Hands net r v t x → Waited net r n x t (queue_of net x.message.stream)
    longer v t x k e =
        let w = waits net sound win more.run more.permitted n v t x
        (rw (more.same_choice t k, more.same_state t (omega arith)) e) in
        record {
          came = w.came;
          reach = rw (more.same_choice w.came (omega (arith, w.not_before))) at w.reach;
          only = λ u h i. w.only u h (rw (more.same_choice u h) i);
          not_before = w.not_before;
          at_most = w.at_most;
        }

  earlier : NoEarlier net
  earlier r n per t m h s u hu c =
      let on = more r n per in
      let e = best_is net sound busy m.stream h (row r n per t m h s) s.row s.same_vl in
      let b = no_earlier net sound win on.run on.permitted n t m h (to_more r n per t m h s) u
      (λ k hk. came_too r n per r on.run (λ t l. sym (same r n per t h (omega arith))) (c k hk)) in
      omega arith

  reaches : Reached net
  unfolding queue_station queue_length
  reaches s h one =
      let v = (stream_at net s).vl in
      let hv = sound.references.stream_vl s h in
      let sub : (stream_at net s).sublink ≡ 0 = omega (arith, sound.references.stream_sub_link s h) in
      let has : Has (queue_length net v 0) = subst (λ (k : ℕ). Has (queue_length net v k)) sub (busy.queue s h) in
      let a = is_attained_to net.tick.longest (queue_flows net v 0) has.length has.is in
      let at : brought (queue_flows net v 0) a.span ≡ queue_station net v 0 + a.span =
      a.attains ∙ ap (λ (l : ℕ). figure (queue_flows net v 0) l + a.span) (sym (number_is (queue_length net v 0) has.length has.is)) in
      let aim : Aim net = record { vl = v; row = hv; one_sub_link = one; stream = s; stream_row_lem = h; on_vl = refl; span = a.span; attains = at } in
      subst (λ (z : ℕ). Reaches net s z) (queue_is net s) (reached net sound win aim)

  fits : NothingIsCutOff net
  unfolding queue_station queue_flows streams_on
  fits s h =
      let v = (stream_at net s).vl in
      let k = (stream_at net s).sublink in
      let listed = is_passing (λ z. eqb (stream_at net z).vl v && eqb (stream_at net z).sublink k) (length net.streams) s h
      (eq_both v v k k refl refl) in
      let c : (queue_flow net s).cost ≤ queue_station net v k = cost_covered (queue_flow net) s (queue_station net v k) (streams_on net v k) listed (queue_covers net sound busy v k 0) in
      omega (arith, c, gap_in_cost net sound s h)

pub demand_3_over_networks : Demand3OverNetworks
demand_3_over_networks net sound busy = record {
  no_later = later net sound busy;
  no_earlier = earlier net sound busy;
  no_longer = longer net sound busy;
  reached = reaches net sound busy;
  nothing_cut_off = fits net sound busy;
  runs = runs net;
  continues = continued net sound;
}

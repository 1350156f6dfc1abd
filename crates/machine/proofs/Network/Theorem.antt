-- In every permitted run each message is complete at each destination no later than `latest` and no earlier than `soonest` after its
-- release, and no packet waits longer than the queue figure.
-- Assumes nothing.
use Prim.Native.Nat.{ℕ, ◌+◌, ◌*◌, ◌-◌, ◌≤◌, ◌<◌}
use mathlib.Core.List.{Memᴰ}
use Rattle.std.specs.Prelude.{Option}
use mathlib.Core.Path.{◌≡◌, refl, sym, ap, subst}
use native.Mathlib.Nat.{mul-le-mul_right}
use native.Mathlib.Omega.{arith}
use lib.ListN.{length}
use Rattle.frame.specs.Packets.{packets}
use Rattle.network.specs.Network.{Network, vl_at, stream_at, hop_at}
use Rattle.rows.specs.Rows.{queue_of}
use Rattle.machine.specs.Messages.{Message, Packet, Frame, vl_of, packets_in, framed}
use Rattle.machine.specs.Machine.{Run}
use Rattle.machine.specs.Permitted.{Permitted}
use Rattle.machine.specs.Sound.{Sound}
use Rattle.machine.specs.Runs.{Complete, Hands, Waited}
use Rattle.machine.specs.OverNetworks.{SentTo}
use Rattle.machine.proofs.Network.Told.{arrival, good, packets_mono, packets_pos}
use Rattle.machine.proofs.Network.Trace.{hand}
use Rattle.machine.proofs.Network.Windows.{queue_station, queue_is, Windows, latest, soonest}
use Rattle.machine.proofs.Network.Arrivals.{reach_delay, reach_at}
use Rattle.machine.proofs.Network.Queues.{hand_over_lem, hand_fact, hand_vl, packets_length}
use Rattle.machine.proofs.Network.Ports.{done_delay}

module _ (net : Network) (sound : Sound net) (win : Windows net) (r : Run) (per : Permitted net r) where
  module _ (n t : ℕ) (m : Message) (h : ℕ) (to : SentTo net r n t m h) where
    abbrev v : ℕ
    v = (hop_at net h).vl

    abbrev hv : v < length net.vls
    hv = sound.references.hop_vl h to.row

    pub no_later : Complete net r m h (t + latest net win m.stream h)
    no_later k hk =
        let a = (reach_delay net sound r per).forward t m to.released in
        let o = hand_over_lem net sound r per v win hv a.at m k a.there (sym to.same_vl) hk in
        let w = hand_fact net sound r per v win hv o.at o.frame o.there in
        let d = (done_delay net sound r per win h to.row to.is_leaf).forward o.at o.frame o.there in
        let e = (reach_at net sound r per a.at m a.there).0 in
        let i₁ : arrival r o.frame.packet.message ≡ arrival r m = ap (arrival r) o.message in
        let i₂ : queue_station net v (stream_at net o.frame.packet.message.stream).sublink
        ≡ queue_station net (vl_of net m) (stream_at net m.stream).sublink =
        rw (o.message, to.same_vl) in
        let i₃ : (vl_at net v).gap ≡ (vl_at net (vl_of net m)).gap = rw to.same_vl in
        record {
          frame = o.frame;
          at = d.at;
          there = d.there;
          message = o.message;
          index = o.index;
          by_then = omega (arith, a.most, w.0, w.1.by_then, w.1.not_before, d.most);
        }

    pub no_earlier : (u : ℕ) → Complete net r m h u → t + soonest net win m.stream h ≤ u
    no_earlier u c =
        let g = good net r per t m to.released in
        let lm = (vl_at net (vl_of net m)).lmax in
        let l64 = sound.lmax_least (vl_of net m) (sound.references.stream_vl m.stream g.stream) in
        let size-pos : 0 < m.size = omega (arith, sound.least_size m.stream g.stream, g.least) in
        let len = packets_length net sound r per v 0 hv m g.stream size-pos in
        let pp = packets_pos lm m.size l64 size-pos in
        let pm = packets_mono lm (stream_at net m.stream).least m.size l64 g.least in
        let k : ℕ = length (packets_in net m) - 1 in
        let q = c k (omega arith) in
        let b = (done_delay net sound r per win h to.row to.is_leaf).backward q.at q.frame q.there in
        let w = hand_fact net sound r per v win hv b.at q.frame b.there in
        let i₁ : arrival r q.frame.packet.message ≡ arrival r m = ap (arrival r) q.message in
        let i₂ : q.frame.packet.index * (vl_at net v).gap ≡ k * (vl_at net (vl_of net m)).gap = rw (q.index, to.same_vl) in
        let i₃ = mul-le-mul_right {m = packets (stream_at net m.stream).least lm - 1} {n = k} (vl_at net (vl_of net m)).gap
        (omega arith) in
        let i₄ = ap (λ (z : ℕ). (r.choice z).send m) g.released in
        omega (arith, q.by_then, b.least, w.0, w.1.not_before, g.released, g.delay_least)

  -- a packet that is handed over waited at most the queue figure
  pub waits : (n v t : ℕ) (x : Packet) → Hands net r v t x → Waited net r n x t (queue_of net x.message.stream)
  waits n v t x e =
      let f : Frame = record { packet = x; vl = v; born = t } in
      let k : Memᴰ f (hand net r v t) = subst (λ (o : Option Packet). Memᴰ f (framed v t o)) (sym e) (mathlib.Core.List.Memᴰ.head refl) in
      let w = (hand_fact net sound r per v win (hand_vl net sound r per v t f k) t f k).1 in
      let i : ℕ = (stream_at net x.message.stream).sublink in
      let vl = w.origin.vl in
      record {
        came = arrival r x.message;
        reach = w.origin.reached;
        only = λ u h i. sym (reach_at net sound r per u x.message i).0;
        not_before = omega (arith, w.not_before);
        at_most = omega (
          arith,
          w.by_then,
          ap (λ (z : ℕ). (vl_at net z).gap) vl,
          ap (λ (z : ℕ). queue_station net z i) vl,
          queue_is net x.message.stream,
        );
      }

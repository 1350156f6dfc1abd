-- Ranges, good references and no late end system make a sound network; where 9 and 10 find nothing its busy lengths exist. Each from the plain facts, row by row; so an accepted table has both.
-- Assumes nothing.
use Prim.Native.Nat.{ℕ, ◌≤◌, ◌<◌}
use mathlib.Core.Bool.{false, not}
use mathlib.Core.List.{List}
use mathlib.Core.Logic.{⊎_elim}
use Rattle.std.specs.Prelude.{Option, None}
use mathlib.Core.Path.{◌≡◌, sym, ◌∙◌}
use native.Mathlib.Omega.{arith}
use borrow.Author.Tests.{not-false}
use lib.ListN.{length}
use Rattle.base.specs.Tests.{is_some, number_or0}
use Rattle.base.proofs.LeastLaws.{none_was}
use Rattle.base.proofs.TestLaws.{no_row_was, is_some_was}
use Rattle.frame.specs.Tick.{in_force, sends_in_time}
use Rattle.frame.proofs.TickLaws.{sends_in_time_was}
use Rattle.network.specs.Network.{Network, system_at, vl_at, stream_at, port_at, hop_at}
use Rattle.network.specs.Ranges.{SpeedRange, Ranges}
use Rattle.network.specs.ReferenceFacts.{References}
use Rattle.table.specs.Read.{network_in}
use Rattle.table.proofs.ReadLaws.{read_ranges, read_references}
use Rattle.rows.specs.Links.{send_sum}
use Rattle.rows.specs.Queues.{queue_length}
use Rattle.rows.specs.Ports.{port_length, jitter_of}
use Rattle.rows.specs.Refusals.{sends_late, late_system, endless_sub_link, endless_vl, endless, endless_port}
use Rattle.rows.proofs.TickLaws.{late_by_rules}
use Rattle.machine.specs.Sound.{Sound, Has, Busy}
use Rattle.answers.proofs.AcceptedLaws.{Accepts}

-- a byte takes a tick at least
takes_time : (per_byte : ℕ) → SpeedRange per_byte → 0 < per_byte
takes_time per_byte = ⊎_elim (λ e. omega arith) (λ e. omega arith)

-- a length that is there
has : (o : Option ℕ) → not (is_some o) ≡ false → Has o
has o e = record { length = number_or0 o; is = is_some_was o (not-false (is_some o) e) }

module _ (net : Network) where
  -- ---- 7
  in_time_lem : net.tick ≡ in_force → late_system net ≡ None → (e : ℕ) → e < length net.systems → send_sum net e ≤ 5750
  unfolding late_system
  in_time_lem rules none7 e h =
      sends_in_time_was (send_sum net e)
      (not-false (sends_in_time (send_sum net e)) (sym (late_by_rules net rules e) ∙ none_was (sends_late net) 0 (length net.systems) e none7 (omega arith) (omega arith)))

  sound : Ranges net → References net → late_system net ≡ None → Sound net
  sound ranges refs none7 = record {
    references = refs;
    send = ranges.send_least_lem;
    receive = ranges.receive_least_lem;
    system_speed = λ e h. takes_time (system_at net e).perbyte (ranges.system e h);
    gap = λ v h. omega (arith, (ranges.vl v h).gap_least);
    lmax_least = λ v h. (ranges.vl v h).lmax_least;
    lmax_greatest = λ v h. (ranges.vl v h).lmax_greatest;
    least_size = λ s h. (ranges.stream s h).least_size_least;
    size = λ s h. (ranges.stream s h).least_size_greatest;
    period = λ s h. omega (arith, (ranges.stream s h).period_least);
    port_speed = λ p h. takes_time (port_at net p).perbyte (ranges.port p h).per_byte_says;
    port_delay = λ p h. (ranges.port p h).delay_least;
    sends_in_a_gap = λ v h. omega (arith, in_time_lem ranges.in_force_says none7 (vl_at net v).system (refs.vl_system v h), (ranges.vl v h).gap_least);
  }

  -- ---- 9 and 10
  busy : References net → endless_vl net ≡ None → endless_port net ≡ None → Busy net
  unfolding endless_vl endless_sub_link endless_port endless
  busy refs none9 none10 = record {
    queue = λ s h.
        let v = (stream_at net s).vl in
        let k = (stream_at net s).sublink in
        let sub = no_row_was (endless_sub_link net) 0 (length net.vls) none9 v (omega arith) (omega (arith, refs.stream_vl s h)) in
        has (queue_length net v k)
        (none_was (λ k. not (is_some (queue_length net v k))) 0 (vl_at net v).sublinks k sub (omega arith) (omega (arith, refs.stream_sub_link s h)));
    port = λ h l.
        let p = (hop_at net h).port in
        has (port_length net (jitter_of net) p)
        (none_was (endless net) 0 (length net.ports) p none10 (omega arith) (omega (arith, refs.hop_port h l)));
  }

-- ---- the network of an accepted table
module _ (bytes : List ℕ) (room : ℕ) (was : Accepts bytes room) where
  pub accepted_references : References (network_in bytes)
  accepted_references = read_references bytes was.reads

  pub accepted_sound : Sound (network_in bytes)
  accepted_sound = sound (network_in bytes) (read_ranges bytes was.reads) accepted_references was.no_late_system

  pub accepted_busy : Busy (network_in bytes)
  accepted_busy = busy (network_in bytes) accepted_references was.no_endless_vl was.no_endless_port

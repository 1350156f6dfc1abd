-- Demand 3, proved: the statement is in specs/Demand3.antt. The network of accepted bytes is sound and its busy lengths exist, so the machine's theorem holds of it; each row has its figures.
-- Assumes nothing.
use Prim.Native.Nat.{ℕ, ◌<◌}
use mathlib.Core.List.{List, Memᴰ}
use mathlib.Core.Path.{◌≡◌, sym, ap, ◌∙◌}
use native.Mathlib.Omega.{arith}
use lib.ListN.{length}
use Rattle.network.specs.Network.{Network}
use Rattle.network.specs.ReferenceFacts.{References}
use Rattle.table.specs.Sections.{lent}
use Rattle.table.specs.Read.{network_in}
use Rattle.rows.specs.Rows.{queue_of, worst, best, rows_of}
use Rattle.answers.specs.Analysis.{joined}
use Rattle.machine.specs.Messages.{Message}
use Rattle.machine.specs.Machine.{Run, released}
use Rattle.machine.specs.OverNetworks.{SentTo}
use Rattle.machine.specs.OverNetworks as Machine
use Rattle.machine.proofs.OverNetworks.{demand_3_over_networks as machines}
use Rattle.order.specs.Demand3.{stream_in, hop_in, Holds, Demand3}
use Rattle.answers.proofs.AcceptedLaws.{accepted_was}
use Rattle.order.proofs.SoundLaws.{accepted_references, accepted_sound, accepted_busy}
use Rattle.order.proofs.RowLaws.{row_at, row_for, row_of_lem}
use Rattle.order.proofs.Demand2.{demand_2}

-- ---- of any network of which the machine's theorem holds, and the rows that were left for it
module _ (net : Network) (refs : References net) (machine : Machine.Holds net) (room : ℕ) (result : List ℕ) (rows_are : result ≡ lent room (joined (rows_of net))) where
  -- row i is of message m's stream, so its hop is a destination of the message
  sent : (run : Run) (n t : ℕ) (m : Message) → t < n → Memᴰ m (released run t) → (i : ℕ) → i < length (rows_of net) → stream_in result i ≡ m.stream
      → SentTo net run n t m (hop_in result i)
  sent run n t m l there i h e =
      let r = row_at net room result rows_are i h in
      record { running = l; released = there; row = r.hop_there; same_vl = rw (← e) r.same_vl; is_leaf = r.is_leaf }

  holds : Holds net (length (rows_of net)) result
  holds = record {
    no_later = λ run n per t m l there i h e enough.
        let w = (row_at net room result rows_are i h).worst_is ∙ ap (λ (s : ℕ). worst net s (hop_in result i)) e in
        rw w (machine.no_later run n per t m (hop_in result i) (sent run n t m l there i h e) (rw w at enough));
    no_earlier = λ run n per t m l there i h e u b done.
        let w = (row_at net room result rows_are i h).best_is ∙ ap (λ (s : ℕ). best net s (hop_in result i)) e in
        omega (arith, w, machine.no_earlier run n per t m (hop_in result i) (sent run n t m l there i h e) u b done);
    no_longer = λ run n per v t x l over i h e.
        let w = (row_at net room result rows_are i h).queue_is ∙ ap (queue_of net) e in
        rw w (machine.no_longer run n per v t x l over);
    reached = λ i h one.
        let r = row_at net room result rows_are i h in
        rw r.queue_is (machine.reached (stream_in result i) r.stream_there one);
    every_destination = row_for net room result rows_are;
    every_stream = row_of_lem net room result rows_are refs;
    runs = machine.runs;
    continues = machine.continues;
  }

pub demand_3 : Demand3
demand_3 bytes room r result a e =
    let net = network_in bytes in
    let was = accepted_was bytes room (sym a.answer_is ∙ e) in
    let rows = demand_2.figures bytes room r result a e in
    let machine = machines net (accepted_sound bytes room was) (accepted_busy bytes room was) in
    rw rows.count (holds net (accepted_references bytes room was) machine room result rows.rows)

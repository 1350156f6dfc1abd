-- What the writer and the unpacker leave for one another: a table that was written is the front of the lent bytes, and what is unpacked is in the lent lists.
-- Assumes nothing.
use Prim.Native.Nat.{ℕ, zero, suc, ◌*◌, ◌-◌, ◌≤◌, ◌<◌}
use mathlib.Core.Bool.{true}
use mathlib.Core.List.{List}
use mathlib.Core.Path.{◌≡◌, sym, ap, ◌∙◌}
use native.Mathlib.Omega.{arith}
use borrow.Author.Tests.{eq-eqb}
use lib.Dec.{eqb}
use lib.ListN.{length, get_or, take, replicate}
use lib.Seq.{take_at}
use Rattle.base.specs.Tabulate.{tabulate}
use Rattle.base.proofs.TabulateLaws.{tabulate_at}
use Rattle.bits.specs.Bits.{Bytes}
use Rattle.layout.specs.Rows.{listed}
use Rattle.table.specs.declared.Answer.{Answer}
use Rattle.table.specs.Answers.{accepted}
use Rattle.table.specs.Sections.{rows, lent}
use Rattle.table.specs.Unpack.{Unpacked, unpack_answer, unpacks, left, counted, Unpacks}
use Rattle.table.specs.Lists.{Lists, lists_by, list_for, unpacked}
use Rattle.table.specs.Write.{Written, packed, write_answer, writes, Writes}
use Rattle.table.specs.RoundTrip.{RoomFor}
use Rattle.table.proofs.ListsLaws.{list_by, lists_same}
use Rattle.table.proofs.UnpackLaws.{list_is, length_list, length_header}
use Rattle.table.proofs.RoundTrip.{unpack_after_write, write_after_unpack}
use Rattle.table.proofs.WriteLaws.{length_packed}
use Rattle.order.specs.Demand2.{in_hand, fronts, UnpackedTo, WrittenTo}

-- an answer of 0 accepts
yes_of : (a b : Answer) → a ≡ b → a ≡ accepted → eqb b.number 0 ≡ true
yes_of a b e h = eq-eqb b.number 0 (ap (λ (x : Answer). x.number) (sym e ∙ h))

-- ---- the lent lists hold what is unpacked, and the counts say how far
taken_front : (xs list : List ℕ) (n k : ℕ) → length xs ≡ k → list ≡ lent n xs → take k list ≡ xs
unfolding lent
taken_front xs list n k long e = ap (take k) e ∙ take_at xs (replicate (n - length xs) 0) k long

long_in_hand : (bytes : List ℕ) (u : Unpacked) → counted u ≡ tabulate (λ s. rows bytes (suc s)) 5
    → (s : ℕ) → s < 6 → length (list_for (unpacked bytes) s) ≡ in_hand u s
unfolding in_hand
long_in_hand bytes u e zero h = ap length (list_is bytes 0 h) ∙ length_header bytes
long_in_hand bytes u e (suc s) h =
    let count = ap (λ (l : List ℕ). get_or l s 0) e ∙ tabulate_at (λ s. rows bytes (suc s)) 5 s 0 (omega arith) in
    length_list bytes s h ∙ ap (λ (n : ℕ). n * listed (suc s)) (sym count)

pub unpacked_is : (bytes : List ℕ) (before : Lists) (u : Unpacked) (after : Lists) → Unpacks bytes before u after → u.answer ≡ accepted
    → UnpackedTo (unpacked bytes) before u after
unfolding unpacks left fronts
unpacked_is bytes before u after a e =
    let yes : unpacks bytes before ≡ true = yes_of u.answer (unpack_answer bytes before) a.answer e in
    let held : (s : ℕ) → list_for after s ≡ lent (length (list_for before s)) (list_for (unpacked bytes) s) = λ s. a.held s ∙ rw yes in
    let long = long_in_hand bytes u (a.counts ∙ rw yes) in
    let front : (s : ℕ) → s < 6 → take (in_hand u s) (list_for after s) ≡ list_for (unpacked bytes) s =
    λ s h. taken_front (list_for (unpacked bytes) s) (list_for after s) (length (list_for before s)) (in_hand u s) (long s h) (held s) in
    let list : ℕ → List ℕ = λ s. take (in_hand u s) (list_for after s) in
    record { answer = e; same_lists = lists_same (lists_by list) (unpacked bytes) (λ s h. list_by list s h ∙ front s h); hold = held }

-- ---- the lent bytes hold what is written, and the length says how far
pub record Left (ls : Lists) (room : ℕ) (w : Written) (out : List ℕ) : Type 0 where
  pub size : w.length ≡ length (packed ls)
  pub whole : out ≡ lent room (packed ls)

pub left_written : (ls : Lists) (room : ℕ) (w : Written) (out : List ℕ) → Writes ls room w out → w.answer ≡ accepted → Left ls room w out
unfolding writes
left_written ls room w out a e =
    let yes : writes ls room ≡ true = yes_of w.answer (write_answer ls room) a.answer e in
    record { size = (a.length_is ∙ rw yes) ∙ sym (length_packed ls); whole = a.out_left ∙ rw yes }

pub written_front : (ls : Lists) (room : ℕ) (w : Written) (out : List ℕ) → Left ls room w out → take w.length out ≡ packed ls
written_front ls room w out l = taken_front (packed ls) out room w.length (sym l.size) l.whole

-- ---- one after the other
pub written_then_unpacked : (ls : Lists) (room : ℕ) (w : Written) (out : List ℕ) → Writes ls room w out → w.answer ≡ accepted
    → (before : Lists) → RoomFor ls before → (u : Unpacked) (after : Lists) → Unpacks (take w.length out) before u after
    → UnpackedTo ls before u after
written_then_unpacked ls room w out a e before long u after b =
    let front = written_front ls room w out (left_written ls room w out a e) in
    let back = unpack_after_write ls room (sym a.answer ∙ e) before long in
    let said = b.answer ∙ ap (λ (bytes : List ℕ). unpack_answer bytes before) front ∙ back.0 in
    rw (front, back.1) at (unpacked_is (take w.length out) before u after b said)

pub unpacked_then_written : (bytes : List ℕ) → Bytes bytes → (before : Lists) (u : Unpacked) (after : Lists) → Unpacks bytes before u after
    → u.answer ≡ accepted → (room : ℕ) → length bytes ≤ room → (w : Written) (out : List ℕ) → Writes (fronts u after) room w out
    → WrittenTo bytes room w out
unpacked_then_written bytes b before u after a e room long w out c =
    let lists = (unpacked_is bytes before u after a e).same_lists in
    let back = write_after_unpack bytes before b (sym a.answer ∙ e) room long in
    let wrote : Writes (unpacked bytes) room w out = rw lists at c in
    let said = wrote.answer ∙ back.0 in
    let l = left_written (unpacked bytes) room w out wrote said in
    record {
      answer = said;
      same_length = l.size ∙ ap length back.1;
      same_bytes = written_front (unpacked bytes) room w out l ∙ back.1;
      hold = l.whole ∙ ap (lent room) back.1;
    }

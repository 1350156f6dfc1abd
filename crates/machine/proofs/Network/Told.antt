-- The messages of a tick's releases, what is known of each in a permitted run, and the packets of a message, by number.
-- Assumes nothing.
use Prim.Native.Nat.{ℕ, zero, suc, ◌+◌, ◌≤◌, ◌<◌}
use mathlib.Core.List.Memᴰ
use mathlib.Core.List.{List, [], ◌∷◌, ◌++◌, Memᴰ}
use mathlib.Core.Logic.{⊎_elim}
use mathlib.Core.Path.{◌∙◌, ◌≡◌, refl, sym, ap, subst}
use native.Mathlib.Nat.{add-zero, le_refl}
use native.Mathlib.Omega.{arith}
use lib.ListN.{length, get_or}
use Rattle.base.specs.Tabulate.{total}
use Rattle.frame.specs.Frame.{protocol_overhead}
use Rattle.frame.specs.Packets.{packet_lines, packets}
use Rattle.frame.proofs.FrameLaws.{protocol_overhead_is}
use Rattle.frame.proofs.PacketLaws.{packets_grow, packets_some, packet_lines_length}
use Rattle.network.specs.Network.{Network, stream_at}
use Rattle.machine.specs.Sum.{weigh}
use Rattle.machine.specs.Messages.{Message, Packet, number, Release, messages}
use Rattle.machine.specs.Machine.{Run, released}
use Rattle.machine.specs.Permitted.{Permitted}
use Rattle.machine.specs.OverNetworks.{ToldApart}

-- ---- the messages of a tick
-- a message is the message of a release of its tick
pub record Told (t i : ℕ) (xs : List Release) (m : Message) : Type 0 where
  pub release : Release
  pub there : Memᴰ release xs
  pub stream : release.stream ≡ m.stream
  pub size : release.size ≡ m.size
  pub released : m.released ≡ t
  pub place : i ≤ m.place

pub was_message : (t i : ℕ) (xs : List Release) (m : Message) → Memᴰ m (messages t i xs) → Told t i xs m
was_message t i [] m k = absurd (Memᴰ.not-nil k)
was_message t i (x ∷ xs) m k = ⊎_elim
    (λ e. record {
      release = x;
      there = Memᴰ.head refl;
      stream = ap (λ (z : Message). z.stream) (sym e);
      size = ap (λ (z : Message). z.size) (sym e);
      released = ap (λ (z : Message). z.released) e;
      place = omega (arith, ap (λ (z : Message). z.place) e);
    })
    (λ j. let w = was_message t (suc i) xs m j in
    record { release = w.release; there = Memᴰ.tail w.there; stream = w.stream; size = w.size; released = w.released; place = omega (arith, w.place) })
    (Memᴰ.cases_cons k)

-- the tick at which a message reaches its queue
abbrev pub arrival : Run → Message → ℕ
arrival r m = m.released + (r.choice m.released).send m

-- a message of tick t
pub record Good (net : Network) (r : Run) (t : ℕ) (m : Message) : Type 0 where
  pub stream : m.stream < length net.streams
  pub released : m.released ≡ t
  pub least : (stream_at net m.stream).least ≤ m.size
  pub most : m.size ≤ (stream_at net m.stream).size
  pub delay_least : net.send_least ≤ (r.choice t).send m

pub good : (net : Network) (r : Run) → Permitted net r → (t : ℕ) (m : Message) → Memᴰ m (released r t) → Good net r t m
good net r per t m k =
    let w = was_message t 0 (r.releases t) m k in
    let z = (per (suc t)).sized t w.release (le_refl (suc t)) w.there in
    record {
      stream = rw w.stream at z.stream;
      released = w.released;
      least = rw (w.stream, w.size) at z.least;
      most = rw (w.stream, w.size) at z.greatest;
      delay_least = (per (suc t)).send_least_lem t m (le_refl (suc t)) k;
    }

-- each release has its message
pub message_of : (t i : ℕ) (xs : List Release) (x : Release) → Memᴰ x xs
    → (m : Message) × Memᴰ m (messages t i xs) × (m.stream ≡ x.stream)
message_of t i [] x x3 = elim x3 [ ]
message_of t i (y ∷ xs) x (Memᴰ.head e) =
    (record { released = t; place = i; stream = y.stream; size = y.size }, Memᴰ.head refl, ap (λ (z : Release). z.stream) (sym e))
message_of t i (y ∷ xs) x (Memᴰ.tail m) = let w = message_of t (suc i) xs x m in (w.0, Memᴰ.tail w.1, w.2)

-- the message at place k says so
pub message_at : (t i k : ℕ) (xs : List Release) (d : Message) → k < length xs → ((get_or (messages t i xs) k d).released ≡ t) × ((get_or (messages t i xs) k d).place ≡ i + k)
message_at t i k [] d h = absurd (omega arith)
message_at t i zero (x ∷ xs) d h = (refl, omega arith)
message_at t i (suc k) (x ∷ xs) d h = let w = message_at t (suc i) k xs d (omega arith) in (w.0, omega (arith, w.1))

pub told_apart : ToldApart
told_apart t u i k xs ys d a b e =
    let m = message_at t 0 i xs d a in
    let n = message_at u 0 k ys d b in
    (sym m.0 ∙ ap (λ (z : Message). z.released) e ∙ n.0, omega (arith, m.1, n.1, ap (λ (z : Message). z.place) e))

-- the messages of a tick weigh what its releases weigh
pub weigh_messages : (f : Message → ℕ) (g : Release → ℕ) → ((t i : ℕ) (x : Release) → f (record { released = t; place = i; stream = x.stream; size = x.size }) ≡ g x)
    → (t i : ℕ) (xs : List Release) → weigh f (messages t i xs) ≡ weigh g xs
unfolding total
weigh_messages f g same t i [] = refl
weigh_messages f g same t i (x ∷ xs) = omega (arith, same t i x, weigh_messages f g same t (suc i) xs)

-- ---- the packets of a message
wide : (lmax : ℕ) → 64 ≤ lmax → protocol_overhead < lmax
wide lmax h = omega (arith, protocol_overhead_is)

pub packets_mono : (lmax a b : ℕ) → 64 ≤ lmax → a ≤ b → packets a lmax ≤ packets b lmax
packets_mono lmax a b h k = packets_grow a lmax (wide lmax h) b k

pub packets_pos : (lmax size : ℕ) → 64 ≤ lmax → 0 < size → 1 ≤ packets size lmax
packets_pos lmax size h k = packets_some size lmax (wide lmax h) k

pub length_lines : (lmax size : ℕ) → 64 ≤ lmax → 0 < size → length (packet_lines size lmax) ≡ packets size lmax
length_lines lmax size h k = packet_lines_length size lmax (wide lmax h) k

-- ---- numbered packets
pub length_number : (m : Message) (i : ℕ) (bs : List ℕ) → length (number m i bs) ≡ length bs
length_number m i [] = refl
length_number m i (b ∷ bs) = ap suc (length_number m (suc i) bs)

pub record Numbered (m : Message) (i : ℕ) (bs : List ℕ) (x : Packet) : Type 0 where
  pub message : x.message ≡ m
  pub least : i ≤ x.index
  pub most : x.index < i + length bs
  pub bytes : Memᴰ x.bytes bs

pub was_number : (m : Message) (i : ℕ) (bs : List ℕ) (x : Packet) → Memᴰ x (number m i bs) → Numbered m i bs x
was_number m i [] x k = absurd (Memᴰ.not-nil k)
was_number m i (b ∷ bs) x k = ⊎_elim
    (λ e. record {
      message = ap (λ (z : Packet). z.message) e;
      least = omega (arith, ap (λ (z : Packet). z.index) e);
      most = omega (arith, ap (λ (z : Packet). z.index) e);
      bytes = Memᴰ.head (ap (λ (z : Packet). z.bytes) e);
    })
    (λ j. let r = was_number m (suc i) bs x j in record { message = r.message; least = omega (arith, r.least); most = omega (arith, r.most); bytes = Memᴰ.tail r.bytes })
    (Memᴰ.cases_cons k)

pub is_number : (m : Message) (i : ℕ) (bs : List ℕ) (k : ℕ) → k < length bs → (b : ℕ) × Memᴰ (record { message = m; index = i + k; bytes = b }) (number m i bs)
is_number m i [] k h = absurd (omega arith)
is_number m i (b ∷ bs) zero h = (b, let e : i + 0 ≡ i = add-zero i in Memᴰ.head (ap (λ (n : ℕ). record { message = m; index = n; bytes = b }) e))
is_number m i (b ∷ bs) (suc k) h =
    let r = is_number m (suc i) bs k (omega arith) in
    (r.0, Memᴰ.tail (subst (λ (n : ℕ). Memᴰ (record { message = m; index = n; bytes = r.0 }) (number m (suc i) bs)) (omega arith) r.1))

-- the last of numbered packets
pub number_last : (m : Message) (b : ℕ) (bs : List ℕ) (i : ℕ) → number m i (bs ++ (b ∷ [])) ≡ number m i bs ++ (record { message = m; index = i + length bs; bytes = b } ∷ [])
number_last m b [] i = let e : i ≡ i + 0 = omega arith in ap (λ (n : ℕ). record { message = m; index = n; bytes = b } ∷ []) e
number_last m b (x ∷ bs) i =
    let e : suc i + length bs ≡ i + suc (length bs) = omega arith in
    ap (λ (l : List Packet). record { message = m; index = i; bytes = x } ∷ l)
    (number_last m b bs (suc i) ∙ ap (λ (n : ℕ). number m (suc i) bs ++ (record { message = m; index = n; bytes = b } ∷ [])) e)

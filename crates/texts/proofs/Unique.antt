-- Each public contract settles its answer, and that of the packing what the bytes hold: two results that both satisfy it are equal.
-- Assumes nothing.
use mathlib.Core.Path.{◌≡◌, refl, sym, ap, ◌∙◌}
use mathlib.Core.List.{List}
use Prim.Native.Nat.{ℕ}
use Rattle.std.specs.Prelude.{Result, Ok, Err}
use Rattle.std.proofs.lemmas.Option.{same_Some, none-some}
use Rattle.base.specs.Settles.{Settles}
use Rattle.table.specs.declared.Refusal.{Refusal}
use Rattle.table.specs.Lists.{Lists}
use Rattle.table.specs.Write.{Writes, written_by}
use Rattle.table.proofs.RefusalLaws.{written_settles}
use Rattle.parser.specs.declared.mistakes.Mistake.{Mistake}
use Rattle.texts.specs.declared.PackError.{PackError}
use Rattle.texts.specs.declared.PackError.TheVariants.{Mistaken, Refused}
use Rattle.texts.specs.Packing.{PacksTo}
use Rattle.texts.proofs.pack.Kinds as pack-kinds
use Rattle.texts.proofs.pack.Reads as pack-reads
use Rattle.texts.proofs.PackErrorFromMistake.from.Kinds as mistake-kinds
use Rattle.texts.proofs.PackErrorFromMistake.from.Reads as mistake-reads
use Rattle.texts.proofs.PackErrorFromRefusal.from.Kinds as refusal-kinds
use Rattle.texts.proofs.PackErrorFromRefusal.from.Reads as refusal-reads

-- what is written for one list settles both answers
written_same : (ls : Lists) (room : ℕ) (x y : Result ℕ Refusal) (a c : List ℕ) → Writes ls room (written_by x) a → Writes ls room (written_by y) c
    → (x ≡ y) × (a ≡ c)
written_same ls room x y a c p q = (
  written_settles x y (λ i. record { answer = (p.answer ∙ sym q.answer) i; length = (p.length_is ∙ sym q.length_is) i }),
  p.out_left ∙ sym q.out_left,
)

-- the answer of a text without a mistake is the writer's
of_write : Result ℕ Refusal → Result ℕ PackError
of_write (Ok n) = Ok n
of_write (Err r) = Err (Refused r)

packs_settles : (text before : List ℕ) (x y : Result ℕ PackError) (a c : List ℕ) → PacksTo text before x a → PacksTo text before y c → (x ≡ y) × (a ≡ c)
unfolding PacksTo of_write
packs_settles text before (Err (Mistaken m)) (Err (Mistaken k)) a c p q =
    (ap (λ (m : Mistake). Err (Mistaken m)) (same_Some m k (sym p.0 ∙ q.0)), p.1 ∙ sym q.1)
packs_settles text before (Err (Mistaken m)) (Err (Refused s)) a c p q = absurd (none-some m (sym q.0 ∙ p.0))
packs_settles text before (Err (Mistaken m)) (Ok k) a c p q = absurd (none-some m (sym q.0 ∙ p.0))
packs_settles text before (Err (Refused r)) (Err (Mistaken k)) a c p q = absurd (none-some k (sym p.0 ∙ q.0))
packs_settles text before (Ok n) (Err (Mistaken k)) a c p q = absurd (none-some k (sym p.0 ∙ q.0))
packs_settles text before (Err (Refused r)) (Err (Refused s)) a c p q =
    let e = written_same _ _ (Err r) (Err s) a c p.1 q.1 in (ap of_write e.0, e.1)
packs_settles text before (Err (Refused r)) (Ok k) a c p q = let e = written_same _ _ (Err r) (Ok k) a c p.1 q.1 in (ap of_write e.0, e.1)
packs_settles text before (Ok n) (Err (Refused s)) a c p q = let e = written_same _ _ (Ok n) (Err s) a c p.1 q.1 in (ap of_write e.0, e.1)
packs_settles text before (Ok n) (Ok k) a c p q = let e = written_same _ _ (Ok n) (Ok k) a c p.1 q.1 in (ap of_write e.0, e.1)

pub pack_settles : Settles 2 pack-kinds.ps pack-kinds.r pack-reads.Post
pack_settles κs a x y ws vs p q =
    let e = packs_settles _ _ x y _ _ p q in (e.0, λ i. (tt, (e.1 i, tt)))

-- ---- the two errors that a packing hands on
pub from_mistake_settles : Settles 0 mistake-kinds.ps mistake-kinds.r mistake-reads.Post
from_mistake_settles κs a x y ws vs p q = (p ∙ sym q, refl)

pub from_refusal_settles : Settles 0 refusal-kinds.ps refusal-kinds.r refusal-reads.Post
from_refusal_settles κs a x y ws vs p q = (p ∙ sym q, refl)

-- A refusal is told by its answer, and no refusal is an acceptance: so what a routine says settles what it answers.
-- Assumes nothing.
use Prim.Native.Nat.{ℕ, ◌<◌}
use mathlib.Core.List.{[], ◌∷◌}
use mathlib.Core.Path.{◌≡◌, refl, sym, ap, ◌∙◌}
use lib.Dec.{eqb}
use lib.ListN.{get_or}
use native.Mathlib.Omega.{arith}
use Rattle.std.specs.Prelude.{Result, Ok, Err}
use Rattle.base.specs.Pick.{pick}
use Rattle.table.specs.declared.Answer.{Answer}
use Rattle.table.specs.declared.Counts.{Counts}
use Rattle.table.specs.declared.Refusal.{Refusal}
use Rattle.table.specs.declared.Refusal.TheVariants.{TooShort, Header, WrongLength, Record, Reference, Sample, LateSystem, TooManyRows, ResultTooShort, EndlessQueue, EndlessPort, NoRoom}
use Rattle.table.specs.Answers.{accepted}
use Rattle.table.specs.Refusals.{answer_of, said}
use Rattle.table.specs.Unpack.{Unpacked, unpacked_by}
use Rattle.table.specs.Write.{Written, written_by}

-- the refusal of an answer
refusal_for : Answer → Refusal
refusal_for a = get_or
    (TooShort
    ∷ TooShort
    ∷ Header a.test
    ∷ WrongLength
    ∷ Record a.section a.row a.test
    ∷ Reference a.section a.row a.test
    ∷ Sample a.row
    ∷ LateSystem a.row
    ∷ pick (eqb a.test 0) TooManyRows ResultTooShort
    ∷ EndlessQueue a.row
    ∷ EndlessPort a.row
    ∷ [])
    a.number
    NoRoom

told_again : (r : Refusal) → refusal_for (answer_of r) ≡ r
unfolding answer_of refusal_for
told_again TooShort = refl
told_again (Header test) = refl
told_again WrongLength = refl
told_again (Record section row test) = refl
told_again (Reference section row test) = refl
told_again (Sample row) = refl
told_again (LateSystem row) = refl
told_again TooManyRows = refl
told_again ResultTooShort = refl
told_again (EndlessQueue row) = refl
told_again (EndlessPort row) = refl
told_again NoRoom = refl

pub answer_settles : (r s : Refusal) → answer_of r ≡ answer_of s → r ≡ s
answer_settles r s e = sym (told_again r) ∙ ap refusal_for e ∙ told_again s

-- no refusal has the number of an acceptance
pub refused_number : (r : Refusal) → 0 < (answer_of r).number
unfolding answer_of
refused_number TooShort = omega arith
refused_number (Header test) = omega arith
refused_number WrongLength = omega arith
refused_number (Record section row test) = omega arith
refused_number (Reference section row test) = omega arith
refused_number (Sample row) = omega arith
refused_number (LateSystem row) = omega arith
refused_number TooManyRows = omega arith
refused_number ResultTooShort = omega arith
refused_number (EndlessQueue row) = omega arith
refused_number (EndlessPort row) = omega arith
refused_number NoRoom = omega arith

pub not_accepted : (r : Refusal) → answer_of r ≡ accepted → ⊥
not_accepted r e = absurd (omega (arith, refused_number r, ap (λ (a : Answer). a.number) e))

-- ---- what is said of a result settles it, where nothing is handed out
pub said_settles : (x y : Result Unit Refusal) → said x ≡ said y → x ≡ y
unfolding said
said_settles (Ok u) (Ok v) e = refl
said_settles (Ok u) (Err s) e = absurd (not_accepted s (sym e))
said_settles (Err r) (Ok v) e = absurd (not_accepted r e)
said_settles (Err r) (Err s) e = ap Err (answer_settles r s e)

-- ---- the same of the unpacker's and the writer's
pub unpacked_settles : (x y : Result Counts Refusal) → unpacked_by x ≡ unpacked_by y → x ≡ y
unfolding unpacked_by
unpacked_settles (Ok m) (Ok n) e = ap (λ (u : Unpacked). Ok (record { systems = u.systems; vls = u.vls; streams = u.streams; ports = u.ports; hops = u.hops })) e
unpacked_settles (Ok m) (Err s) e = absurd (not_accepted s (sym (ap (λ (u : Unpacked). u.answer) e)))
unpacked_settles (Err r) (Ok n) e = absurd (not_accepted r (ap (λ (u : Unpacked). u.answer) e))
unpacked_settles (Err r) (Err s) e = ap Err (answer_settles r s (ap (λ (u : Unpacked). u.answer) e))

pub written_settles : (x y : Result ℕ Refusal) → written_by x ≡ written_by y → x ≡ y
unfolding written_by
written_settles (Ok m) (Ok n) e = ap (λ (w : Written). Ok w.length) e
written_settles (Ok m) (Err s) e = absurd (not_accepted s (sym (ap (λ (w : Written). w.answer) e)))
written_settles (Err r) (Ok n) e = absurd (not_accepted r (ap (λ (w : Written). w.answer) e))
written_settles (Err r) (Err s) e = ap Err (answer_settles r s (ap (λ (w : Written). w.answer) e))

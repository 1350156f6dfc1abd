-- The first of several refusals, in their order: what is given refuses, since it has a number; so acceptance means that none is given, and a list of refusals may be cut anywhere.
-- And when a refusal that goes by a test, or by a row that was looked for, is given. Assumes nothing.
use Prim.Native.Nat.{ℕ, ◌<◌}
use mathlib.Core.Bool.{Bool, true, false}
use mathlib.Core.List.{List, [], ◌∷◌, ◌++◌}
use Rattle.std.specs.Prelude.{Option, None, Some}
use Rattle.std.proofs.lemmas.Option.{none-some}
use mathlib.Core.Path.{◌≡◌, refl, ap, sym}
use native.Mathlib.Omega.{arith}
use Rattle.base.specs.Pick.{pick}
use Rattle.table.specs.declared.Answer.{Answer}
use Rattle.table.specs.Answers.{accepted, first_given}

-- ---- what is given has a number
abbrev pub Refuses : Option Answer → Type 0
Refuses None = Unit {0}
Refuses (Some a) = 0 < a.number

abbrev pub Refuse : List (Option Answer) → Type 0
Refuse [] = Unit {0}
Refuse (o ∷ os) = Refuses o × Refuse os

pub refuse_both : (os ps : List (Option Answer)) → Refuse os → Refuse ps → Refuse (os ++ ps)
refuse_both [] ps h l = l
refuse_both (o ∷ os) ps h l = (h.0, refuse_both os ps h.1 l)

-- none of them is given
abbrev pub NoneGiven : List (Option Answer) → Type 0
NoneGiven [] = Unit {0}
NoneGiven (o ∷ os) = (o ≡ None) × NoneGiven os

pub none_given : (os : List (Option Answer)) → Refuse os → (first_given os).number ≡ 0 → NoneGiven os
unfolding first_given
none_given [] h e = tt
none_given (None ∷ os) h e = (refl, none_given os h.1 e)
none_given (Some a ∷ os) h e = absurd (omega (arith, h.0))

-- ---- refusals, and what stands behind them
-- where none of them is given, the first behind them is
pub first_behind : (os ps : List (Option Answer)) → NoneGiven os → first_given (os ++ ps) ≡ first_given ps
unfolding first_given
first_behind [] ps h = refl
first_behind (o ∷ os) ps h = rw h.0 (first_behind os ps h.1)

pub none_accepts : (os : List (Option Answer)) → NoneGiven os → first_given os ≡ accepted
unfolding first_given
none_accepts [] h = refl
none_accepts (o ∷ os) h = rw h.0 (none_accepts os h.1)

-- the one behind them is given
pub first_is : (os : List (Option Answer)) (o : Option Answer) (ps : List (Option Answer)) (a : Answer) → NoneGiven os → o ≡ Some a → first_given (os ++ (o ∷ ps)) ≡ a
unfolding first_given
first_is [] o ps a h e = rw e
first_is (p ∷ os) o ps a h e = rw h.0 (first_is os o ps a h.1 e)

-- a refusal stays, whatever stands behind it
pub first_stays : (os ps : List (Option Answer)) → 0 < (first_given os).number → first_given (os ++ ps) ≡ first_given os
unfolding first_given
first_stays [] ps h = absurd (omega arith)
first_stays (None ∷ os) ps h = first_stays os ps h
first_stays (Some a ∷ os) ps h = refl

-- acceptance of all is acceptance of the front, whatever it holds, and of what stands behind refusals
pub accepted_front : (os ps : List (Option Answer)) → first_given (os ++ ps) ≡ accepted → first_given os ≡ accepted
unfolding first_given
accepted_front [] ps e = refl
accepted_front (None ∷ os) ps e = accepted_front os ps e
accepted_front (Some a ∷ os) ps e = e

pub accepted_behind : (os ps : List (Option Answer)) → Refuse os → first_given (os ++ ps) ≡ accepted → first_given ps ≡ accepted
unfolding first_given
accepted_behind [] ps h e = e
accepted_behind (None ∷ os) ps h e = accepted_behind os ps h.1 e
accepted_behind (Some a ∷ os) ps h e = absurd (omega (arith, h.0, ap (λ (x : Answer). x.number) e))

-- ---- a refusal by a test
pub pick_refuses : (t : Bool) (a : Answer) (o : Option Answer) → 0 < a.number → Refuses o → Refuses (pick t (Some a) o) × Refuses (pick t o (Some a))
pick_refuses true a o h r = (h, r)
pick_refuses false a o h r = (r, h)

pub not_picked : (t : Bool) (a : Answer) (o : Option Answer) → pick t (Some a) o ≡ None → (t ≡ false) × (o ≡ None)
not_picked true a o e = absurd (none-some a (sym e))
not_picked false a o e = (refl, e)

pub picked_none : (t : Bool) (a : Answer) (o : Option Answer) → pick t o (Some a) ≡ None → (t ≡ true) × (o ≡ None)
picked_none true a o e = (refl, e)
picked_none false a o e = absurd (none-some a (sym e))

-- ---- a refusal by a row
pub row_refuses : (o : Option ℕ) (f : ℕ → Answer) → ((n : ℕ) → 0 < (f n).number) → Refuses (elim o [ None ↦ None | Some n ↦ Some (f n) ])
row_refuses None f h = tt
row_refuses (Some n) f h = h n

pub no_row_given : (o : Option ℕ) (f : ℕ → Answer) → ◌≡◌ {A = Option Answer} (elim o [ None ↦ None | Some n ↦ Some (f n) ]) None → o ≡ None
no_row_given None f e = refl
no_row_given (Some n) f e = absurd (none-some (f n) (sym e))

-- What the station's answer says of flows that it takes: their figure, or that they have no busy length.
-- Assumes nothing.
use Prim.Native.Nat.{ℕ, ◌-◌}
use mathlib.Core.Bool.{true, false}
use mathlib.Core.List.{List}
use mathlib.Core.Path.{◌≡◌, refl, ap, ◌∙◌}
use native.Mathlib.Omega.{arith}
use lib.ListN.{get_or}
use Rattle.std.specs.Prelude.{Option, None, Some, Ok, Err}
use Rattle.base.specs.Said.{Said}
use Rattle.base.specs.Tests.{is_some, number_or0}
use Rattle.station.specs.declared.Busy.{Busy}
use Rattle.station.specs.declared.Refusal.{Refusal}
use Rattle.station.specs.declared.Refusal.TheVariants.{OutOfRange, Endless}
use Rattle.station.specs.Station.{Flow, busy_length, figure}
use Rattle.station.specs.Offered.{offered, served_says, station_says}
use Rattle.station.specs.Answer.{said}
use Rattle.figures.specs.Gathering.{if_busy, figure_in}

-- ---- a figure where there is a busy length
pub busy_given : (o : Option ℕ) (f g : ℕ) → Some g ≡ if_busy o f → (is_some o ≡ true) × (g ≡ f)
unfolding if_busy is_some
busy_given None f g e = (cc)
busy_given (Some l) f g e = (refl, cc)

pub busy_none : (o : Option ℕ) (f : ℕ) → None ≡ if_busy o f → is_some o ≡ false
unfolding if_busy is_some
busy_none None f e = refl
busy_none (Some l) f e = (cc)

-- the same number less from both
pub given_less : (o : Option ℕ) (f r n : ℕ) → Some r ≡ if_busy o f → Some (r - n) ≡ if_busy o (f - n)
unfolding if_busy
given_less None f r n e = cc
given_less (Some l) f r n e = let same : r ≡ f = cc in ap (λ (x : ℕ). Some (x - n)) same

pub none_less : (o : Option ℕ) (f n : ℕ) → None ≡ if_busy o f → None ≡ if_busy o (f - n)
unfolding if_busy
none_less None f n e = refl
none_less (Some l) f n e = cc

-- ---- the station's answer
module _ (fs : List Flow) (ok : offered fs ≡ true) where
  says : station_says fs ≡ served_says fs (busy_length fs)
  unfolding station_says
  says = rw ok

  pub figure_served : (b : Busy) → said (Ok b) ≡ station_says fs → Some b.figure ≡ figure_in fs
  unfolding said served_says figure_in if_busy number_or0
  figure_served b e = go (busy_length fs) (e ∙ says)
    where
      go : (o : Option ℕ) → said (Ok b) ≡ served_says fs o → Some b.figure ≡ if_busy o (figure fs (number_or0 o))
      go None h = absurd (omega (arith, ap (λ (s : Said). s.number) h))
      go (Some l) h = ap Some (ap (λ (s : Said). get_or s.values 1 0) h)

  pub figure_refused : (r : Refusal) → said (Err r) ≡ station_says fs → None ≡ figure_in fs
  unfolding said served_says figure_in if_busy
  figure_refused r e = go r (busy_length fs) (e ∙ says)
    where
      go : (r : Refusal) (o : Option ℕ) → said (Err r) ≡ served_says fs o → None ≡ if_busy o (figure fs (number_or0 o))
      go OutOfRange None h = absurd (omega (arith, ap (λ (s : Said). s.number) h))
      go OutOfRange (Some l) h = absurd (omega (arith, ap (λ (s : Said). s.number) h))
      go Endless None h = refl
      go Endless (Some l) h = absurd (omega (arith, ap (λ (s : Said). s.number) h))

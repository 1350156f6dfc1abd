-- What the station says of a flat list of numbers, case by case.
-- Assumes nothing.
use Prim.Native.Nat.{ℕ, ◌/◌, ◌%◌}
use mathlib.Core.List.{List, [], ◌∷◌}
use mathlib.Core.Path.{◌≡◌, ◌∙◌}
use native.Mathlib.Nat.{div-mul-le_self}
use lib.ListN.{length}
use borrow.Author.Tests.{eq-eqb, ne_eqb}
use Rattle.base.specs.Said.{refused}
use Rattle.station.specs.Flat.{first_says}
use Rattle.station.proofs.FlatLaws.{first_long}
use Rattle.endsystem.specs.Flat.{flat_says}

module _ (numbers : List ℕ) where
  pub uneven : (length numbers % 3 ≡ 0 → ⊥) → flat_says numbers ≡ refused 4 (0 ∷ 0 ∷ [])
  unfolding flat_says
  uneven h = rw (ne_eqb (length numbers % 3) 0 h)

  pub even : length numbers % 3 ≡ 0 → first_says numbers (length numbers / 3) ≡ flat_says numbers
  unfolding flat_says
  even h = first_long numbers (length numbers / 3) (div-mul-le_self (length numbers) 3) ∙ rw (eq-eqb (length numbers % 3) 0 h)

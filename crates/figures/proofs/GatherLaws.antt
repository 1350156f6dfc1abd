-- Flows gathered one behind the other: those of the rows passed so far that a test is true of; one row more; and that there is room for
-- it, where the station takes the flows of all rows that pass. Assumes nothing.
use Prim.Native.Nat.{ℕ, suc, ◌+◌, ◌≤◌, ◌<◌}
use mathlib.Core.Bool.{Bool, true, false}
use mathlib.Core.List.{List, [], ◌∷◌, ◌++◌, map, map-append}
use mathlib.Core.Path.{◌≡◌, refl, sym, ap, ap₂, ◌∙◌}
use native.Mathlib.Numerals.{add-one}
use native.Mathlib.Omega.{arith}
use borrow.Author.Tests.{leb-true}
use lib.Dec.{leb}
use lib.ListN.{length, length-append, length-map}
use Rattle.base.specs.Tabulate.{passing}
use Rattle.base.proofs.TabulateLaws.{passing_hit, passing_miss}
use Rattle.station.specs.Station.{Flow}
use Rattle.station.specs.Offered.{most_flows, all_in_range, offered}
use Rattle.station.proofs.FlowLaws.{and_true}
use Rattle.figures.proofs.SumLaws.{passing_grows}

-- flows that the station takes are no more than its most
pub offered_few : (fs : List Flow) → offered fs ≡ true → length fs ≤ most_flows
unfolding offered
offered_few fs ok = leb-true (length fs) most_flows (and_true (leb (length fs) most_flows) (all_in_range fs) ok).0

module _ (f : ℕ → Flow) (p : ℕ → Bool) where
  -- of the first n rows the flows of those that pass are gathered
  abbrev pub Gathers : ℕ → List Flow → Type 0
  Gathers n flows = flows ≡ map f (passing p n)

  pub gather_start : Gathers 0 []
  unfolding passing
  gather_start = refl

  module _ (n : ℕ) (flows : List Flow) (g : Gathers n flows) where
    -- row n passes: its flow is put behind the others
    pub gather_taken : (x : Flow) → p n ≡ true → x ≡ f n → Gathers (n + 1) (flows ++ (x ∷ []))
    gather_taken x e is =
        rw (add-one n)
        (ap₂ (λ (l : List Flow) (y : Flow). l ++ (y ∷ [])) g is
        ∙ sym (ap (map f) (passing_hit p n e) ∙ map-append f (passing p n) (n ∷ [])))

    -- it does not
    pub gather_passed : p n ≡ false → Gathers (n + 1) flows
    gather_passed e = rw (add-one n) (g ∙ ap (map f) (sym (passing_miss p n e)))

    -- of all rows no more pass than the station takes, so there is room for that of row n
    pub gather_room : p n ≡ true → (all : ℕ) → n < all → offered (map f (passing p all)) ≡ true → length flows < most_flows
    gather_room e all l ok =
        let so_far = ap length g ∙ length-map (passing p n) f in
        let one_more = ap length (passing_hit p n e) ∙ length-append (passing p n) (n ∷ []) in
        omega (arith, so_far, one_more, passing_grows p (suc n) all l, offered_few (map f (passing p all)) ok, length-map (passing p all) f)

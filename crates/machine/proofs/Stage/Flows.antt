-- Jobs of flows that are told by a number: what they bring in a span is at most what the station's flows bring.
-- Assumes nothing.
use Prim.Native.Nat.{ℕ, ◌+◌, ◌≤◌, ◌*◌}
use mathlib.Core.List.{List, [], ◌∷◌, Memᴰ, map}
use mathlib.Core.Path.{◌≡◌, refl, sym, ap}
use native.Mathlib.Nat.{le_of_eq, mul-le-mul_right, le_trans}
use native.Mathlib.Omega.{arith}
use lib.Dec.{eqb, eqb_refl}
use Rattle.base.specs.Tabulate.{total}
use Rattle.base.proofs.Every.{is_true}
use Rattle.station.specs.Station.{Flow, most, brought}
use Rattle.machine.specs.Sum.{weigh, span, count, tally}
use Rattle.machine.proofs.Lists.Sums.{span_mono, span_mul, span_sum, weigh_part}

pub most_pos : (f : Flow) (d : ℕ) → 1 ≤ most f d
unfolding most
most_pos f d = omega arith

pub brought_is : (flow : ℕ → Flow) (d : ℕ) (ns : List ℕ) → brought (map flow ns) d ≡ weigh (λ s. most (flow s) d * (flow s).cost) ns
unfolding total brought
brought_is flow d [] = refl
brought_is flow d (s ∷ ns) = omega (arith, brought_is flow d ns)

module _ {Job : Type 0} (cost key : Job → ℕ) (flow : ℕ → Flow) where
  -- how many of the list are of flow s
  abbrev pub of : ℕ → List Job → ℕ
  of s l = count (λ j. eqb (key j) s) l

  charge : List ℕ → List Job → ℕ
  charge ns l = weigh (λ s. of s l * (flow s).cost) ns

  charge_cons : (j : Job) (l : List Job) (ns : List ℕ)
      → charge ns (j ∷ l) ≡ charge ns l + weigh (λ s. tally (eqb (key j) s) * (flow s).cost) ns
  unfolding charge total
  charge_cons j l [] = refl
  charge_cons j l (s ∷ ns) = omega (arith, charge_cons j l ns)

  -- each job is of one of the flows, and no dearer than that says; in any span a flow's jobs are at most what it brings
  abbrev pub Covered : List ℕ → List Job → Type 0
  Covered ns l = (j : Job) → Memᴰ j l → Memᴰ (key j) ns × (cost j ≤ (flow (key j)).cost)

  module _ (ns : List ℕ) (ins : ℕ → List Job) (covered : (t : ℕ) → Covered ns (ins t))
      (kept : (s : ℕ) → Memᴰ s ns → (x d : ℕ) → span (λ t. of s (ins t)) x d ≤ most (flow s) d)
    where
      cost_charge : (l : List Job) → Covered ns l → weigh cost l ≤ charge ns l
      unfolding total
      cost_charge [] h = omega arith
      cost_charge (j ∷ l) h =
          let k = key j in
          let i = h j (Memᴰ.head refl) in
          omega (
            arith,
            cost_charge l (λ y m. h y (Memᴰ.tail m)),
            charge_cons j l ns,
            weigh_part (λ s. tally (eqb k s) * (flow s).cost) k ns i.0,
            ap (λ (b : _). tally b * (flow k).cost) (is_true (eqb k k) (eqb_refl k)),
          )

      pub works_bound : (x d : ℕ) → span (λ t. weigh cost (ins t)) x d ≤ brought (map flow ns) d
      unfolding charge
      works_bound x d =
          le_trans (span_mono (λ t. weigh cost (ins t)) (λ t. charge ns (ins t)) (λ t. cost_charge (ins t) (covered t)) x d)
          (le_trans (span_sum (λ t s. of s (ins t) * (flow s).cost) (λ s. most (flow s) d * (flow s).cost) x d ns
          (λ s m. rw (span_mul (λ t. of s (ins t)) (flow s).cost x d) (mul-le-mul_right (flow s).cost (kept s m x d))))
          (le_of_eq (sym (brought_is flow d ns))))

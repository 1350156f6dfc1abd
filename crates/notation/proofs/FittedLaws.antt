-- Records in the room that is lent for them, one after the other: one that fits stands first, and where one does not fit none does.
-- Assumes nothing.
use Prim.Native.Nat.{ℕ, ◌+◌, ◌-◌, ◌*◌, ◌/◌, ◌≤◌, ◌<◌}
use mathlib.Core.Path.{◌≡◌, ap, ◌∙◌}
use mathlib.Core.List.{List, [], ◌∷◌, ◌++◌, append_assoc}
use mathlib.Core.Logic.{◌⊎◌, inl, inr}
use native.Mathlib.Omega.{arith}
use native.Mathlib.Nat.{div-eq_of_lt, div-eq-sub-div, zero-mul}
use lib.ListN.{length, replicate, length-append}
use lib.Seq.{take-nil, take-append-add}
use Rattle.notation.specs.Fitted.{held, fitted}

module _ (n room : ℕ) where
  pub held_none : held n room [] ≡ []
  unfolding held
  held_none = take-nil (room / n * n)

  pub fitted_none : fitted n room [] ≡ replicate room 0
  unfolding fitted
  fitted_none = let e : room - 0 ≡ room = omega arith in rw (held_none, e)

  -- where there is no room for a record
  pub held_full : (ns : List ℕ) → room < n → held n room ns ≡ []
  unfolding held
  held_full ns h = let e : room / n * n ≡ 0 = ap (λ (q : ℕ). q * n) (div-eq_of_lt h) ∙ zero-mul n in rw e

  pub fitted_full : (ns : List ℕ) → room < n → fitted n room ns ≡ replicate room 0
  unfolding fitted
  fitted_full ns h = let e : room - 0 ≡ room = omega arith in rw (held_full ns h, e)

  -- where there is
  pub held_next : (r ns : List ℕ) → length r ≡ n → 0 < n → n ≤ room → held n room (r ++ ns) ≡ r ++ held n (room - n) ns
  unfolding held
  held_next r ns e p h =
      let q = div-eq-sub-div p h in
      let d : room / n * n ≡ length r + (room - n) / n * n = ap (λ (k : ℕ). k * n) q ∙ omega (arith, e) in
      rw d (take-append-add r ns ((room - n) / n * n))

  pub fitted_next : (r ns : List ℕ) → length r ≡ n → 0 < n → n ≤ room → fitted n room (r ++ ns) ≡ r ++ fitted n (room - n) ns
  unfolding fitted
  fitted_next r ns e p h =
      let l = held n (room - n) ns in
      let d : room - length (r ++ l) ≡ room - n - length l = omega (arith, length-append r l, e) in
      rw (held_next r ns e p h, d) (append_assoc r l (replicate (room - n - length l) 0))

  -- nothing, or a record
  pub held_more : (r ns : List ℕ) → (length r ≡ 0) ⊎ (length r ≡ n) → length r ≤ room
      → length (held n room (r ++ ns)) ≡ length r + length (held n (room - length r) ns)
  held_more [] ns e h = let d : room - 0 ≡ room = omega arith in rw d (omega arith)
  held_more (x ∷ r) ns (inl e) h = absurd (omega arith)
  held_more (x ∷ r) ns (inr e) h =
      rw (held_next (x ∷ r) ns e (omega arith) (omega arith), e) (length-append (x ∷ r) (held n (room - n) ns) ∙ omega (arith, e))

  pub fitted_more : (r ns : List ℕ) → (length r ≡ 0) ⊎ (length r ≡ n) → length r ≤ room → fitted n room (r ++ ns) ≡ r ++ fitted n (room - length r) ns
  fitted_more [] ns e h = let d : room - 0 ≡ room = omega arith in rw d
  fitted_more (x ∷ r) ns (inl e) h = absurd (omega arith)
  fitted_more (x ∷ r) ns (inr e) h = rw e (fitted_next (x ∷ r) ns e (omega arith) (omega arith))

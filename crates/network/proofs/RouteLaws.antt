-- The route of a hop ends at one without parent. Where no reference is bad it is whole after 8 hops, on one VL, and no hop of it is later
-- or on a higher port. By induction on the hops that it may have.
-- Assumes nothing.
use Prim.Native.Nat.{ℕ, zero, suc, ◌-◌, ◌≤◌, ◌<◌}
use mathlib.Core.Bool.{true, false, true≢false}
use mathlib.Core.List.Memᴰ
use mathlib.Core.List.{List, [], ◌∷◌, Memᴰ}
use mathlib.Core.Logic.{⊎_elim}
use Rattle.std.specs.Prelude.{Option, None, Some}
use mathlib.Core.Path.{◌≡◌, refl, sym, ap, ◌∙◌, subst}
use native.Mathlib.Decide.{dec_le}
use native.Mathlib.Omega.{arith}
use lib.ListN.{length, get_or}
use Rattle.base.proofs.Members.{member_at}
use Rattle.network.specs.Network.{Network, hop_at, parent_at}
use Rattle.network.specs.References.{route_longer}
use Rattle.network.specs.Views.{route_of}
use Rattle.network.specs.ReferenceFacts.{References}

-- ---- any network
module _ (net : Network) where
  -- a hop without parent is its whole route; any other stands before its parent's
  pub route_of_root : (n h : ℕ) → parent_at net h ≡ None → route_of net (suc n) h ≡ h ∷ []
  unfolding route_of
  route_of_root n h e = ap (λ (o : Option ℕ). h ∷ elim o [ None ↦ [] | Some g ↦ route_of net n g ]) e

  pub route_of_child : (n h g : ℕ) → parent_at net h ≡ Some g → route_of net (suc n) h ≡ h ∷ route_of net n g
  unfolding route_of
  route_of_child n h g e = ap (λ (o : Option ℕ). h ∷ elim o [ None ↦ [] | Some i ↦ route_of net n i ]) e

  pub root_not_longer : (n h : ℕ) → parent_at net h ≡ None → route_longer net (suc n) h ≡ false
  unfolding route_longer
  root_not_longer n h e = ap (λ (o : Option ℕ). elim o [ None ↦ false | Some g ↦ route_longer net n g ]) e

  pub child_longer : (n h g : ℕ) → parent_at net h ≡ Some g → route_longer net (suc n) h ≡ route_longer net n g
  unfolding route_longer
  child_longer n h g e = ap (λ (o : Option ℕ). elim o [ None ↦ false | Some i ↦ route_longer net n i ]) e

  -- what holds of both holds of a route
  pub route_by :
      (P : List ℕ → Type 0) (n h : ℕ) → (parent_at net h ≡ None → P (h ∷ [])) → ((g : ℕ) → parent_at net h ≡ Some g → P (h ∷ route_of net n g))
      → P (route_of net (suc n) h)
  route_by P n h root child = go (parent_at net h) refl
    where
      go : (o : Option ℕ) → parent_at net h ≡ o → P (route_of net (suc n) h)
      go None e = subst P (sym (route_of_root n h e)) (root e)
      go (Some g) e = subst P (sym (route_of_child n h g e)) (child g e)

  pub route_short : (n h : ℕ) → length (route_of net n h) ≤ n
  unfolding route_of
  route_short zero h = omega arith
  route_short (suc n) h = route_by (λ (r : List ℕ). length r ≤ suc n) n h (λ e. omega arith) (λ g e. omega (arith, route_short n g))

  pub route_some : (n h : ℕ) → 0 < n → 0 < length (route_of net n h)
  unfolding route_of
  route_some zero h l = absurd (omega arith)
  route_some (suc n) h l = omega arith

  -- ---- a route that is no longer than n: the last of n hops has no parent, and more hops do not change it
  not_longer_some : (n h : ℕ) → route_longer net n h ≡ false → 0 < n
  unfolding route_longer
  not_longer_some zero h e = absurd (true≢false e)
  not_longer_some (suc n) h e = omega arith

  pub route_last : (n h i : ℕ) → route_longer net n h ≡ false → suc i ≡ length (route_of net n h) → parent_at net (get_or (route_of net n h) i 0) ≡ None
  unfolding route_of route_longer
  route_last zero h i e l = absurd (omega arith)
  route_last (suc n) h i e l = route_by (λ (r : List ℕ). suc i ≡ length r → parent_at net (get_or r i 0) ≡ None) n h
      (λ k m. root k i m)
      (λ g k m.
      let rest = sym (child_longer n h g k) ∙ e in
      child g (route_some n g (not_longer_some n g rest)) (λ j. route_last n g j rest) i m)
      l
    where
      root : parent_at net h ≡ None → (i : ℕ) → suc i ≡ 1 → parent_at net (get_or (h ∷ []) i 0) ≡ None
      root k zero m = k
      root k (suc j) m = absurd (omega arith)

      child : (g : ℕ) → 0 < length (route_of net n g)
          → ((j : ℕ) → suc j ≡ length (route_of net n g) → parent_at net (get_or (route_of net n g) j 0) ≡ None)
          → (i : ℕ) → suc i ≡ suc (length (route_of net n g)) → parent_at net (get_or (h ∷ route_of net n g) i 0) ≡ None
      child g k ih zero m = absurd (omega arith)
      child g k ih (suc j) m = ih j (omega arith)

  pub route_enough : (n m h : ℕ) → route_longer net n h ≡ false → n ≤ m → route_of net m h ≡ route_of net n h
  unfolding route_longer
  route_enough zero m h e l = absurd (true≢false e)
  route_enough (suc n) zero h e l = absurd (omega arith)
  route_enough (suc n) (suc m) h e l = route_by (λ (r : List ℕ). route_of net (suc m) h ≡ r) n h
      (λ k. route_of_root m h k)
      (λ g k. route_of_child m h g k ∙ ap (λ (r : List ℕ). h ∷ r) (route_enough n m g (sym (child_longer n h g k) ∙ e) (omega arith)))

  -- the test of the length says what its name says: one hop more than n is there, or never more than n are
  pub route_longer_lem : (n h : ℕ) → route_longer net n h ≡ true → length (route_of net (suc n) h) ≡ suc n
  unfolding route_of
  route_longer_lem zero h e = route_by (λ (r : List ℕ). length r ≡ 1) 0 h (λ k. refl) (λ g k. refl)
  route_longer_lem (suc n) h e = route_by (λ (r : List ℕ). length r ≡ suc (suc n)) (suc n) h
      (λ k. absurd (true≢false (sym e ∙ root_not_longer n h k)))
      (λ g k. ap suc (route_longer_lem n g (sym (child_longer n h g k) ∙ e)))

  -- stands, as route-root and route-whole below, for 02's renumbering of ports along routes (M-111)
  pub route_not_longer : (n m h : ℕ) → route_longer net n h ≡ false → length (route_of net m h) ≤ n
  route_not_longer n m h e = elim (dec_le n m) [
    | yes l ↦ rw (route_enough n m h e l) (route_short n h)
    | no l ↦ omega (arith, route_short m h)
  ]

-- ---- a network of which no reference is bad
-- g stands on the route of h
pub record OnRoute (net : Network) (h g : ℕ) : Type 0 where
  pub row : g < length net.hops
  pub same_vl : (hop_at net g).vl ≡ (hop_at net h).vl
  pub no_later : g ≤ h
  pub no_higher : (hop_at net g).port ≤ (hop_at net h).port

-- the route of h ends at a hop without parent
pub record Root (net : Network) (h : ℕ) : Type 0 where
  pub at : ℕ
  pub place : get_or (route_of net 8 h) (length (route_of net 8 h) - 1) 0 ≡ at
  pub no_parent : parent_at net at ≡ None
  pub on : OnRoute net h at

module _ (net : Network) (refs : References net) where
  pub on_route : (n h g : ℕ) → h < length net.hops → Memᴰ g (route_of net n h) → OnRoute net h g
  unfolding route_of
  on_route zero h g l m = absurd (Memᴰ.not-nil m)
  on_route (suc n) h g l m = route_by net (λ (r : List ℕ). Memᴰ g r → OnRoute net h g) n h
      (λ k a. ⊎_elim itself (λ b. absurd (Memᴰ.not-nil b)) (Memᴰ.cases_cons a))
      (λ f k a. ⊎_elim itself (λ b. above f k (on_route n f g (omega (arith, refs.parent_earlier_says h f l k)) b)) (Memᴰ.cases_cons a))
      m
    where
      itself : g ≡ h → OnRoute net h g
      itself e = record { row = omega arith; same_vl = rw e; no_later = omega arith; no_higher = rw e (omega arith) }

      above : (f : ℕ) → parent_at net h ≡ Some f → OnRoute net f g → OnRoute net h g
      above f k r = record {
        row = r.row;
        same_vl = r.same_vl ∙ refs.parent_vl h f l k;
        no_later = omega (arith, r.no_later, refs.parent_earlier_says h f l k);
        no_higher = omega (arith, r.no_higher, refs.parent_port h f l k);
      }

  -- the whole route
  module _ (h : ℕ) (l : h < length net.hops) where
    pub on_route_at : (i : ℕ) → i < length (route_of net 8 h) → OnRoute net h (get_or (route_of net 8 h) i 0)
    on_route_at i k = on_route 8 h (get_or (route_of net 8 h) i 0) l (member_at (route_of net 8 h) i 0 k)

    -- its last hop has no parent
    pub route_ends : (i : ℕ) → suc i ≡ length (route_of net 8 h) → parent_at net (get_or (route_of net 8 h) i 0) ≡ None
    route_ends i k = route_last net 8 h i (refs.not_deep h l) k

    -- for M-111
    pub route_root : Root net h
    route_root =
        let there = route_some net 8 h (omega arith) in
        let last = length (route_of net 8 h) - 1 in
        record { at = get_or (route_of net 8 h) last 0; place = refl; no_parent = route_ends last (omega arith); on = on_route_at last (omega arith) }

    -- for M-111
    pub route_whole : (n : ℕ) → 8 ≤ n → route_of net n h ≡ route_of net 8 h
    route_whole n k = route_enough net 8 n h (refs.not_deep h l) k

    -- a hop and the whole route of its parent
    pub route_of_parent : (g : ℕ) → parent_at net h ≡ Some g → route_of net 8 h ≡ h ∷ route_of net 8 g
    route_of_parent g e =
        let rest = sym (child_longer net 7 h g e) ∙ refs.not_deep h l in
        route_of_child net 7 h g e ∙ ap (λ (r : List ℕ). h ∷ r) (sym (route_enough net 7 8 g rest (omega arith)))

-- The jitters and figures of the hops: 01's equations have exactly one solution where parents stand on lower-numbered ports. By induction on the port number, since a port's flows ask only for jitters of hops on it, and those for lower ports.
-- Assumes nothing.
use Prim.Native.Nat.{ℕ, zero, suc, ◌≤◌, ◌<◌}
use mathlib.Core.List.{List, [], ◌∷◌, map, Memᴰ}
use Rattle.std.specs.Prelude.{Option, None, Some}
use mathlib.Core.Path.{◌≡◌, refl, sym, ap, ap₂, ◌∙◌}
use native.Mathlib.Nat.{le_refl}
use native.Mathlib.Omega.{arith}
use lib.ListN.{length}
use Rattle.base.specs.Tests.{number_or0}
use Rattle.network.specs.Network.{Network, vl_at, hop_at, parent_at}
use Rattle.network.specs.Views.{hops_on}
use Rattle.network.specs.ReferenceFacts.{References}
use Rattle.network.proofs.PortLaws.{on_port_lem}
use Rattle.station.specs.Station.{Flow, busy_length_to, figure}
use Rattle.rows.specs.Links.{hop_most}
use Rattle.rows.specs.Ports.{hop_flow, port_flows, port_length, port_figure, hop_figure, root_jitter, child_jitter, Figures, jitter_below, jitter_of, figure_of}

-- a list under two functions that agree on its members
pub map_same : {A B : Type 0} (f g : A → B) (l : List A) → ((x : A) → Memᴰ x l → f x ≡ g x) → map f l ≡ map g l
map_same f g [] h = refl
map_same {A} {B} f g (x ∷ l) h = ap₂ (λ (a : B) (b : List B). a ∷ b) (h x (Memᴰ.head refl)) (map_same f g l (λ y m. h y (Memᴰ.tail m)))

module _ (net : Network) where
  -- jitters that agree on the hops of a port give it the same flows, the same length and the same figure
  pub port_flows_same : (i j : ℕ → ℕ) (p : ℕ) → ((h : ℕ) → h < length net.hops → (hop_at net h).port ≡ p → i h ≡ j h) → port_flows net i p ≡ port_flows net j p
  unfolding port_flows hop_flow
  port_flows_same i j p same = map_same (hop_flow net i) (hop_flow net j) (hops_on net p)
      (λ h m. let on = on_port_lem net p h m in
      ap (λ (z : ℕ). record { period = (vl_at net (hop_at net h).vl).gap; jitter = z; cost = hop_most net h }) (same h on.0 on.1))

  pub port_figure_same : (i j : ℕ → ℕ) (p : ℕ) → ((h : ℕ) → h < length net.hops → (hop_at net h).port ≡ p → i h ≡ j h) → port_figure net i p ≡ port_figure net j p
  unfolding port_figure port_length
  port_figure_same i j p same = ap (λ (fs : List Flow). figure fs (number_or0 (busy_length_to net.tick.longest fs))) (port_flows_same i j p same)

  -- the figure of a hop is its port's
  hop_figure_is : (jitter : ℕ → ℕ) (h : ℕ) → hop_figure net jitter h ≡ port_figure net jitter (hop_at net h).port
  unfolding hop_figure
  hop_figure_is jitter h = refl

  pub figure_of_port : (h : ℕ) → figure_of net h ≡ port_figure net (jitter_of net) (hop_at net h).port
  unfolding figure_of
  figure_of_port = hop_figure_is (jitter_of net)

  -- it asks only for jitters of the hops on its port
  hop_figure_same : (i j : ℕ → ℕ) (g : ℕ) → ((h : ℕ) → h < length net.hops → (hop_at net h).port ≡ (hop_at net g).port → i h ≡ j h) → hop_figure net i g ≡ hop_figure net j g
  unfolding hop_figure
  hop_figure_same i j g same = port_figure_same i j (hop_at net g).port same

  -- the rules for one hop, of a solution's step
  jitter_root : (n h : ℕ) → parent_at net h ≡ None → jitter_below net (suc n) h ≡ root_jitter net h
  unfolding jitter_below
  jitter_root n h e = ap (λ (o : Option ℕ). elim o [
    | None ↦ root_jitter net h
    | Some g ↦ child_jitter net h g (jitter_below net n g) (hop_figure net (jitter_below net n) g)
  ]) e

  jitter_child :
      (n h g : ℕ) → parent_at net h ≡ Some g
      → jitter_below net (suc n) h ≡ child_jitter net h g (jitter_below net n g) (hop_figure net (jitter_below net n) g)
  unfolding jitter_below
  jitter_child n h g e = ap (λ (o : Option ℕ). elim o [
    | None ↦ root_jitter net h
    | Some g ↦ child_jitter net h g (jitter_below net n g) (hop_figure net (jitter_below net n) g)
  ]) e

  module _ (refs : References net) where
    row_of_parent : (h g : ℕ) → h < length net.hops → parent_at net h ≡ Some g → g < length net.hops
    row_of_parent h g l e = omega (arith, refs.parent_earlier_says h g l e)

    -- once the hop's port is below n, more ports change nothing
    settled : (n m h : ℕ) → h < length net.hops → (hop_at net h).port < n → n ≤ m → jitter_below net n h ≡ jitter_below net m h
    settled zero m h l k b = absurd (omega arith)
    settled (suc n) zero h l k b = absurd (omega arith)
    settled (suc n) (suc m) h l k b = go (λ g. settled n m g) (parent_at net h) refl
      where
        go : ((g : ℕ) → g < length net.hops → (hop_at net g).port < n → n ≤ m → jitter_below net n g ≡ jitter_below net m g)
            → (o : Option ℕ) → parent_at net h ≡ o → jitter_below net (suc n) h ≡ jitter_below net (suc m) h
        go ih None e = jitter_root n h e ∙ sym (jitter_root m h e)
        go ih (Some g) e =
            let row = row_of_parent h g l e in
            let low = refs.parent_port h g l e in
            jitter_child n h g e
            ∙ ap₂ (child_jitter net h g) (ih g row (omega arith) (omega arith))
            (hop_figure_same (jitter_below net n) (jitter_below net m) g (λ i a c. ih i a (omega arith) (omega arith)))
            ∙ sym (jitter_child m h g e)

    -- the jitters and figures of rows keep 01's rules
    pub figures_of : Figures net (figure_of net) (jitter_of net)
    unfolding figure_of jitter_of
    figures_of = record { figure_is = λ h l. refl; root_is = λ h l e. root (length net.ports) h e (refs.hop_port h l); child_is = λ h g l e. child (length net.ports) h g l e (refs.hop_port h l) }
      where
        root : (n h : ℕ) → parent_at net h ≡ None → (hop_at net h).port < n → jitter_below net n h ≡ root_jitter net h
        root zero h e k = absurd (omega arith)
        root (suc n) h e k = jitter_root n h e

        child :
            (n h g : ℕ) → h < length net.hops → parent_at net h ≡ Some g → (hop_at net h).port < n
            → jitter_below net n h ≡ child_jitter net h g (jitter_below net n g) (hop_figure net (jitter_below net n) g)
        child zero h g l e k = absurd (omega arith)
        child (suc n) h g l e k =
            let row = row_of_parent h g l e in
            let low = refs.parent_port h g l e in
            jitter_child n h g e
            ∙ ap₂ (child_jitter net h g) (settled n (suc n) g row (omega arith) (omega arith))
            (hop_figure_same (jitter_below net n) (jitter_below net (suc n)) g (λ i a c. settled n (suc n) i a (omega arith) (omega arith)))

    -- and any that keep them are these
    module _ (f₁ j₁ f₂ j₂ : ℕ → ℕ) (one : Figures net f₁ j₁) (two : Figures net f₂ j₂) where
      same_below : (n h : ℕ) → h < length net.hops → (hop_at net h).port < n → j₁ h ≡ j₂ h
      same_below zero h l k = absurd (omega arith)
      same_below (suc n) h l k = go (λ g. same_below n g) (parent_at net h) refl
        where
          go : ((g : ℕ) → g < length net.hops → (hop_at net g).port < n → j₁ g ≡ j₂ g) → (o : Option ℕ) → parent_at net h ≡ o → j₁ h ≡ j₂ h
          go ih None e = one.root_is h l e ∙ sym (two.root_is h l e)
          go ih (Some g) e =
              let row = row_of_parent h g l e in
              let low = refs.parent_port h g l e in
              one.child_is h g l e
              ∙ ap₂ (child_jitter net h g) (ih g row (omega arith))
              (one.figure_is g row ∙ hop_figure_same j₁ j₂ g (λ i a c. ih i a (omega arith)) ∙ sym (two.figure_is g row))
              ∙ sym (two.child_is h g l e)

      pub jitters_agree : (h : ℕ) → h < length net.hops → j₁ h ≡ j₂ h
      jitters_agree h l = same_below (suc (hop_at net h).port) h l (le_refl (suc (hop_at net h).port))

      pub figures_agree : (h : ℕ) → h < length net.hops → f₁ h ≡ f₂ h
      figures_agree h l = one.figure_is h l ∙ hop_figure_same j₁ j₂ h (λ i a c. jitters_agree i a) ∙ sym (two.figure_is h l)

    module _ (figure_at jitter_at : ℕ → ℕ) (keeps : Figures net figure_at jitter_at) where
      pub jitter_unique : (h : ℕ) → h < length net.hops → jitter_at h ≡ jitter_of net h
      jitter_unique = jitters_agree figure_at jitter_at (figure_of net) (jitter_of net) keeps figures_of

      pub figure_unique : (h : ℕ) → h < length net.hops → figure_at h ≡ figure_of net h
      figure_unique = figures_agree figure_at jitter_at (figure_of net) (jitter_of net) keeps figures_of

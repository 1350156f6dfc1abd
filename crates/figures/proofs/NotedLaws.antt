-- Numbers by hop, noted port after port: a walk over the hops notes those that are on a port. It serves the jitters and the figures.
-- Assumes nothing.
use Prim.Native.Nat.{ℕ, suc, ◌+◌, ◌≤◌, ◌<◌}
use mathlib.Core.List.{List}
use mathlib.Core.Logic.{⊎_elim}
use mathlib.Core.Path.{◌≡◌, refl, ap, ◌∙◌}
use native.Mathlib.Nat.{eq-or-lt_of_le, le_of_suc-le-suc}
use native.Mathlib.Omega.{arith}
use borrow.Author.Count.{below_more}
use lib.ListN.{length, get_or, set, replicate, length-set}
use lib.Seq.{get_or-set_same, get_or-set_other}
use Rattle.layout.specs.Limits.{limits}
use Rattle.network.specs.Network.{Network, hop_at}
use Rattle.network.specs.ReferenceFacts.{References}
use Rattle.figures.specs.Computing.{noted, Noted}
use Rattle.figures.proofs.FillLaws.{zeros_at, noted_by}

-- the numbers of the hops on ports below p, and of the first h hops on port p
pub record NotedTo (net : Network) (f : ℕ → ℕ) (p h : ℕ) (list : List ℕ) : Type 0 where
  pub lower : Noted net f p list
  pub here : (i : ℕ) → i < h → (hop_at net i).port ≡ p → get_or list i 0 ≡ f i

module _ (net : Network) (f : ℕ → ℕ) where
  pub no_port_lem : (list : List ℕ) → list ≡ replicate limits.hops 0 → Noted net f 0 list
  no_port_lem list e = rw e record { long = refl; below = λ h l k. absurd (omega arith); behind = λ i l. zeros_at limits.hops i }

  module _ (p : ℕ) where
    pub noted_start : (list : List ℕ) → Noted net f p list → NotedTo net f p 0 list
    noted_start list lower = record { lower = lower; here = λ i l. absurd (omega arith) }

    module _ (h : ℕ) (list : List ℕ) (so_far : NotedTo net f p h list) where
      -- a hop that is on the port, and one that is not
      pub noted_taken : (x : ℕ) → h < length net.hops → h < limits.hops → (hop_at net h).port ≡ p → x ≡ f h → NotedTo net f p (h + 1) (set list h x)
      noted_taken x row room on e = record {
        lower = record {
          long = length-set list h x ∙ so_far.lower.long;
          below = λ i l k. get_or-set_other list h i x 0 (λ (s : i ≡ h). omega (arith, ap (λ (j : ℕ). (hop_at net j).port) s)) ∙ so_far.lower.below i l k;
          behind = λ i l. get_or-set_other list h i x 0 (λ (s : i ≡ h). omega arith) ∙ so_far.lower.behind i l;
        };
        here = below_more (λ (i : ℕ). (hop_at net i).port ≡ p → get_or (set list h x) i 0 ≡ f i) h
            (λ i l k. get_or-set_other list h i x 0 (λ (s : i ≡ h). omega arith) ∙ so_far.here i l k)
            (λ k. get_or-set_same list h x 0 (omega (arith, so_far.lower.long)) ∙ e);
      }

      pub noted_passed : ((hop_at net h).port ≡ p → ⊥) → NotedTo net f p (h + 1) list
      noted_passed off = record {
        lower = so_far.lower;
        here = below_more (λ (i : ℕ). (hop_at net i).port ≡ p → get_or list i 0 ≡ f i) h so_far.here (λ k. absurd (off k));
      }

      -- all hops
      pub noted_port : length net.hops ≤ h → Noted net f (suc p) list
      noted_port done = record {
        long = so_far.lower.long;
        below = λ i l k. ⊎_elim
            (λ (e : (hop_at net i).port ≡ p). so_far.here i (omega arith) e)
            (λ (b : (hop_at net i).port < p). so_far.lower.below i l b)
            (eq-or-lt_of_le (le_of_suc-le-suc k));
        behind = so_far.lower.behind;
      }

  -- all ports: each hop is on one of them
  pub noted_all : References net → (p : ℕ) (list : List ℕ) → length net.hops ≤ limits.hops → length net.ports ≤ p
      → Noted net f p list
      → list ≡ noted f limits.hops (length net.hops)
  noted_all refs p list few all n =
      noted_by f limits.hops (length net.hops) list few n.long (λ h l. n.below h l (omega (arith, refs.hop_port h l)))
      n.behind

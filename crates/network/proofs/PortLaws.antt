-- The hops on a port: exactly the rows that name it, each once, ascending; and no more than there are VLs, since no two of them are of one VL.
-- Assumes nothing.
use Prim.Native.Nat.{ℕ, ◌<◌}
use mathlib.Core.List.{Memᴰ}
use mathlib.Core.Path.{◌≡◌, sym, ◌∙◌}
use borrow.Author.Tests.{eq-eqb, eqb-true}
use lib.Dec.{eqb}
use lib.ListN.{length, get_or}
use Rattle.base.proofs.Members.{Place, member_at}
use Rattle.base.proofs.Pigeon.{few_by}
use Rattle.base.proofs.TabulateLaws.{passing_member, member_passing, passing_place, passing_ascends, passing_once}
use Rattle.network.specs.Network.{Network, hop_at}
use Rattle.network.specs.Views.{hops_on}
use Rattle.network.specs.ReferenceFacts.{References, FewHopsOnAPort}
use Rattle.network.proofs.ReferenceLaws.{one_hop}

module _ (net : Network) (p : ℕ) where
  -- ---- its members
  pub on_port_lem : (h : ℕ) → Memᴰ h (hops_on net p) → (h < length net.hops) × ((hop_at net h).port ≡ p)
  unfolding hops_on
  on_port_lem h m =
      let was = passing_member (λ h. eqb (hop_at net h).port p) (length net.hops) h m in
      (was.0, eqb-true (hop_at net h).port p was.1)

  pub member_on_port : (h : ℕ) → h < length net.hops → (hop_at net h).port ≡ p → Memᴰ h (hops_on net p)
  unfolding hops_on
  member_on_port h l e = member_passing (λ h. eqb (hop_at net h).port p) (length net.hops) h l (eq-eqb (hop_at net h).port p e)

  -- ---- by place
  pub on_port_at : (k : ℕ) → k < length (hops_on net p) → (get_or (hops_on net p) k 0 < length net.hops) × ((hop_at net (get_or (hops_on net p) k 0)).port ≡ p)
  on_port_at k h = on_port_lem (get_or (hops_on net p) k 0) (member_at (hops_on net p) k 0 h)

  -- this and the next stand for 02's index of hops by port (M-109): it holds every hop once, in row order
  pub on_port_place : (h : ℕ) → h < length net.hops → (hop_at net h).port ≡ p → Place (hops_on net p) h
  unfolding hops_on
  on_port_place h l e = passing_place (λ h. eqb (hop_at net h).port p) (length net.hops) h l (eq-eqb (hop_at net h).port p e)

  pub on_port_ascends : (j k : ℕ) → j < k → k < length (hops_on net p) → get_or (hops_on net p) j 0 < get_or (hops_on net p) k 0
  unfolding hops_on
  on_port_ascends j k l h = passing_ascends (λ h. eqb (hop_at net h).port p) (length net.hops) j k l h

  pub on_port_once : (j k : ℕ) → j < length (hops_on net p) → k < length (hops_on net p) → get_or (hops_on net p) j 0 ≡ get_or (hops_on net p) k 0 → j ≡ k
  unfolding hops_on
  on_port_once j k hj hk e = passing_once (λ h. eqb (hop_at net h).port p) (length net.hops) j k hj hk e

  -- ---- no two hops on a port are of one VL
  pub one_of_each_vl :
      References net → (j k : ℕ) → j < length (hops_on net p) → k < length (hops_on net p)
      → (hop_at net (get_or (hops_on net p) j 0)).vl ≡ (hop_at net (get_or (hops_on net p) k 0)).vl → j ≡ k
  one_of_each_vl refs j k hj hk e =
      let a = on_port_at j hj in
      let b = on_port_at k hk in
      on_port_once j k hj hk (one_hop net refs (get_or (hops_on net p) j 0) (get_or (hops_on net p) k 0) a.0 b.0 e (a.1 ∙ sym b.1))

pub few_hops_on_a_port : FewHopsOnAPort
few_hops_on_a_port net refs p =
    few_by (hops_on net p) 0 (length net.vls) (λ h. (hop_at net h).vl)
    (λ k h. refs.hop_vl (get_or (hops_on net p) k 0) (on_port_at net p k h).0)
    (one_of_each_vl net p refs)

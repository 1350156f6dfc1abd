-- The six lists by their sections: they are told apart by them, and there are no others.
-- Assumes nothing.
use Prim.Native.Nat.{ℕ, zero, suc, ◌≤◌, ◌<◌}
use mathlib.Core.List.{List, [], ◌∷◌}
use mathlib.Core.Path.{◌≡◌, refl}
use native.Mathlib.Omega.{arith}
use lib.ListN.{get_or-eq_default}
use Rattle.table.specs.Lists.{Lists, lists_by, list_for}

pub list_by : (list : ℕ → List ℕ) (s : ℕ) → s < 6 → list_for (lists_by list) s ≡ list s
unfolding list_for
list_by list zero h = refl
list_by list (suc zero) h = refl
list_by list (suc (suc zero)) h = refl
list_by list (suc (suc (suc zero))) h = refl
list_by list (suc (suc (suc (suc zero)))) h = refl
list_by list (suc (suc (suc (suc (suc zero))))) h = refl
list_by list (suc (suc (suc (suc (suc (suc s)))))) h = absurd (omega arith)

pub lists_same : (ls ms : Lists) → ((s : ℕ) → s < 6 → list_for ls s ≡ list_for ms s) → ls ≡ ms
unfolding list_for
lists_same ls ms same = λ i. record {
  header = same 0 (omega arith) i;
  systems = same 1 (omega arith) i;
  vls = same 2 (omega arith) i;
  streams = same 3 (omega arith) i;
  ports = same 4 (omega arith) i;
  hops = same 5 (omega arith) i;
}

-- in their order
abbrev pub in_order : Lists → List (List ℕ)
in_order ls = ls.header ∷ ls.systems ∷ ls.vls ∷ ls.streams ∷ ls.ports ∷ ls.hops ∷ []

pub no_list : (ls : Lists) (s : ℕ) → 6 ≤ s → list_for ls s ≡ []
unfolding list_for
no_list ls s h = get_or-eq_default (in_order ls) [] h

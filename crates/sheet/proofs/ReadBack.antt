-- The network on the sheet of a table's lists is the one that the lists describe: each stands whole in its own, and what is behind it is not read.
-- Assumes nothing.
use Prim.Native.Nat.{ℕ, suc, ◌*◌, ◌≤◌, ◌<◌}
use mathlib.Core.List.{List}
use mathlib.Core.Path.{◌≡◌, refl, sym, ap, ◌∙◌}
use native.Mathlib.Omega.{arith}
use lib.ListN.{length, get_or}
use Rattle.base.specs.Tabulate.{tabulate}
use Rattle.base.proofs.TabulateLaws.{tabulate_same, tabulate_rows}
use Rattle.layout.specs.Limits.{most}
use Rattle.layout.specs.Layout.{header_names}
use Rattle.layout.specs.Rows.{listed}
use Rattle.layout.specs.Sizes.{capacity}
use Rattle.table.specs.Lists.{Lists, list_for, records_in}
use Rattle.table.specs.Sections.{lent}
use Rattle.table.specs.Decoded.{network_of}
use Rattle.table.proofs.LentLaws.{lent_at, lent_whole}
use Rattle.sheet.specs.Sheet.{count_for, numbers_for, count_on, read_as, list_to, lists_to, network_on, sheet_of}

-- lists of whole records that a sheet has room for
pub record Held (ls : Lists) : Type 0 where
  pub header : length ls.header ≡ length header_names
  pub whole : (s : ℕ) → suc s < 6 → length (list_for ls (suc s)) ≡ records_in ls (suc s) * listed (suc s)
  pub few : (s : ℕ) → suc s < 6 → records_in ls (suc s) ≤ most (suc s)
  pub small : (s k : ℕ) → suc s < 6 → k < length (list_for ls (suc s)) → read_as (suc s) (get_or (list_for ls (suc s)) k 0) ≡ get_or (list_for ls (suc s)) k 0

module _ (ls : Lists) (held : Held ls) where
  list_same : (s : ℕ) → suc s < 6 → count_for (sheet_of ls).counts (suc s) ≡ records_in ls (suc s)
      → numbers_for (sheet_of ls) (suc s) ≡ lent (capacity (suc s)) (list_for ls (suc s)) → list_to (count_on (sheet_of ls)) (sheet_of ls) (suc s) ≡ list_for ls (suc s)
  unfolding count_on list_to
  list_same s h counted stands =
      let all = list_for ls (suc s) in
      let count : count_on (sheet_of ls) (suc s) ≡ records_in ls (suc s) = omega (arith, counted, held.few s h) in
      ap (tabulate _) (ap (λ (n : ℕ). n * listed (suc s)) count ∙ sym (held.whole s h))
      ∙ tabulate_same _ (λ k. get_or all k 0) (length all)
      (λ k l.
      ap (λ (ns : List ℕ). read_as (suc s) (get_or ns k 0)) stands ∙ ap (read_as (suc s)) (lent_at (capacity (suc s)) all k l) ∙ held.small s k h l)
      ∙ tabulate_rows all 0

  pub network_same : network_on (sheet_of ls) ≡ network_of ls
  unfolding network_on lists_to list_for sheet_of count_for numbers_for
  network_same =
      ap network_of
      (λ i. record {
        header = lent_whole (length header_names) ls.header (omega (arith, held.header)) i;
        systems = list_same 0 (omega arith) refl refl i;
        vls = list_same 1 (omega arith) refl refl i;
        streams = list_same 2 (omega arith) refl refl i;
        ports = list_same 3 (omega arith) refl refl i;
        hops = list_same 4 (omega arith) refl refl i;
      })

-- Lists that the writer accepts are lists that a text can say, since its rows and those of the lists differ by zeros at the end only.
-- So the text printed for them says them.
-- Assumes nothing.
use Prim.Native.Nat.{ℕ, zero, suc, ◌-◌, ◌*◌, ◌/◌, ◌≤◌, ◌<◌}
use mathlib.Core.Path.{◌≡◌, refl, sym, ap, ◌∙◌}
use mathlib.Core.List.{List, [], ◌∷◌, ◌++◌}
use Rattle.std.specs.Prelude.{None}
use native.Mathlib.Omega.{arith}
use lib.ListN.{length, get_or, take, drop, replicate}
use Rattle.base.specs.Tabulate.{tabulate}
use Rattle.layout.specs.declared.Way.TheVariants.{Writing}
use Rattle.layout.specs.Names.{number_of, index_in}
use Rattle.layout.specs.Layout.{layout, kind_of}
use Rattle.layout.specs.Rows.{listed, row_fault}
use Rattle.layout.proofs.RowLaws.{zero_at}
use Rattle.layout.proofs.FaultLaws.{fault_same}
use Rattle.table.specs.Lists.{Lists, list_for, records_in, version_for, kind_for}
use Rattle.table.specs.Write.{header_for, meant_row}
use Rattle.table.proofs.AnswerLaws.{Writable, write_was}
use Rattle.table.proofs.ListsLaws.{list_by, lists_same}
use Rattle.table.proofs.HeaderLaws.{five}
use Rattle.notation.specs.Meant.{list_in}
use Rattle.notation.specs.Printed.{record_in}
use Rattle.notation.specs.Back.{header_of, Acceptable, Printable}
use Rattle.notation.proofs.BackLaws.{read_back}
use Rattle.notation.proofs.AcceptedLaws.{accepted_printable}
use Rattle.texts.specs.Texts.{said, text_for, SaidBack}

-- ---- zeros at the end of a row
zeros_after : (row : List ℕ) (m k : ℕ) → get_or (row ++ replicate m 0) k 0 ≡ get_or row k 0
zeros_after [] m k = zero_at m k
zeros_after (n ∷ row) m zero = refl
zeros_after (n ∷ row) m (suc k) = zeros_after row m k

fault_before : (kind : ℕ) (row : List ℕ) (m : ℕ) → row_fault Writing kind (row ++ replicate m 0) ≡ None → row_fault Writing kind row ≡ None
fault_before kind row m e = sym (fault_same Writing kind (row ++ replicate m 0) row (zeros_after row m)) ∙ e

-- ---- what the writer accepts
module _ (ls : Lists) (w : Writable ls) where
  version_same : get_or ls.header 0 1 ≡ version_for ls
  unfolding index_in number_of
  version_same = go ls.header w.header_list
    where
      go : (l : List ℕ) → length l ≡ 5 → get_or l 0 1 ≡ get_or l 0 0
      go [] e = absurd (omega arith)
      go (v ∷ l) e = refl

  header_same : header_for ls ≡ header_of (list_for ls) ++ replicate 1 0
  unfolding header_for header_of list_for tabulate records_in index_in number_of
  header_same =
      let counts = tabulate (λ s. length (list_for ls (suc s)) / listed (suc s)) 5 in
      ap (λ (l : List ℕ). (take 1 l ++ counts ++ drop 1 l) ++ replicate 1 0) (five ls.header w.header_list)

  acceptable : Acceptable (list_for ls)
  unfolding list_for records_in record_in meant_row
  acceptable = record {
    head = w.header_list;
    header = fault_before 0 (header_of (list_for ls)) 1 (rw header_same at w.header);
    whole = whole_in;
    records = good_in;
  }
    where
      whole_in : (s : ℕ) → 1 ≤ s → s ≤ 5 → length (list_for ls s) / listed s * listed s ≡ length (list_for ls s)
      whole_in zero low high = absurd (omega arith)
      whole_in (suc s) low high = sym (w.full s (omega arith))

      good_in : (s i : ℕ) → 1 ≤ s → s ≤ 5 → i < length (list_for ls s) / listed s
          → row_fault Writing (kind_of (get_or (list_for ls 0) 0 1) s) (record_in (list_for ls s) s i) ≡ None
      good_in zero i low high h = absurd (omega arith)
      good_in (suc s) i low high h =
          let kind = kind_for ls (suc s) in
          let row = record_in (list_for ls (suc s)) (suc s) i in
          rw version_same (fault_before kind row (length (layout kind) - listed (suc s)) (w.good s i (omega arith) h))

  pub printable : Printable (list_for ls)
  printable = accepted_printable (list_for ls) acceptable

  pub list_back : (s : ℕ) → s ≤ 5 → list_in (text_for ls) s ≡ list_for ls s
  list_back = read_back (list_for ls) printable

  lists_back : said (text_for ls) ≡ ls
  unfolding said
  lists_back =
      lists_same (said (text_for ls)) ls (λ s h. list_by (list_in (text_for ls)) s h ∙ list_back s (omega arith))

pub said_back : SaidBack
said_back ls room e = lists_back ls (write_was ls room e)

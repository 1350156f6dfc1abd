-- What the private functions of the writer promise one another: nothing here has to be believed.
-- Assumes nothing.
use Rattle.std.specs.Prelude.{ℕ, ◌+◌, ◌*◌, ◌^◌, ◌≤◌, ◌<◌, ◌≡◌, List, length, replicate, Option, None, Some}
use Rattle.base.specs.Tabulate.{tabulate}
use Rattle.layout.specs.Layout.{size}
use Rattle.table.specs.declared.Answer.{Answer}
use Rattle.table.specs.Lists.{Lists}
use Rattle.table.specs.Write.{count, bad_record, answer_at_record, stored_row, table_size}

-- ---- answers
-- 4 of one section: its first bad record
unfoldable pub section4 : Lists → ℕ → Option Answer
section4 ls section = elim (bad_record ls section) [ None ↦ None | Some i ↦ Some (answer_at_record ls section i) ]

-- ---- the table
-- the lists have row i of a section
pub record HasRow (ls : Lists) (section i : ℕ) : Type 0 where
  pub known : section < 6
  pub inside : i < count ls section

-- the bytes have room for n rows of this kind from byte `at` on, and are short enough that their bits can be counted
pub record HasRoom (out : List ℕ) (kind at n : ℕ) : Type 0 where
  pub inside : at + n * size kind ≤ length out
  pub short : length out ≤ 2 ^ 32

-- the first n rows of a section as they are stored
abbrev pub stored : Lists → ℕ → ℕ → List (List ℕ)
stored ls section n = tabulate (stored_row ls section) n

-- the bytes are the table's, cleared, and short
pub record Fillable (ls : Lists) (out : List ℕ) : Type 0 where
  pub clear : out ≡ replicate (table_size ls) 0
  pub short : table_size ls ≤ 2 ^ 32

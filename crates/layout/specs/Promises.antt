-- What the contracts of this crate's routines name beside 01's rules: a row
-- put into bytes, an array that has room for any row, the pairs that a row fails.
-- No demand is stated by these. Assumes nothing.
use Rattle.std.specs.Prelude.{ℕ, ◌+◌, ◌-◌, List, ◌++◌, length, replicate, Option, option_map}
use Rattle.base.specs.Pick.{pick}
use Rattle.base.specs.Tests.{first_failing}
use Rattle.bits.specs.Rows.{put_all}
use Rattle.layout.specs.Layout.{layout, orders, widths}
use Rattle.layout.specs.Rows.{row_room, order_tests}

-- the bytes with these stored numbers for that row; unchanged where there is no such row
unfoldable pub with_row_at : List ℕ → ℕ → ℕ → List ℕ → List ℕ
with_row_at bytes a kind raw = pick (row_room (length bytes) a (widths kind)) (put_all bytes a (widths kind) raw) bytes

-- a row in an array that has room for the 11 fields of the longest
unfoldable pub wide : List ℕ → List ℕ
wide row = row ++ replicate (11 - length row) 0

-- the first pair of fields of a record that are not in order, by its place behind the fields
unfoldable pub order_fault : ℕ → List ℕ → Option ℕ
order_fault kind row = option_map (λ (i : ℕ). length (layout kind) + i) (first_failing (order_tests (layout kind) (orders kind) row))

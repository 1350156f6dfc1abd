-- `layout::orders::order_fault` meets its contract: the tests are the pairs of each kind, and the rest of the definition computes.
-- Assumes nothing.
use Prim.Native.Nat.{ℕ, ◌≤◌, ◌<◌}
use mathlib.Core.Bool.{true, false}
use Rattle.std.specs.Prelude.{None, Some}
use mathlib.Core.List.{List}
use mathlib.Core.Path.{◌≡◌, refl}
use native.Mathlib.Omega.{arith}
use borrow.Author.Tests.{le-leb, lt-leb}
use lib.Dec.{leb}
use lib.ListN.{get_or}
use Rattle.base.specs.Tests.{first_failing}
use Rattle.base.specs.Least.{least_from}
use Rattle.layout.specs.Layout.{layout_in, orders}
use Rattle.layout.specs.Names.{number_of, index_in}
use Rattle.layout.specs.Rows.{order_tests}
use Rattle.layout.specs.Promises.{order_fault}
use Rattle.layout.proofs.LayoutLaws.{no_orders}
use Rattle.layout.proofs.orders.order_fault.Goals as goal

-- fields i and k of a row are in order, or not
in_order_lem : (row : List ℕ) (i k : ℕ) → get_or row i 0 ≤ get_or row k 0 → leb (get_or row i 0) (get_or row k 0) ≡ true
in_order_lem row i k h = le-leb _ _ h

not_in_order : (row : List ℕ) (i k : ℕ) → get_or row k 0 < get_or row i 0 → leb (get_or row i 0) (get_or row k 0) ≡ false
not_in_order row i k h = lt-leb _ _ h

header_send : (row : List ℕ) → get_or row 7 0 < get_or row 6 0 → Some 11 ≡ order_fault 0 row
unfolding order_fault order_tests first_failing least_from orders layout_in index_in number_of
header_send row h = rw (not_in_order row 6 7 h, least_from) refl

pub returns-in-0 : goal.returns-in-0
returns-in-0 c = rw c.in-0.is (header_send c.args.row.now c.if-row.true)

header_receive : (row : List ℕ) → get_or row 6 0 ≤ get_or row 7 0 → get_or row 9 0 < get_or row 8 0 → Some 12 ≡ order_fault 0 row
unfolding order_fault order_tests first_failing least_from orders layout_in index_in number_of
header_receive row h j = rw (in_order_lem row 6 7 h, not_in_order row 8 9 j, least_from) refl

pub returns-in-0-2 : goal.returns-in-0-2
returns-in-0-2 c = rw c.in-0.is (header_receive c.args.row.now c.if-row.false c.if-row-2.true)

stream_sizes : (row : List ℕ) → get_or row 3 0 < get_or row 4 0 → Some 8 ≡ order_fault 3 row
unfolding order_fault order_tests first_failing least_from orders layout_in index_in number_of
stream_sizes row h = rw (not_in_order row 4 3 h, least_from) refl

pub returns-in-3 : goal.returns-in-3
returns-in-3 c = rw c.in-3.is (stream_sizes c.args.row.now c.if-row-3.true)

port_loads : (row : List ℕ) → get_or row 2 0 < get_or row 1 0 → Some 4 ≡ order_fault 4 row
unfolding order_fault order_tests first_failing least_from orders layout_in index_in number_of
port_loads row h = rw (not_in_order row 1 2 h, least_from) refl

pub returns-in-4 : goal.returns-in-4
returns-in-4 c = rw c.in-4.is (port_loads c.args.row.now c.if-row-4.true)

header_right : (row : List ℕ) → get_or row 6 0 ≤ get_or row 7 0 → get_or row 8 0 ≤ get_or row 9 0 → None ≡ order_fault 0 row
unfolding order_fault order_tests first_failing least_from orders layout_in index_in number_of
header_right row h j = rw (in_order_lem row 6 7 h, in_order_lem row 8 9 j, least_from) refl

pub returns-in_default : goal.returns-in_default
returns-in_default c = rw c.in-0.is (header_right c.args.row.now c.if-row.false c.if-row-2.false)

stream_right : (row : List ℕ) → get_or row 4 0 ≤ get_or row 3 0 → None ≡ order_fault 3 row
unfolding order_fault order_tests first_failing least_from orders layout_in index_in number_of
stream_right row h = rw (in_order_lem row 4 3 h, least_from) refl

pub returns-in_default-2 : goal.returns-in_default-2
returns-in_default-2 c = rw c.in-3.is (stream_right c.args.row.now c.if-row-3.false)

port_right : (row : List ℕ) → get_or row 1 0 ≤ get_or row 2 0 → None ≡ order_fault 4 row
unfolding order_fault order_tests first_failing least_from orders layout_in index_in number_of
port_right row h = rw (in_order_lem row 1 2 h, least_from) refl

pub returns-in_default-3 : goal.returns-in_default-3
returns-in_default-3 c = rw c.in-4.is (port_right c.args.row.now c.if-row-4.false)

pub returns-in_default-4 : goal.returns-in_default-4
unfolding order_fault order_tests first_failing least_from orders layout_in index_in number_of
returns-in_default-4 c = rw (no_orders c.args.kind (omega arith) (omega arith) (omega arith)) refl

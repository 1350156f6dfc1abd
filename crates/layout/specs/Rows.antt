-- A record as a row of numbers, one for each field: as they are stored, as they are meant, and the named tests that refuse it.
-- Assumes nothing.
use Rattle.std.specs.Prelude.{ℕ, ◌+◌, ◌*◌, ◌^◌, Bool, ◌&&◌, List, [], ◌∷◌, ◌++◌, map, leb, length, get_or, replicate, Option}
use Rattle.base.specs.Pick.{pick}
use Rattle.base.specs.Tests.{is_some, number_or0, first_failing}
use Rattle.base.specs.Tabulate.{total}
use Rattle.bits.specs.Rows.{read_all}
use Rattle.layout.specs.declared.Shape.{Shape}
use Rattle.layout.specs.declared.Way.{Way}
use Rattle.layout.specs.declared.Name.{Name}
use Rattle.layout.specs.declared.Order.{Order}
use Rattle.layout.specs.Limits.{Limits, limits}
use Rattle.layout.specs.Names.{place_in}
use Rattle.layout.specs.Layout.{layout_in, layout, kind_of, place_of, orders, widths}
use Rattle.layout.specs.Fields.{is_padding, convert}

-- ---- a row in the table
-- whether a list of n bytes has fields of these widths from bit a on, and is short enough that its bits can be counted
unfoldable pub row_room : ℕ → ℕ → List ℕ → Bool
row_room n a ws = leb n (2 ^ 32) && leb (a + total ws) (8 * n)

-- the stored numbers of the row of a kind from bit a on; zeros where the table has no such row
unfoldable pub row_at : List ℕ → ℕ → ℕ → List ℕ
row_at bytes a kind =
    pick (row_room (length bytes) a (widths kind)) (read_all bytes a (widths kind)) (replicate (length (widths kind)) 0)

-- ---- stored and meant
-- each number of a row converted, 0 where it is out of range; a row that is too short goes on with zeros
unfoldable pub converted : Way → List Shape → List ℕ → List ℕ
converted way [] row = []
converted way (s ∷ ss) [] = number_or0 (convert way s 0) ∷ converted way ss []
converted way (s ∷ ss) (n ∷ row) = number_or0 (convert way s n) ∷ converted way ss row

-- the number of the field of this name
unfoldable pub named : ℕ → List ℕ → Name → ℕ
named kind row n = get_or row (place_of kind n) 0

-- how many numbers a record has in the lists: all its fields but the padding, which is the last
unfoldable pub listed_in : List Shape → ℕ
listed_in [] = 0
listed_in (s ∷ ss) = pick (is_padding s.kind) 0 1 + listed_in ss

-- by the section: every version has as many, so that version 1 tells them
unfoldable pub listed : ℕ → ℕ
listed section = listed_in (layout (kind_of 1 section))

-- ---- the tests of a row, in 01's order: each field's own range, then the pairs of fields that are in order
-- 4: "a record's field or padding out of range"
unfoldable pub field_tests : Way → List Shape → List ℕ → List Bool
field_tests way [] row = []
field_tests way (s ∷ ss) [] = is_some (convert way s 0) ∷ field_tests way ss []
field_tests way (s ∷ ss) (n ∷ row) = is_some (convert way s n) ∷ field_tests way ss row

-- "each least at most its greatest"
unfoldable pub order_tests : List Shape → List Order → List ℕ → List Bool
order_tests ss os row = map (λ (o : Order). leb (get_or row (place_in ss o.lesser) 0) (get_or row (place_in ss o.greater) 0)) os

unfoldable pub row_fault_in : Limits → Way → ℕ → List ℕ → Option ℕ
row_fault_in l way kind row = first_failing (field_tests way (layout_in l kind) row ++ order_tests (layout_in l kind) (orders kind) row)

-- with the limits in force
abbrev pub row_fault : Way → ℕ → List ℕ → Option ℕ
row_fault way kind row = row_fault_in limits way kind row

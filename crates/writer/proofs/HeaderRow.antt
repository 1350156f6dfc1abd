-- The header that the lists ask for, as the array that holds it: the version, the counts, the delays, and padding.
-- Assumes nothing.
use mathlib.Core.Path.{◌≡◌, refl, sym}
use mathlib.Core.List.{[], ◌∷◌}
use lib.ListN.{get_or}
use Rattle.base.specs.Tabulate.{tabulate}
use Rattle.layout.specs.Names.{number_of, index_in}
use Rattle.layout.specs.Promises.{wide}
use Rattle.layout.proofs.WideLaws.{wide_full}
use Rattle.table.specs.Lists.{Lists}
use Rattle.table.specs.Write.{header_for, count}

pub header_is : (ls : Lists)
    → get_or ls.header 0 0
    ∷ count ls 1
    ∷ count ls 2
    ∷ count ls 3
    ∷ count ls 4
    ∷ count ls 5
    ∷ get_or ls.header 1 0
    ∷ get_or ls.header 2 0
    ∷ get_or ls.header 3 0
    ∷ get_or ls.header 4 0
    ∷ 0
    ∷ []
    ≡ wide (header_for ls)
unfolding header_for index_in number_of tabulate count
header_is ls = sym (wide_full (header_for ls) refl)

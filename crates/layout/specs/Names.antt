-- The fields of the table's records by their names, and where a record has the field of a name.
-- Assumes nothing.
use Rattle.std.specs.Prelude.{ℕ, suc, Bool, List, [], ◌∷◌, map, eqb}
use Rattle.base.specs.Pick.{pick}
use Rattle.layout.specs.declared.Name.{Name}
use Rattle.layout.specs.declared.Name.TheVariants as name
use Rattle.layout.specs.declared.Shape.{Shape}

-- names differ if their numbers do
unfoldable pub number_of : Name → ℕ
number_of name.Version = 0
number_of name.EndSystems = 1
number_of name.Vls = 2
number_of name.Streams = 3
number_of name.Ports = 4
number_of name.Hops = 5
number_of name.SendLeast = 6
number_of name.SendGreatest = 7
number_of name.ReceiveLeast = 8
number_of name.ReceiveGreatest = 9
number_of name.Padding = 10
number_of name.Speed = 11
number_of name.EndSystem = 12
number_of name.Gap = 13
number_of name.SubLinks = 14
number_of name.Lmax = 15
number_of name.Vl = 16
number_of name.SubLink = 17
number_of name.Kind = 18
number_of name.Size = 19
number_of name.LeastSize = 20
number_of name.Period = 21
number_of name.Jitter = 22
number_of name.SwitchLeast = 23
number_of name.SwitchGreatest = 24
number_of name.Port = 25
number_of name.Parent = 26

abbrev pub same : Name → Name → Bool
same a b = eqb (number_of a) (number_of b)

-- the place of a name among these; behind the last where it is none of them
unfoldable pub index_in : List Name → Name → ℕ
index_in [] n = 0
index_in (m ∷ ms) n = pick (same m n) 0 (suc (index_in ms n))

-- the place of the field of this name
abbrev pub place_in : List Shape → Name → ℕ
place_in ss n = index_in (map (λ (s : Shape). s.name) ss) n

-- What a stored field means, and how a meaning is stored. The lists that the unpacker fills and the writer takes hold meanings: gaps in
-- milliseconds, speeds in Mbit/s, sub-links from 1.
-- Assumes nothing.
use Rattle.std.specs.Prelude.{ℕ, ◌+◌, ◌-◌, ◌^◌, Bool, true, false, ltb, eqb, Option, None, Some}
use Rattle.base.specs.Pick.{pick, within}
use Rattle.frame.specs.Gap.{code_of, ms_of}
use Rattle.layout.specs.declared.Kind.{Kind}
use Rattle.layout.specs.declared.Kind.TheVariants.{Number, Reference, Padding, Gap, LessOne, Speed}
use Rattle.layout.specs.declared.Shape.{Shape}
use Rattle.layout.specs.declared.Way.{Way}
use Rattle.layout.specs.declared.Way.TheVariants.{Reading, Writing}

-- padding is in no list
unfoldable pub is_padding : Kind → Bool
is_padding (Number low high) = false
is_padding Reference = false
is_padding Padding = true
is_padding Gap = false
is_padding LessOne = false
is_padding Speed = false

-- what a stored number means; none where it is out of range
unfoldable pub meaning : Kind → ℕ → Option ℕ
meaning (Number low high) n = pick (within low high n) (Some n) None
-- a reference has no range of its own: whether it names a row is looked at later (5)
meaning Reference n = Some n
-- "Padding is zero."
meaning Padding n = pick (eqb n 0) (Some 0) None
-- "The writer and the unpacker speak of milliseconds"
meaning Gap n = ms_of n
-- "sub-links less one 2": 1 to 4
meaning LessOne n = pick (ltb n 4) (Some (n + 1)) None
-- "speed 1 (0: 100, 1: 10 Mbit/s)"
meaning Speed n = pick (eqb n 0) (Some 100) (pick (eqb n 1) (Some 10) None)

-- how a meaning is stored in a field of this kind and width; none where it is out of range, "also for a value wider than its field"
unfoldable pub stored_as : Kind → ℕ → ℕ → Option ℕ
stored_as (Number low high) width v = pick (within low high v) (Some v) None
stored_as Reference width v = pick (ltb v (2 ^ width)) (Some v) None
stored_as Padding width v = pick (eqb v 0) (Some 0) None
stored_as Gap width v = code_of v
stored_as LessOne width v = pick (within 1 4 v) (Some (v - 1)) None
stored_as Speed width v = pick (eqb v 100) (Some 0) (pick (eqb v 10) (Some 1) None)

-- the one or the other
unfoldable pub convert : Way → Shape → ℕ → Option ℕ
convert Reading s n = meaning s.kind n
convert Writing s v = stored_as s.kind s.width v

-- 01, The packed table: the fields of each kind of record, in order, with names, widths in bits and what each stands for; and the kind of
-- record that each version has in each section. This is the schema, as data: all else follows from it. Assumes nothing.
use Rattle.std.specs.Prelude.{ℕ, ◌-◌, ◌/◌, List, [], ◌∷◌, map, length, get_or}
use Rattle.base.specs.Tabulate.{total}
use Rattle.layout.specs.declared.Kind.{Kind}
use Rattle.layout.specs.declared.Kind.TheVariants.{Number, Reference, Padding, Gap, LessOne, Speed}
use Rattle.layout.specs.declared.Name.{Name}
use Rattle.layout.specs.declared.Name.TheVariants as name
use Rattle.layout.specs.declared.Shape.{Shape}
use Rattle.layout.specs.declared.Order.{Order}
use Rattle.layout.specs.Limits.{Limits, limits}
use Rattle.layout.specs.Names.{place_in}

abbrev pub field : Name → ℕ → Kind → Shape
field n width kind = record { name = n; width = width; kind = kind }

-- "0 header: version 8 (=1), end systems 8, VLs 12, streams 12, ports 8, hops 12,
-- send delay least 12, greatest 12, receive delay least 12, greatest 12, padding 4"
-- "send and receive delays at most 1,875"
abbrev pub header : Limits → List Shape
header l =
    field name.Version 8 (Number 1 1)
    ∷ field name.EndSystems 8 (Number 0 l.systems)
    ∷ field name.Vls 12 (Number 0 l.vls)
    ∷ field name.Streams 12 (Number 0 l.streams)
    ∷ field name.Ports 8 (Number 0 l.ports)
    ∷ field name.Hops 12 (Number 0 l.hops)
    ∷ field name.SendLeast 12 (Number 0 1875)
    ∷ field name.SendGreatest 12 (Number 0 1875)
    ∷ field name.ReceiveLeast 12 (Number 0 1875)
    ∷ field name.ReceiveGreatest 12 (Number 0 1875)
    ∷ field name.Padding 4 Padding
    ∷ []

-- "1 end system: speed 1 (0: 100, 1: 10 Mbit/s), padding 7"
abbrev pub end_system : List Shape
end_system = field name.Speed 1 Speed ∷ field name.Padding 7 Padding ∷ []

-- "2 VL: end system 8, BAG code 3, sub-links less one 2, Lmax 11"; "Lmax 64 to 1,518"
abbrev pub vl : List Shape
vl = field name.EndSystem 8 Reference ∷ field name.Gap 3 Gap ∷ field name.SubLinks 2 LessOne ∷ field name.Lmax 11 (Number 64 1518) ∷ []

-- "3 stream: VL 12, sub-link 2, kind 1 (1: sampling), M 14, least M 14, period 27, jitter 27, padding 7"
-- "M 1 to 8,192; least M 1 to M; period 12,500 to 125,000,000; jitter 0 to 125,000,000"
abbrev pub stream : List Shape
stream =
    field name.Vl 12 Reference
    ∷ field name.SubLink 2 Reference
    ∷ field name.Kind 1 (Number 0 1)
    ∷ field name.Size 14 (Number 1 8192)
    ∷ field name.LeastSize 14 (Number 1 8192)
    ∷ field name.Period 27 (Number 12500 125000000)
    ∷ field name.Jitter 27 (Number 0 125000000)
    ∷ field name.Padding 7 Padding
    ∷ []

-- "4 port: speed 1, switch delay least 12, greatest 12, padding 7"; "switch delay at most 1,250"
abbrev pub port : List Shape
port =
    field name.Speed 1 Speed
    ∷ field name.SwitchLeast 12 (Number 0 1250)
    ∷ field name.SwitchGreatest 12 (Number 0 1250)
    ∷ field name.Padding 7 Padding
    ∷ []

-- "5 hop: VL 12, port 8, parent 12 (0: none, else parent's row + 1)"
abbrev pub hop : List Shape
hop = field name.Vl 12 Reference ∷ field name.Port 8 Reference ∷ field name.Parent 12 Reference ∷ []

-- ---- kinds of records
-- kinds 0 to 5 are those of version 1's sections
abbrev pub kinds : Limits → List (List Shape)
kinds l = header l ∷ end_system ∷ vl ∷ stream ∷ port ∷ hop ∷ []

-- the fields of a record by its kind; there are none after the last
unfoldable pub layout_in : Limits → ℕ → List Shape
layout_in l kind = get_or (kinds l) kind []

-- with the limits in force
abbrev pub layout : ℕ → List Shape
layout kind = layout_in limits kind

-- the kinds of the records that each version has in its sections, in order, version 1 first. Every version has the same numbers in the
-- lists: a field that it does not have is one of 0 bits, `Number 0 0`.
abbrev pub versions : List (List ℕ)
versions = (0 ∷ 1 ∷ 2 ∷ 3 ∷ 4 ∷ 5 ∷ []) ∷ []

-- those of one version. Any version but a known one is as version 1: 2 is given before it matters.
unfoldable pub kinds_of : ℕ → List ℕ
kinds_of version = get_or versions (version - 1) (get_or versions 0 [])

-- there is no section after the last, and no kind of that number
unfoldable pub kind_of : ℕ → ℕ → ℕ
kind_of version section = get_or (kinds_of version) section (length (kinds limits))

-- what a record has past its last field, where a contract speaks of the field at a place
abbrev pub blank : Shape
blank = field name.Padding 0 Padding

-- where a record has the field of a name
abbrev pub place_of : ℕ → Name → ℕ
place_of kind n = place_in (layout kind) n

-- the numbers of the header that stand in a list of their own, beside the counts: the version, which travels with the lists, and the delays
abbrev pub header_names : List Name
header_names = name.Version ∷ name.SendLeast ∷ name.SendGreatest ∷ name.ReceiveLeast ∷ name.ReceiveGreatest ∷ []

-- one field that is at most another: "each least at most its greatest", "least M 1 to M"
abbrev order : Name → Name → Order
order a b = record { lesser = a; greater = b }

-- the pairs of fields of a record that are in order, by its kind
abbrev pub pairs : List (List Order)
pairs =
    (order name.SendLeast name.SendGreatest ∷ order name.ReceiveLeast name.ReceiveGreatest ∷ [])
    ∷ []
    ∷ []
    ∷ (order name.LeastSize name.Size ∷ [])
    ∷ (order name.SwitchLeast name.SwitchGreatest ∷ [])
    ∷ []

unfoldable pub orders : ℕ → List Order
orders kind = get_or pairs kind []

-- what a record has past its last pair, where a contract speaks of the pair at a place
abbrev pub no_order : Order
no_order = order name.Padding name.Padding

-- the widths of a record's fields, and its bytes: 14, 1, 3, 13, 4 and 4
unfoldable pub widths : ℕ → List ℕ
widths kind = map (λ (s : Shape). s.width) (layout kind)

unfoldable pub size : ℕ → ℕ
size kind = total (widths kind) / 8

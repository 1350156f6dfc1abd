-- What a field is called in docs/TABLE.md and in the sentences of `pack`, as bytes.
-- Assumes nothing.
use Rattle.std.specs.Prelude.{ℕ, List, [], ◌∷◌}
use Rattle.layout.specs.declared.Name.{Name}
use Rattle.layout.specs.declared.Name.TheVariants as name

unfoldable pub called : Name → List ℕ
-- version
called name.Version = 118 ∷ 101 ∷ 114 ∷ 115 ∷ 105 ∷ 111 ∷ 110 ∷ []
-- end systems
called name.EndSystems = 101 ∷ 110 ∷ 100 ∷ 32 ∷ 115 ∷ 121 ∷ 115 ∷ 116 ∷ 101 ∷ 109 ∷ 115 ∷ []
-- VLs
called name.Vls = 86 ∷ 76 ∷ 115 ∷ []
-- streams
called name.Streams = 115 ∷ 116 ∷ 114 ∷ 101 ∷ 97 ∷ 109 ∷ 115 ∷ []
-- ports
called name.Ports = 112 ∷ 111 ∷ 114 ∷ 116 ∷ 115 ∷ []
-- hops
called name.Hops = 104 ∷ 111 ∷ 112 ∷ 115 ∷ []
-- send delay least
called name.SendLeast = 115 ∷ 101 ∷ 110 ∷ 100 ∷ 32 ∷ 100 ∷ 101 ∷ 108 ∷ 97 ∷ 121 ∷ 32 ∷ 108 ∷ 101 ∷ 97 ∷ 115 ∷ 116 ∷ []
-- send delay greatest
called name.SendGreatest = 115 ∷ 101 ∷ 110 ∷ 100 ∷ 32 ∷ 100 ∷ 101 ∷ 108 ∷ 97 ∷ 121 ∷ 32 ∷ 103 ∷ 114 ∷ 101 ∷ 97 ∷ 116 ∷ 101 ∷ 115 ∷ 116 ∷ []
-- receive delay least
called name.ReceiveLeast = 114 ∷ 101 ∷ 99 ∷ 101 ∷ 105 ∷ 118 ∷ 101 ∷ 32 ∷ 100 ∷ 101 ∷ 108 ∷ 97 ∷ 121 ∷ 32 ∷ 108 ∷ 101 ∷ 97 ∷ 115 ∷ 116 ∷ []
-- receive delay greatest
called name.ReceiveGreatest =
    114 ∷ 101 ∷ 99 ∷ 101 ∷ 105 ∷ 118 ∷ 101 ∷ 32 ∷ 100 ∷ 101 ∷ 108 ∷ 97 ∷ 121 ∷ 32 ∷ 103 ∷ 114 ∷ 101 ∷ 97 ∷ 116 ∷ 101 ∷ 115 ∷ 116 ∷ []
-- padding
called name.Padding = 112 ∷ 97 ∷ 100 ∷ 100 ∷ 105 ∷ 110 ∷ 103 ∷ []
-- speed
called name.Speed = 115 ∷ 112 ∷ 101 ∷ 101 ∷ 100 ∷ []
-- end system
called name.EndSystem = 101 ∷ 110 ∷ 100 ∷ 32 ∷ 115 ∷ 121 ∷ 115 ∷ 116 ∷ 101 ∷ 109 ∷ []
-- gap
called name.Gap = 103 ∷ 97 ∷ 112 ∷ []
-- sub-links
called name.SubLinks = 115 ∷ 117 ∷ 98 ∷ 45 ∷ 108 ∷ 105 ∷ 110 ∷ 107 ∷ 115 ∷ []
-- Lmax
called name.Lmax = 76 ∷ 109 ∷ 97 ∷ 120 ∷ []
-- VL
called name.Vl = 86 ∷ 76 ∷ []
-- sub-link
called name.SubLink = 115 ∷ 117 ∷ 98 ∷ 45 ∷ 108 ∷ 105 ∷ 110 ∷ 107 ∷ []
-- kind
called name.Kind = 107 ∷ 105 ∷ 110 ∷ 100 ∷ []
-- M
called name.Size = 77 ∷ []
-- least M
called name.LeastSize = 108 ∷ 101 ∷ 97 ∷ 115 ∷ 116 ∷ 32 ∷ 77 ∷ []
-- period
called name.Period = 112 ∷ 101 ∷ 114 ∷ 105 ∷ 111 ∷ 100 ∷ []
-- jitter
called name.Jitter = 106 ∷ 105 ∷ 116 ∷ 116 ∷ 101 ∷ 114 ∷ []
-- switch delay least
called name.SwitchLeast = 115 ∷ 119 ∷ 105 ∷ 116 ∷ 99 ∷ 104 ∷ 32 ∷ 100 ∷ 101 ∷ 108 ∷ 97 ∷ 121 ∷ 32 ∷ 108 ∷ 101 ∷ 97 ∷ 115 ∷ 116 ∷ []
-- switch delay greatest
called name.SwitchGreatest =
    115 ∷ 119 ∷ 105 ∷ 116 ∷ 99 ∷ 104 ∷ 32 ∷ 100 ∷ 101 ∷ 108 ∷ 97 ∷ 121 ∷ 32 ∷ 103 ∷ 114 ∷ 101 ∷ 97 ∷ 116 ∷ 101 ∷ 115 ∷ 116 ∷ []
-- port
called name.Port = 112 ∷ 111 ∷ 114 ∷ 116 ∷ []
-- parent
called name.Parent = 112 ∷ 97 ∷ 114 ∷ 101 ∷ 110 ∷ 116 ∷ []

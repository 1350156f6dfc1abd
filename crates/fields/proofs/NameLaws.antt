-- A name that an arm of a `match` leaves over is none of those that have an arm: the tag of a name is its number, and the tag tells the name.
-- Assumes nothing.
use mathlib.Core.Path.{◌≡◌, refl, sym, ◌∙◌}
use mathlib.Core.Bool.{false}
use denote.Enum.Bare.{tag_one}
use denote.Enum.Declared.{tag_of}
use borrow.Author.Tests.{ne_eqb}
use lib.Dec.{eqb}
use Rattle.layout.specs.Names.{number_of}
use Rattle.layout.specs.declared.Name.{Name}
use Rattle.layout.specs.declared.Name.TheVariants as name
use Rattle.layout.specs.contracts.Name as names

tag_is : (n : Name) → tag_of names.the_type n ≡ number_of n
unfolding number_of
tag_is name.Version = refl
tag_is name.EndSystems = refl
tag_is name.Vls = refl
tag_is name.Streams = refl
tag_is name.Ports = refl
tag_is name.Hops = refl
tag_is name.SendLeast = refl
tag_is name.SendGreatest = refl
tag_is name.ReceiveLeast = refl
tag_is name.ReceiveGreatest = refl
tag_is name.Padding = refl
tag_is name.Speed = refl
tag_is name.EndSystem = refl
tag_is name.Gap = refl
tag_is name.SubLinks = refl
tag_is name.Lmax = refl
tag_is name.Vl = refl
tag_is name.SubLink = refl
tag_is name.Kind = refl
tag_is name.Size = refl
tag_is name.LeastSize = refl
tag_is name.Period = refl
tag_is name.Jitter = refl
tag_is name.SwitchLeast = refl
tag_is name.SwitchGreatest = refl
tag_is name.Port = refl
tag_is name.Parent = refl

pub left_over : (n v : Name) → (n ≡ v → ⊥) → eqb (number_of n) (number_of v) ≡ false
left_over n v h = ne_eqb (number_of n) (number_of v) (λ e. h (tag_one names.the_type tt n v (tag_is n ∙ e ∙ sym (tag_is v))))

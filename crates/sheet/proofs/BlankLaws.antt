-- The blank sheet is zeros in every list.
-- Assumes nothing.
use Prim.Native.Nat.{ℕ, ◌*◌}
use mathlib.Core.List.{List}
use mathlib.Core.Path.{◌≡◌, ap, sym, ◌∙◌}
use lib.ListN.{replicate}
use Rattle.layout.specs.Limits.{limits}
use Rattle.sheet.specs.declared.Sheet.{Sheet}
use Rattle.sheet.specs.Sheet.{blank}
use Rattle.sheet.proofs.RoomLaws.{rooms_are}

-- lists of zeros, as many as the code has room for, are those of the blank sheet
pub record Zeros (header systems vls streams ports hops : List ℕ) : Type 0 where
  pub header_is : header ≡ replicate 5 0
  pub systems_are : systems ≡ replicate limits.systems 0
  pub vls_are : vls ≡ replicate (limits.vls * 4) 0
  pub streams_are : streams ≡ replicate (limits.streams * 7) 0
  pub ports_are : ports ≡ replicate (limits.ports * 3) 0
  pub hops_are : hops ≡ replicate (limits.hops * 3) 0

pub blank_is : {header systems vls streams ports hops : List ℕ} → Zeros header systems vls streams ports hops
    → ◌≡◌ {A = Sheet}
    (record {
      header = header;
      counts = record { systems = 0; vls = 0; streams = 0; ports = 0; hops = 0 };
      systems = systems;
      vls = vls;
      streams = streams;
      ports = ports;
      hops = hops;
    })
    blank
unfolding blank
blank_is z =
    let zeros : ℕ → List ℕ = λ n. replicate n 0 in
    λ i. record {
      header = z.header_is i;
      counts = record { systems = 0; vls = 0; streams = 0; ports = 0; hops = 0 };
      systems = (z.systems_are ∙ ap zeros (sym rooms_are.systems)) i;
      vls = (z.vls_are ∙ ap zeros (sym rooms_are.vls)) i;
      streams = (z.streams_are ∙ ap zeros (sym rooms_are.streams)) i;
      ports = (z.ports_are ∙ ap zeros (sym rooms_are.ports)) i;
      hops = (z.hops_are ∙ ap zeros (sym rooms_are.hops)) i;
    }

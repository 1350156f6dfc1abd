-- What a walk over the rows of a sheet reads: a record as it stands there, whatever the count says, and one of zeros where the sheet has no
-- room for the row; below the count it is the network's. And which hops are leaves. Assumes nothing.
use Rattle.std.specs.Prelude.{ℕ, Bool, List}
use Rattle.base.specs.Tabulate.{tabulate}
use Rattle.layout.specs.Limits.{most}
use Rattle.network.specs.declared.Stream.{Stream}
use Rattle.network.specs.declared.Hop.{Hop}
use Rattle.network.specs.Network.{stream_at, hop_at}
use Rattle.network.specs.Views.{leaf}
use Rattle.table.specs.Decoded.{network_of}
use Rattle.sheet.specs.declared.Sheet.{Sheet}
use Rattle.sheet.specs.Sheet.{lists_to, network_on}

unfoldable pub stream_row : Sheet → ℕ → Stream
stream_row sheet s = stream_at (network_of (lists_to most sheet)) s

unfoldable pub hop_row : Sheet → ℕ → Hop
hop_row sheet h = hop_at (network_of (lists_to most sheet)) h

-- "each hop .. that is nobody's parent"
unfoldable pub leaves_on : Sheet → List Bool
leaves_on sheet = tabulate (leaf (network_on sheet)) (most 5)

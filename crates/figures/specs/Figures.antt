-- The figures of a table by row: the mux wait of each VL, the queue figure of each sub-link, the figure of each hop; and what the routine
-- promises of them, whatever the lent lists held before. Assumes nothing.
use Rattle.std.specs.Prelude.{ℕ, ◌*◌, ◌/◌, ◌%◌, List, ◌≡◌, ltb, length, replicate}
use Rattle.base.specs.Pick.{pick}
use Rattle.base.specs.Tabulate.{tabulate}
use Rattle.layout.specs.Limits.{most, limits}
use Rattle.network.specs.Network.{Network, vl_at}
use Rattle.table.specs.declared.Answer.{Answer}
use Rattle.table.specs.Lists.{unpacked}
use Rattle.table.specs.Unpack.{left}
use Rattle.table.specs.Read.{network_in}
use Rattle.sheet.specs.declared.Sheet.{Sheet}
use Rattle.sheet.specs.Sheet.{sheet_of, blank}
use Rattle.rows.specs.Links.{mux_wait}
use Rattle.rows.specs.Queues.{queue_figure}
use Rattle.rows.specs.Ports.{figure_of}
use Rattle.answers.specs.Analysis.{analysis_answer, accepts}
use Rattle.figures.specs.declared.found.Figures.{Figures}

unfoldable pub waits_of : Network → List ℕ
waits_of net = tabulate (mux_wait net) (length net.vls)

-- a VL has 1 to 4 sub-links: sub-link k of VL v stands at v * 4 + k, with 0 where the VL has no such sub-link
unfoldable pub queue_at : Network → ℕ → ℕ
queue_at net i = pick (ltb (i % 4) (vl_at net (i / 4)).sublinks) (queue_figure net (i / 4) (i % 4)) 0

unfoldable pub queues_of : Network → List ℕ
queues_of net = tabulate (queue_at net) (length net.vls * 4)

unfoldable pub hop_figures : Network → List ℕ
hop_figures net = tabulate (figure_of net) (length net.hops)

-- the figures of no network: zeros
unfoldable pub no_figures : Figures
no_figures = record { waits = replicate limits.vls 0; queues = replicate (limits.vls * 4) 0; hops = replicate limits.hops 0 }

-- the answer 1 to 10 to a table and a lent result of `room` numbers; on acceptance the sheet of the table and its figures, and
-- "Each refusal leaves every lent result all zero; an acceptance leaves zero after what it wrote."
pub record Figured (bytes : List ℕ) (room : ℕ) (r : Answer) (sheet : Sheet) (found : Figures) : Type 0 where
  pub answer_is : r ≡ analysis_answer bytes room
  pub sheet_is : sheet ≡ pick (accepts bytes room) (sheet_of (unpacked bytes)) blank
  pub waits_are : found.waits ≡ left (accepts bytes room) (most 2) (waits_of (network_in bytes))
  pub queues_are : found.queues ≡ left (accepts bytes room) (most 2 * 4) (queues_of (network_in bytes))
  pub hops_are : found.hops ≡ left (accepts bytes room) (most 5) (hop_figures (network_in bytes))

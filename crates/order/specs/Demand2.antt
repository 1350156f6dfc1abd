-- The order, demand 2: "Each figure equals what 01 lays down .. number for number. Where refusals 1 to 8 do not apply, a load refusal is
-- given exactly if no busy length within 01's limit exists. Fields written to a table read back the same, and an accepted table, unpacked
-- and written again, gives the same bytes." Assumes nothing.
use Rattle.std.specs.Prelude.{ℕ, zero, suc, ◌*◌, ◌%◌, ◌^◌, ◌≤◌, ◌<◌, List, ◌≡◌, length, get_or, take, None, Some}
use Rattle.base.specs.Tests.{number_or0}
use Rattle.bits.specs.Bits.{Bytes}
use Rattle.frame.specs.AsIpCuts.{CutsAsIp}
use Rattle.frame.specs.Frame.{least_line, largest_line}
use Rattle.frame.specs.Gap.{gap_of}
use Rattle.frame.specs.Packets.{packets}
use Rattle.frame.specs.Tick.{per_ms}
use Rattle.layout.specs.declared.Name.TheVariants as name
use Rattle.layout.specs.Layout.{header_names}
use Rattle.layout.specs.Rows.{named, listed}
use Rattle.network.specs.Network.{Network, vl_at, stream_at, port_at, hop_at}
use Rattle.station.specs.Station.{figure}
use Rattle.table.specs.Answers.{accepted}
use Rattle.table.specs.Sections.{row, lent}
use Rattle.table.specs.Unpack.{Unpacked, counted, Unpacks}
use Rattle.table.specs.Lists.{Lists, lists_by, list_for, unpacked}
use Rattle.table.specs.Write.{Written, Writes}
use Rattle.table.specs.Read.{network_in, read_answer}
use Rattle.table.specs.RoundTrip.{RoomFor, UnpackAfterWrite, WriteAfterUnpack, Determined}
use Rattle.rows.specs.Links.{hop_line}
use Rattle.rows.specs.Queues.{queue_flows, queue_length}
use Rattle.rows.specs.Ports.{Figures, figure_of, jitter_of}
use Rattle.rows.specs.Rows.{worst, best, rows_of}
use Rattle.answers.specs.Analysis.{analysis_answer, joined}
use Rattle.analysis.specs.Analysis.{Analysed, Analyses}
use Rattle.order.specs.Exact.{Exact9, Exact10, ExactAccepted, ExactThree, JittersExist, OneListOfFlows}

-- "Each figure equals what 01 lays down": the lent result holds 01's rows of the network that the bytes describe, and then zeros
pub record RowsAre (bytes : List ℕ) (room : ℕ) (r : Analysed) (result : List ℕ) : Type 0 where
  pub count : r.rows ≡ length (rows_of (network_in bytes))
  pub rows : result ≡ lent room (joined (rows_of (network_in bytes)))

-- 01's rules for port figures and jitters, which speak of one another, have one solution: that of the rows
pub record OneSolution (net : Network) : Type 0 where
  pub kept : Figures net (figure_of net) (jitter_of net)
  pub only_figure : (figure_at jitter_at : ℕ → ℕ) → Figures net figure_at jitter_at
      → (h : ℕ) → h < length net.hops → figure_at h ≡ figure_of net h
  pub only_jitter : (figure_at jitter_at : ℕ → ℕ) → Figures net figure_at jitter_at
      → (h : ℕ) → h < length net.hops → jitter_at h ≡ jitter_of net h

-- 01's rules subtract, and the definitions' difference of natural numbers is cut off at 0: here it never is, so that
-- each is the difference that 01 means
pub record NothingCutOff (net : Network) : Type 0 where
  -- "S = Lmax − 39" (M-103)
  pub fragment : (v : ℕ) → v < length net.vls → 39 ≤ (vl_at net v).lmax
  -- "J raised by (greatest − least send delay)"
  pub send_delay : net.send_least ≤ net.send_greatest
  -- "the station figure less one BAG"
  pub queue :
      (s : ℕ) → s < length net.streams → let v = (stream_at net s).vl in let k = (stream_at net s).sublink in
      (vl_at net v).gap ≤ figure (queue_flows net v k) (number_or0 (queue_length net v k))
  -- "(20 + Lmax − 84) × ticks per byte of the end system"
  pub line : (v : ℕ) → v < length net.vls → least_line ≤ largest_line (vl_at net v).lmax
  -- "switch delay greatest − least"
  pub switch_delay : (p : ℕ) → p < length net.ports → (port_at net p).least ≤ (port_at net p).greatest
  -- "the parent's jitter + parent port's figure − 84 × its ticks per byte"
  pub child_jitter_says : (g : ℕ) → g < length net.hops → hop_line net g ≤ figure_of net g
  -- "(least packets − 1) × BAG"
  pub least_packets : (s : ℕ) → s < length net.streams → 1 ≤ packets (stream_at net s).least (vl_at net (stream_at net s).vl).lmax
  -- "jitter = the stream's jitter + worst − best", for every hop of the stream's VL
  pub row_jitter_says : (s h : ℕ) → s < length net.streams → h < length net.hops → (hop_at net h).vl ≡ (stream_at net s).vl
      → best net s h ≤ worst net s h

-- 01, BAG codes: the table of gaps, which the network's gaps, milliseconds made ticks, agree with
pub record GapTable : Type 0 where
  -- "BAG codes 0 to 7 stand for these gaps in ticks": code k for 2 ^ k ms
  pub in_ticks : (code : ℕ) → code < 8 → gap_of code ≡ Some (per_ms * 2 ^ code)
  -- and there is no other code
  pub no_other : (code : ℕ) → 8 ≤ code → gap_of code ≡ None
  -- each gap divides the longest, 1,600,000 ticks, which is the cycle that the station's code goes by
  pub evenly : (code : ℕ) → code < 8 → 1600000 % (per_ms * 2 ^ code) ≡ 0
  -- the code of a VL stands in its record, in section 2: the VL's gap in the network is the gap of that code
  pub of_vl_says :
      (bytes : List ℕ) → read_answer bytes ≡ accepted
      → (v : ℕ) → v < length (network_in bytes).vls → gap_of (named 2 (row bytes 2 v) name.Gap) ≡ Some (vl_at (network_in bytes) v).gap

-- what a caller has in hand of the six lent lists: the header's numbers, and as many records of each section as the unpacker counted
unfoldable pub in_hand : Unpacked → ℕ → ℕ
in_hand u zero = length header_names
in_hand u (suc s) = get_or (counted u) s 0 * listed (suc s)

unfoldable pub fronts : Unpacked → Lists → Lists
fronts u after = lists_by (λ s. take (in_hand u s) (list_for after s))

-- the unpacker accepted, and a caller has these lists in hand, with zeros behind them in the lent lists
pub record UnpackedTo (ls before : Lists) (u : Unpacked) (after : Lists) : Type 0 where
  pub answer : u.answer ≡ accepted
  pub same_lists : fronts u after ≡ ls
  pub hold : (s : ℕ) → list_for after s ≡ lent (length (list_for before s)) (list_for ls s)

-- the writer accepted, and left these bytes at the front of `room` lent ones, with zeros behind them
pub record WrittenTo (bytes : List ℕ) (room : ℕ) (w : Written) (out : List ℕ) : Type 0 where
  pub answer : w.answer ≡ accepted
  pub same_length : w.length ≡ length bytes
  pub same_bytes : take w.length out ≡ bytes
  pub hold : out ≡ lent room bytes

pub record Demand2 : Type 0 where
  pub figures :
      (bytes : List ℕ) (room : ℕ) (r : Analysed) (result : List ℕ) → Analyses bytes room r result → r.answer ≡ accepted
      → RowsAre bytes room r result
  pub one_solution : (bytes : List ℕ) (room : ℕ) → analysis_answer bytes room ≡ accepted → OneSolution (network_in bytes)
  pub nothing_cut_off : (bytes : List ℕ) (room : ℕ) → analysis_answer bytes room ≡ accepted → NothingCutOff (network_in bytes)
  pub gap_table : GapTable
  -- M-103, "demands 2 and 3 read the new count from then on": what that count is, and how a message is cut by it
  pub as_ip_cuts : CutsAsIp
  -- "Where refusals 1 to 8 do not apply, a load refusal is given exactly if no busy length within 01's limit exists": 9 at the first VL
  -- with such a sub-link, else 10 at the first such port, else the table is accepted, and nothing else is answered
  pub load_refusal_9 : Exact9
  pub load_refusal_10 : Exact10
  pub no_load_refusal : ExactAccepted
  pub nothing_else : ExactThree
  -- 10 and acceptance speak of jitters from the lower ports' figures: there are some, and all give a port the same flows
  pub jitters_exist : JittersExist
  pub one_list_of_flows : OneListOfFlows
  -- "Fields written to a table read back the same": of the definitions, and of what the writer and then the unpacker leave. What the writer
  -- leaves is accepted by the unpacker, into any lent lists that are long enough, and a caller has the same lists in hand again
  pub unpack_after_write : UnpackAfterWrite
  pub written_then_unpacked :
      (ls : Lists) (room : ℕ) (w : Written) (out : List ℕ) → Writes ls room w out → w.answer ≡ accepted
      → (before : Lists) → RoomFor ls before
      → (u : Unpacked) (after : Lists) → Unpacks (take w.length out) before u after → UnpackedTo ls before u after
  -- "an accepted table, unpacked and written again, gives the same bytes": likewise. What the unpacker leaves a caller in hand is accepted
  -- by the writer, into any lent bytes that are long enough for the table. (`Bytes bytes`, each number is below 256, is so of any slice of
  -- u8: its content has no other numbers.)
  pub write_after_unpack : WriteAfterUnpack
  pub unpacked_is :
      (bytes : List ℕ) (before : Lists) (u : Unpacked) (after : Lists) → Unpacks bytes before u after → u.answer ≡ accepted
      → UnpackedTo (unpacked bytes) before u after
  pub unpacked_then_written :
      (bytes : List ℕ) → Bytes bytes
      → (before : Lists) (u : Unpacked) (after : Lists) → Unpacks bytes before u after → u.answer ≡ accepted
      → (room : ℕ) → length bytes ≤ room
      → (w : Written) (out : List ℕ) → Writes (fronts u after) room w out → WrittenTo bytes room w out
  pub determined : Determined

-- 01, Whole case: its table, byte by byte, and what the three demands say of it with 01's own numbers. It is proved in proofs/Whole.antt,
-- `whole_case : WholeCase`. Assumes nothing.
use Rattle.std.specs.Prelude.{ℕ, ◌+◌, ◌≤◌, ◌<◌, ◌≡◌, length}
use mathlib.Core.List.{List, [], ◌∷◌, Memᴰ}
use Rattle.network.specs.Network.{Network}
use Rattle.table.specs.Answers.{accepted}
use Rattle.table.specs.Sections.{lent}
use Rattle.table.specs.Read.{network_in}
use Rattle.answers.specs.Analysis.{analysis_answer}
use Rattle.analysis.specs.Analysis.{Analysed, Analyses}
use Rattle.machine.specs.Messages.{Message}
use Rattle.machine.specs.Machine.{Run, released}
use Rattle.machine.specs.Permitted.{PermittedBelow}
use Rattle.machine.specs.Runs.{Complete, Reaches}

-- "The header is 01 01 00 20 02 01 00 21 F4 3E 81 F4 1F 40, the table 59 bytes."
abbrev pub table : List ℕ
table =
    1 ∷ 1 ∷ 0 ∷ 32 ∷ 2 ∷ 1 ∷ 0 ∷ 33 ∷ 244 ∷ 62 ∷ 129 ∷ 244 ∷ 31 ∷ 64
    -- "one 100 Mbit/s end system": 00
    ∷ 0
    -- "VL 0: 1 ms, Lmax 1,518": 00 05 EE; "VL 1: 2 ms, Lmax 516": 00 22 04; "one sub-link each"
    ∷ 0 ∷ 5 ∷ 238
    ∷ 0 ∷ 34 ∷ 4
    -- "Stream 0: VL 0, queuing, M 2,000, least 1,000, T 250,000, J 0": 00 00 3E 80 7D 00 0F 42 40 00 00 00 00
    ∷ 0 ∷ 0 ∷ 62 ∷ 128 ∷ 125 ∷ 0 ∷ 15 ∷ 66 ∷ 64 ∷ 0 ∷ 0 ∷ 0 ∷ 0
    -- "Stream 1: VL 1, sampling, M 469, least 10, T 500,000, J 1,000": 00 12 0E A8 01 40 1E 84 80 00 01 F4 00
    ∷ 0 ∷ 18 ∷ 14 ∷ 168 ∷ 1 ∷ 64 ∷ 30 ∷ 132 ∷ 128 ∷ 0 ∷ 1 ∷ 244 ∷ 0
    -- "One port, 100 Mbit/s, 875 to 1,250": 1B 5A 71 00
    ∷ 27 ∷ 90 ∷ 113 ∷ 0
    -- "hop 0 VL 0, hop 1 VL 1, no parents": 00 00 00 00, 00 10 00 00
    ∷ 0 ∷ 0 ∷ 0 ∷ 0
    ∷ 0 ∷ 16 ∷ 0 ∷ 0
    ∷ []

-- "0 0 12500 19398 2043 17355" and "1 1 0 6898 2043 5855"
abbrev pub numbers : List ℕ
numbers = 0 ∷ 0 ∷ 12500 ∷ 19398 ∷ 2043 ∷ 17355 ∷ 1 ∷ 1 ∷ 0 ∷ 6898 ∷ 2043 ∷ 5855 ∷ []

-- in every permitted run each message of stream s is complete at hop h by its release + worst, and not before its release + best
pub record Arrives (net : Network) (s h worst best : ℕ) : Type 0 where
  pub by_worst :
      (run : Run) (n : ℕ) → PermittedBelow net run n → (t : ℕ) (m : Message) → t < n → Memᴰ m (released run t) → m.stream ≡ s
      → t + worst < n → Complete net run m h (t + worst)
  pub not_before_best :
      (run : Run) (n : ℕ) → PermittedBelow net run n → (t : ℕ) (m : Message) → t < n → Memᴰ m (released run t) → m.stream ≡ s
      → (u : ℕ) → u < n → Complete net run m h u → t + best ≤ u

-- what the analysis leaves for the table in a lent result of `room` numbers
pub record TwoRows (room : ℕ) (r : Analysed) (result : List ℕ) : Type 0 where
  pub answer : r.answer ≡ accepted
  pub count : r.rows ≡ 2
  pub rows : result ≡ lent room numbers

pub record WholeCase : Type 0 where
  pub size : length table ≡ 59
  -- with room for two rows the table is accepted, and these are its rows
  pub accepts : (room : ℕ) → 12 ≤ room → analysis_answer table room ≡ accepted
  pub rows : (room : ℕ) → 12 ≤ room → (r : Analysed) (result : List ℕ) → Analyses table room r result → TwoRows room r result
  -- demand 3 with their numbers
  pub stream_0 : Arrives (network_in table) 0 0 19398 2043
  pub stream_1 : Arrives (network_in table) 1 1 6898 2043
  -- "for each stream": some permitted run makes the last packet of a message of stream 0 wait exactly 12,500 ticks, and of stream 1 none
  pub waits : Reaches (network_in table) 0 12500
  pub waits_1 : Reaches (network_in table) 1 0

-- `text::Text::put_bytes` meets its contract: in each turn one byte more is put.
-- Assumes nothing.
use Rattle.std.proofs.Common.{take}
use Rattle.text.specs.Gains.{Gains}
use Rattle.text.proofs.Text.put_bytes.Given as goal

abbrev pub invariant-loop-byte : goal.invariant-loop-byte
invariant-loop-byte l = Gains l.initial.self (take l.byte-index l.bytes) l.self

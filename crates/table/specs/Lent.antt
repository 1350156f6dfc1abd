-- The six lists that are lent to a routine, as the definitions have them: read, or before and after they are written.
-- Assumes nothing.
use Rattle.std.specs.Prelude.{ℕ, List}
use Rattle.std.proofs.Common.{MutBor}
use Rattle.table.specs.declared.Lists.{Lists as Read}
use Rattle.table.specs.declared.ListsMut.{ListsMut}
use Rattle.table.specs.Lists.{Lists, lists}

abbrev pub lists_of : Read → Lists
lists_of l = lists l.header.now l.systems.now l.vls.now l.streams.now l.ports.now l.hops.now

abbrev pub lists_before : ListsMut → Lists
lists_before l = lists l.header.now l.systems.now l.vls.now l.streams.now l.ports.now l.hops.now

-- what a routine that takes them by value leaves: its `.exit`, field by field
abbrev pub Left : Type 0
Left = MutBor (List ℕ) × (MutBor (List ℕ) × (MutBor (List ℕ) × (MutBor (List ℕ) × (MutBor (List ℕ) × (MutBor (List ℕ) × Unit {0})))))

abbrev pub lists_after : Left → Lists
lists_after x = lists x.0.now x.1.0.now x.1.1.0.now x.1.1.1.0.now x.1.1.1.1.0.now x.1.1.1.1.1.0.now

-- Demand 3, what "runs" means, as a statement: a tick of a block does what 003 says, and nothing else. A dispatch runs its task until it
-- completes or its timeout, counted from the block's start; an idle waits for its timeout; after the last row nothing runs.
-- Proved of these definitions in proofs/Ticks.antt.
use Rattle.std.specs.Prelude.{ℕ, List}
use Rattle.runs.specs.Tick.{Row, Place}
use Rattle.runs.specs.Over.{TickSays}

-- every tick does what 003 says: of every block, for any ticks gone by, any position and any remaining times
abbrev pub TickExact : Type 0
TickExact = (block : List Row) (e : ℕ) (s : Place) → TickSays block e s

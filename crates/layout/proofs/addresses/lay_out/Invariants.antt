-- `layout::addresses::lay_out` meets its contract: after k modes the lists have the first k, and the next one begins behind them.
use lib.IntN.{ℤ}
use Rattle.program.specs.Tables.{tables_in}
use Rattle.layout.proofs.Laid.{Laying}
use Rattle.layout.proofs.addresses.lay_out.Given as goal

abbrev pub invariant-loop-k : goal.invariant-loop-k
invariant-loop-k l =
    (start : ℤ) → Laying (tables_in l.tables start) l.sensors l.initial.starts l.initial.entries l.k l.at l.starts l.entries

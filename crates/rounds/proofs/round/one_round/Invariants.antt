-- `rounds::round::one_round` meets its contract: what is left of the units is judged as the whole round.
use lib.IntN.{ℤ}
use Rattle.program.specs.Tables.{tables_in}
use Rattle.rounds.proofs.Going.{Going}
use Rattle.rounds.proofs.round.one_round.Given as goal

abbrev pub invariant-loop-k : goal.invariant-loop-k
invariant-loop-k l =
    (start : ℤ) → Going (tables_in l.asked.tables.now start) l.asked.windows.now l.asked.part.now l.asked.sensors l.asked.supplier l.m.0 l.u l.ticks l.fn.begin.at l.fn.begin.row l.k l.at l.row l.left

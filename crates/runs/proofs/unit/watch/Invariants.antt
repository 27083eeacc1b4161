-- `runs::unit::watch` meets its contract: after every tick, those left come to what all come to.
use Rattle.runs.specs.Schedule.{rows_of}
use Rattle.runs.proofs.Watching.{Watching}
use Rattle.runs.proofs.unit.watch.Given as goal

abbrev pub invariant-loop-e : goal.invariant-loop-e
invariant-loop-e l =
    Watching l.windows.rows.now l.windows.supplier l.windows.mode.0 (rows_of l.block) l.ticks l.start l.initial.rest l.rest l.position l.until l.e

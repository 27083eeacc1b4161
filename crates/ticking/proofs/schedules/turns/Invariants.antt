-- `ticking::schedules::turns` meets its contract: each search begins where the block of the supplier before ends.
use Rattle.std.proofs.Common.{◌≤◌}
use Rattle.cells.specs.Limits.{suppliers}
use Rattle.runs.specs.Schedule.{schedule_count, Sorted}
use Rattle.ticking.proofs.Walking.{Walked}
use Rattle.ticking.proofs.schedules.turns.Given as goal

abbrev pub invariant-loop-j : goal.invariant-loop-j
invariant-loop-j l =
    (l.from ≤ schedule_count l.rows) × (l.j ≤ suppliers) × (Sorted l.rows → Walked l.rows l.s l.positions l.running l.from l.j)

-- `rounds::own::Course::released` meets its contract: what is left of the rows is still to be released.
use Rattle.cells.specs.Cell.{rows_in, field_at, named_at}
use Rattle.program.specs.Tables.{task_width, task_worst_column, invocation_width, invocation_task_column}
use Rattle.rounds.specs.Course.{own_due}
use Rattle.rounds.proofs.Releases.{Releasing}
use Rattle.rounds.proofs.own.Course.released.Given as goal

abbrev pub invariant-loop-i : goal.invariant-loop-i
invariant-loop-i l =
    Releasing (own_due l.self.tasks.now l.self.invocations.now l.self.supplier l.self.mode.0 l.self.units l.k) (named_at invocation_width invocation_task_column l.self.invocations.now) (rows_in invocation_width l.self.invocations.now)
    (field_at task_width task_worst_column l.self.tasks.now) l.initial.left l.i l.left

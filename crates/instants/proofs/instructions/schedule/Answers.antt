-- `instants::instructions::schedule` meets its contract: a task that is declared is named by its number.
use mathlib.Core.Bool.{not}
use mathlib.Core.Path.{ap}
use mathlib.Core.Path.{◌∙◌}
use Rattle.std.specs.Prelude.{Ok}
use Rattle.instants.specs.declared.instructions.Stepping.{Stepping}
use Rattle.instants.specs.Step.{stepped_of}
use Rattle.instants.proofs.Executed.{schedule-faulty, schedule-late, schedule-running, schedule-released}
use Rattle.instants.proofs.instructions.schedule.Goals as goal

pub returns-then-unused-declared : goal.returns-then-unused-declared
returns-then-unused-declared c T e readings count =
    schedule-faulty T readings c.args.times.now count c.args.at c.args.t c.args.unused _ _ e c.requires.tasks_bound
    c.of-own.ensures c.declared.ensures c.if-unused-declared.true

pub returns-then-not-in_range : goal.returns-then-not-in_range
returns-then-not-in_range c T e readings count =
    schedule-late T readings c.args.times.now count c.args.at c.args.t c.args.unused _ _ e c.requires.tasks_bound
    c.of-own.ensures c.declared.ensures c.if-unused-declared.false _ _ c.time-time.ensures c.worst-worst.ensures (ap not c.if-not-in_range.true)

pub returns-then-left-gt0 : goal.returns-then-left-gt0
returns-then-left-gt0 c T e readings count =
    schedule-running T readings c.args.times.now count c.args.at c.args.t c.args.unused _ _ e c.requires.tasks_bound
    c.of-own.ensures c.declared.ensures c.if-unused-declared.false _ _ c.time-time.ensures c.worst-worst.ensures (ap not c.if-not-in_range.false)
    _ c.left.ensures c.if-left-gt0.true

pub returns : goal.returns
returns c T e readings count =
    ap (λ (m : Stepping). stepped_of c.args.at (Ok m)) c.moved.ensures
    ∙ schedule-released T readings c.args.times.now count c.args.at c.args.t c.args.unused _ _ e c.requires.tasks_bound
    c.of-own.ensures c.declared.ensures c.if-unused-declared.false _ _ c.time-time.ensures c.worst-worst.ensures (ap not c.if-not-in_range.false)
    _ c.left.ensures _ c.if-left-gt0.false c.put_left.ensures

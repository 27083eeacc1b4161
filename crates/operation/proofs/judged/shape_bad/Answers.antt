-- `operation::judged::shape_bad` meets its contract: the tables' shape, then that of code, schedule and what is lent to a tick.
use mathlib.Core.Bool.{◌||◌}
use Rattle.cells.specs.Limits.{max_ports, max_tasks}
use Rattle.rules.specs.Shape.{bad_length}
use Rattle.machine.specs.Advance.{advance_shape_bad}
use Rattle.operation.proofs.judged.shape_bad.Goals as goal

pub returns : goal.returns
unfolding advance_shape_bad bad_length
returns c start s =
    let a = c.args in
    λ i.
    c.shape_bad.ensures start i
    || c.bad_code.ensures i
    || c.bad_slice.ensures i
    || bad_length max_ports a.readings.now
    || bad_length max_ports a.results.now
    || bad_length max_tasks a.times.now

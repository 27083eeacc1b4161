-- `instants::calls::call` meets its contract: the number's range says what it names.
use mathlib.Core.Path.{refl, ap, ◌∙◌}
use native.Mathlib.Omega.{arith}
use Rattle.program.specs.Tables.{tables_in}
use Rattle.instants.specs.Step.{call_answer}
use Rattle.instants.proofs.Declared.{program_in, few-ports, few-tasks, few-drivers}
use Rattle.instants.proofs.Answered.{driver-numbered, output-numbered, sensor-numbered}
use Rattle.instants.proofs.calls.call.Goals as goal

pub driver_call-requires : goal.driver_call-requires
driver_call-requires c =
    few-drivers c.args.tables.now c.requires

pub output_call-requires : goal.output_call-requires
output_call-requires c =
    few-tasks c.args.tables.now c.requires

pub sensor_call-requires : goal.sensor_call-requires
sensor_call-requires c =
    few-ports c.args.tables.now c.requires

pub returns-in-0-to-999 : goal.returns-in-0-to-999
returns-in-0-to-999 c start times =
    let s = c.args in
    c.driver_call.ensures start s.readings.now times
    ∙ ap (call_answer (program_in s.tables.now start) s.readings.now times s.s) (driver-numbered s.n (omega arith))

pub returns-in-1000-to-1999 : goal.returns-in-1000-to-1999
returns-in-1000-to-1999 c start times =
    let s = c.args in
    c.output_call.ensures start s.readings.now times
    ∙ ap (call_answer (program_in s.tables.now start) s.readings.now times s.s)
    (output-numbered s.n (omega arith) (omega arith))

pub returns-in-2000-to-max : goal.returns-in-2000-to-max
returns-in-2000-to-max c start times =
    let s = c.args in
    c.sensor_call.ensures (tables_in s.tables.now start) refl times
    ∙ ap (call_answer (program_in s.tables.now start) s.readings.now times s.s) (sensor-numbered s.n (omega arith))

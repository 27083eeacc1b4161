-- `writing::blocks::head` meets its contract: output copies, updates, sensors, each behind the one before.
use mathlib.Core.List.{◌++◌}
use native.Mathlib.Omega.{arith}
use Rattle.program.specs.Tables.{invocation_width, update_width}
use Rattle.program.specs.Sets.{sensor_rows}
use Rattle.words.specs.Written.{written}
use Rattle.writing.specs.Rows.{output_in, update_in, outputs_in, updates_in, reading}
use Rattle.words.proofs.Written.{writes_then, written_at}
use Rattle.writing.proofs.Parts.{due-most}
use Rattle.writing.proofs.blocks.head.Goals as goal

pub updates-sensors_at-requires : goal.updates-sensors_at-requires
updates-sensors_at-requires c =
    let a = c.args in
    omega (
      arith,
      written_at (written a.code.now a.at) (outputs_in a.invocations.now a.when) c.outputs-updates_at.ensures,
      due-most invocation_width a.invocations.now a.when (output_in a.invocations.now),
      c.requires,
    )

pub sensors-requires-clause-ports_bound : goal.sensors-requires-clause-ports_bound
sensors-requires-clause-ports_bound c =
    let a = c.args in
    let first = c.outputs-updates_at in
    omega (
      arith,
      written_at (written a.code.now a.at) (outputs_in a.invocations.now a.when) first.ensures,
      written_at (written first.new.code first.result) (updates_in a.updates.now a.when) c.updates-sensors_at.ensures,
      due-most invocation_width a.invocations.now a.when (output_in a.invocations.now),
      due-most update_width a.updates.now a.when (update_in a.updates.now),
      c.requires,
    )

pub returns : goal.returns
returns c =
    let a = c.args in
    let first = c.outputs-updates_at in
    let changes = updates_in a.updates.now a.when in
    let readings = sensor_rows a.ports.now reading in
    writes_then (written a.code.now a.at) (outputs_in a.invocations.now a.when) (changes ++ readings) first.ensures
    (writes_then (written first.new.code first.result) changes readings c.updates-sensors_at.ensures c.sensors.ensures)

-- `writing::blocks::body` meets its contract: the schedules stand behind the drivers.
use native.Mathlib.Omega.{arith}
use Rattle.program.specs.Tables.{invocation_width}
use Rattle.words.specs.Written.{written}
use Rattle.writing.specs.Rows.{driver_in, drivers_in, schedules_in}
use Rattle.words.proofs.Written.{writes_then, written_at}
use Rattle.writing.proofs.Parts.{due-most}
use Rattle.writing.proofs.blocks.body.Goals as goal

pub schedules-requires : goal.schedules-requires
schedules-requires c =
    let a = c.args in
    let t = a.invocations.now in
    omega (
      arith,
      written_at (written a.code.now a.at) (drivers_in t a.when) c.drivers-schedules_at.ensures,
      due-most invocation_width t a.when (driver_in t),
      c.requires,
    )

pub returns : goal.returns
returns c =
    let a = c.args in
    let t = a.invocations.now in
    writes_then (written a.code.now a.at) (drivers_in t a.when) (schedules_in t a.when) c.drivers-schedules_at.ensures c.schedules.ensures

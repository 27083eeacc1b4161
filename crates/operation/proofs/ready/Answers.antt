-- `operation::ready` meets its contract: nothing is done while a tick of the unit remains, else the instant is run.
use mathlib.Core.Path.{sym, ap, ◌∙◌}
use native.Mathlib.Omega.{arith}
use Rattle.code.specs.Op.{instructions}
use Rattle.machine.specs.Advance.{answer}
use Rattle.machine.proofs.Ready.{ready-runs}
use Rattle.instants.proofs.Declared.{program_in}
use Rattle.operation.proofs.ready.Goals as goal

pub returns : goal.returns
returns c start =
    let a = c.args in
    let P = program_in a.tables.now start in
    c.instant.ensures start
    ∙ ap (answer a.s)
    (sym (ready-runs P (instructions a.code.now) a.readings.now a.times.now a.s (omega (arith, c.if-s-gt0.false))))

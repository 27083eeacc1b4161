-- `instants::calls::driver_call` meets its contract: a driver that is declared is named by its number.
use mathlib.Core.Bool.{not}
use mathlib.Core.Path.{ap, refl}
use Rattle.instants.proofs.Answered.{driver-nothing, driver-done}
use Rattle.program.specs.Tables.{tables_in}
use Rattle.instants.proofs.calls.driver_call.Goals as goal

pub returns-then-not-declared : goal.returns-then-not-declared
returns-then-not-declared c start readings times =
    let T = tables_in c.args.tables.now start in
    driver-nothing T readings times c.args.s _ _ _ refl c.requires c.of-own.ensures c.declared.ensures (ap not c.if-not-declared.true)

pub returns : goal.returns
returns c start readings times =
    let T = tables_in c.args.tables.now start in
    driver-done T readings times c.args.s _ _ _ refl c.requires c.of-own.ensures c.declared.ensures _ (ap not c.if-not-declared.false)
    (c.driven-ports.ensures T refl refl)

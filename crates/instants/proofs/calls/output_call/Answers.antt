-- `instants::calls::output_call` meets its contract: a task that is declared is named by its number.
use mathlib.Core.Bool.{not}
use mathlib.Core.Path.{ap, refl}
use Rattle.instants.proofs.Answered.{output-nothing, output-running, output-done}
use Rattle.program.specs.Tables.{tables_in}
use Rattle.instants.proofs.calls.output_call.Goals as goal

pub returns-then-not-declared : goal.returns-then-not-declared
returns-then-not-declared c start readings times =
    let T = tables_in c.args.tables.now start in
    output-nothing T readings times c.args.s _ _ _ refl c.requires c.of-own.ensures c.declared.ensures (ap not c.if-not-declared.true)

pub returns-then-left-gt0 : goal.returns-then-left-gt0
returns-then-left-gt0 c start readings times =
    let T = tables_in c.args.tables.now start in
    output-running T readings times c.args.s _ _ _ refl c.requires c.of-own.ensures c.declared.ensures (ap not c.if-not-declared.false)
    _ c.left.ensures c.if-left-gt0.true

pub returns : goal.returns
returns c start readings times =
    let T = tables_in c.args.tables.now start in
    output-done T readings times c.args.s _ _ _ refl c.requires c.of-own.ensures c.declared.ensures (ap not c.if-not-declared.false)
    _ _ c.left.ensures c.if-left-gt0.false (c.gives_taken-values.ensures T refl refl)

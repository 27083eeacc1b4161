-- `rules_3_5::guards::guard_wrong` meets its contract: the kind of the guard, and that of the port that it names.
use mathlib.Core.Path.{refl}
use Rattle.rules.specs.Declared.{guard_wrong}
use Rattle.program.specs.Tables.{tables_in}
use Rattle.rules_3_5.proofs.guards.guard_wrong.Goals as goal

pub returns : goal.returns
unfolding guard_wrong
returns c start =
    let T = tables_in c.args.tables.now start in
    simp (c.is_kind.ensures T refl, c.is_interval.ensures T refl, c.port-p.ensures) refl

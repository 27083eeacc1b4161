-- `rules_3_5::guards::first_guard_wrong` meets its contract: the search asks the test of each row, and a row in shape is the driver that
-- it names.
use Rattle.std.proofs.Common.{rules}
use mathlib.Core.Path.{◌≡◌}
use native.Mathlib.Omega.{arith}
use Rattle.cells.specs.Cell.{name_of}
use Rattle.cells.proofs.Names.{name-small}
use Rattle.program.specs.Tables.{tables_in}
use Rattle.rules.specs.Declared.{guard_wrong}
use Rattle.rules.proofs.Shape.{drivers-nameable}
use Rattle.rules_3_5.proofs.guards.first_guard_wrong.Goals as goal

pub returns : goal.returns
returns c start =
    let T = tables_in c.args.tables.now start in
    c.first.ensures.row (guard_wrong T) (λ k l b r.
    let n : name_of k ≡ k = name-small k (omega (arith, l, drivers-nameable T (c.requires start))) in
    search (rules, n))

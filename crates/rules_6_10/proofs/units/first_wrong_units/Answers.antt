-- `rules_6_10::units::first_wrong_units` meets its contract: the search asks the test of each row, and a row in shape is the mode that
-- it names.
use Rattle.std.proofs.Common.{rules}
use mathlib.Core.Path.{◌≡◌}
use native.Mathlib.Omega.{arith}
use Rattle.cells.specs.Cell.{name_of}
use Rattle.cells.proofs.Names.{name-small}
use Rattle.program.specs.Tables.{tables_in}
use Rattle.rules.specs.Timing.{units_wrong}
use Rattle.rules.proofs.Shape.{modes-nameable}
use Rattle.rules_6_10.proofs.units.first_wrong_units.Goals as goal

pub returns : goal.returns
returns c start =
    let T = tables_in c.args.tables.now start in
    c.first.ensures.row (units_wrong T) (λ k l b r.
    let n : name_of k ≡ k = name-small k (omega (arith, l, modes-nameable T (c.requires start))) in
    search (rules, n))

-- `cells::table::named` meets its contract.
use mathlib.Core.Path.{ap, ◌∙◌}
use Rattle.cells.specs.Cell.{name_of, name_at}
use Rattle.cells.proofs.table.named.Goals as goal

pub returns : goal.returns
unfolding name_at
returns g c = c.of.ensures ∙ ap name_of c.field.ensures
